use Rattle.drf_ask.proofs.Machines.{limits-stay}
use Rattle.drf_ask.proofs.asking.push_text_for.Goals as goal

pub returns-clause-limits : goal.returns-clause-limits
returns-clause-limits g c = limits-stay _ _ _ c.reply_to_parted_line.ensures.taken
