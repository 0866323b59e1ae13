use Rattle.std.proofs.Common.{refl}
use Rattle.json.specs.Print.{escape_byte}
use Rattle.drf_lines.proofs.Appends.{and_members}
use Rattle.drf_lines.proofs.offers.put_answered.Goals as goal

pub returns-clause-appends : goal.returns-clause-appends
unfolding escape_byte
returns-clause-appends c = and_members (λ more. refl) c.in_ok-put_number.ensures.appends c.put_refusal.ensures
