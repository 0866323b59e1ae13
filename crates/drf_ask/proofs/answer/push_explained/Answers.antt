use Rattle.std.proofs.Common.{sym, ◌∙◌}
use Rattle.drf_ask.proofs.answer.push_explained.Goals as goal

pub returns-in-Some : goal.returns-in-Some
returns-in-Some g c = rw (sym c.timestamp_of.ensures.value ∙ c.in-Some.is) c.push_findings.ensures
