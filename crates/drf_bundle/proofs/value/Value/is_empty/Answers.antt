use Rattle.drf_kinds.specs.NumberSetLaws.{number_set_laws}
use Rattle.drf_kinds.specs.TextSetLaws.{text_set_laws}
use Rattle.drf_bundle.proofs.ValueAnswers.{empty_answer}
use Rattle.drf_bundle.proofs.value.Value.is_empty.Goals as goal

pub returns-in-Ranges-clause-is_empty : goal.returns-in-Ranges-clause-is_empty
returns-in-Ranges-clause-is_empty c = rw c.in-Ranges.is (empty_answer (number_set_laws.amount_zero _ c.is_empty-in-Ranges.ensures.given) c.is_empty-in-Ranges.ensures.is_empty)

pub returns-in-Items-clause-is_empty : goal.returns-in-Items-clause-is_empty
returns-in-Items-clause-is_empty c = rw c.in-Items.is (empty_answer (text_set_laws.amount_zero _ c.is_empty-in-Items.ensures.given) c.is_empty-in-Items.ensures.is_empty)
