use Rattle.std.proofs.Common.{IsUtf8, rules, arith, subst, ◌∙◌}
use Rattle.drf_lines.specs.Written.{IsText}
use Rattle.drf_lines.proofs.Texts.{holds_at_ok, weight_said}
use Rattle.drf_lines.proofs.weights.put_weight.Goals as goal

pub returns-clause-appends : goal.returns-clause-appends
returns-clause-appends c = rw (c.as_str.ensures.value, c.in_ok-text.ensures) at c.put_text.ensures

pub returns-clause-read : goal.returns-clause-read
returns-clause-read c = holds_at_ok c.put_text.result _ (weight_said c.args.weight c.weight_round_trip_law.ensures (search (rules, arith)))

pub returns-clause-text : goal.returns-clause-text
unfolding IsText
returns-clause-text c = holds_at_ok c.put_text.result _ (subst IsUtf8 (c.as_str.ensures.value ∙ c.in_ok-text.ensures) c.as_str.utf8)
