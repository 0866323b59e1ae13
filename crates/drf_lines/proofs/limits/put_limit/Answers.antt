use Rattle.std.proofs.Common.{IsUtf8, subst, ◌∙◌}
use Rattle.drf_lines.specs.Written.{IsText}
use Rattle.drf_lines.proofs.Texts.{holds_at_ok, quantities_said}
use Rattle.drf_lines.proofs.limits.put_limit.Goals as goal

pub returns-clause-appends : goal.returns-clause-appends
returns-clause-appends c = rw (c.as_str.ensures.value, c.in_ok-text.ensures.text) at c.put_text.ensures

pub returns-clause-read : goal.returns-clause-read
returns-clause-read c = holds_at_ok c.put_text.result _ (quantities_said c.args.limit.now c.in_ok-text.ensures.read)

pub returns-clause-text : goal.returns-clause-text
unfolding IsText
returns-clause-text c = holds_at_ok c.put_text.result _ (subst IsUtf8 (c.as_str.ensures.value ∙ c.in_ok-text.ensures.text) c.as_str.utf8)
