use Rattle.std.proofs.Common.{IsUtf8, ap, sym, subst, ◌∙◌}
use Rattle.drf_role.specs.Parts.{parts_of}
use Rattle.drf_lines.specs.Written.{IsText}
use Rattle.drf_lines.proofs.Texts.{holds_at_ok, role_read}
use Rattle.drf_lines.proofs.member.put_role.Goals as goal

pub returns-clause-appends : goal.returns-clause-appends
returns-clause-appends c = rw c.text.ensures.text at c.put_text.ensures

pub returns-clause-read : goal.returns-clause-read
returns-clause-read c =
    holds_at_ok c.put_text.result _
    (role_read c.args.role.now c.text.ensures.right (ap parts_of (sym c.text.ensures.text) ∙ c.text.ensures.parts))

pub returns-clause-text : goal.returns-clause-text
unfolding IsText
returns-clause-text c = subst IsUtf8 c.text.ensures.text c.text.utf8
