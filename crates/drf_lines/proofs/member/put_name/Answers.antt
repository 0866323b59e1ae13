use Rattle.std.proofs.Common.{◌≡◌, IsUtf8, true, sym, subst}
use Rattle.std.specs.List.{list_all}
use Rattle.drf_lines.specs.Written.{is_plain_byte, IsText}
use Rattle.drf_lines.proofs.ReplyTexts.{name_is_plain}
use Rattle.drf_lines.proofs.Texts.{holds_at_ok, name_read}
use Rattle.drf_lines.proofs.member.put_name.Goals as goal

pub put_plain-requires : goal.put_plain-requires
put_plain-requires c =
    subst (λ text. list_all is_plain_byte text ≡ true) (sym c.text.ensures.text) (name_is_plain c.args.name.now c.text.ensures.right.alphabet)

pub returns-clause-appends : goal.returns-clause-appends
returns-clause-appends c = rw c.text.ensures.text at c.put_plain.ensures

pub returns-clause-read : goal.returns-clause-read
returns-clause-read c = holds_at_ok c.put_plain.result _ (name_read c.args.name.now c.text.ensures.right)

pub returns-clause-text : goal.returns-clause-text
unfolding IsText
returns-clause-text c = subst IsUtf8 c.text.ensures.text c.text.utf8
