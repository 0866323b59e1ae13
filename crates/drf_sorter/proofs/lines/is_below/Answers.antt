use Rattle.std.proofs.Common.{◌≡◌, ◌<◌, ◌+◌, ◌∷◌, ◌++◌, length, drop, ap, ◌∙◌, arith}
use Rattle.std.proofs.lemmas.Bool.Decides.{Decides-eqb}
use Rattle.std.proofs.lemmas.List.{drop_more}
use Rattle.std.proofs.lemmas.Slice.Eq.{starts_is}
use Rattle.drf_role.specs.Parts.{parts_of}
use Rattle.drf_sorter.proofs.BehindLemmas.{goes_on_behind}
use Rattle.drf_sorter.proofs.lines.is_below.Goals as goal

pub returns-then-text-prefix-eq47 : goal.returns-then-text-prefix-eq47
returns-then-text-prefix-eq47 c is =
    let text = c.as_bytes-text.result.now in
    let prefix = c.as_bytes-prefix.result.now in
    let longer : length prefix < length text = omega (arith, c.if-text-prefix.false) in
    let slash : drop (length prefix) text ≡ 47 ∷ drop (length prefix + 1) text =
    drop_more text (length prefix) 0 longer ∙ ap (λ b. b ∷ drop (length prefix + 1) text) c.if-text-prefix-eq47.true in
    goes_on_behind c.args.path.now c.args.other.now text prefix (drop (length prefix + 1) text)
    (ap parts_of c.as_bytes-text.ensures.value ∙ c.text.ensures.parts)
    (ap parts_of c.as_bytes-prefix.ensures.value ∙ c.text-2.ensures.parts)
    ((starts_is Decides-eqb text prefix c.starts_with.result c.starts_with.ensures.value).0 is ∙ ap (λ r. prefix ++ r) slash)
