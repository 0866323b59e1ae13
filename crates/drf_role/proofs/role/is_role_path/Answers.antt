use Rattle.std.proofs.Common.{◌≡◌, ◌≤◌, length, ap, arith}
use Rattle.std.proofs.lemmas.Bool.{false≢true}
use Rattle.drf_role.specs.Parts.{parts_of, text_of}
use Rattle.drf_role.proofs.PartLaws.{text_of-parts_of, length-parts_of}
use Rattle.drf_role.proofs.role.is_role_path.Goals as goal

pub returns-then-text-gt-MAX_ROLE_LEN : goal.returns-then-text-gt-MAX_ROLE_LEN
returns-then-text-gt-MAX_ROLE_LEN c =
    let text = c.args.text.now in
    let same : length (text_of (parts_of text)) ≡ length text = ap length (text_of-parts_of text) in
    (λ e. absurd (false≢true e), λ p. let short = p.short in absurd (omega arith))

pub returns : goal.returns
returns c =
    let text = c.args.text.now in
    let same : length (text_of (parts_of text)) ≡ length text = ap length (text_of-parts_of text) in
    let some : 1 ≤ length (parts_of text) = length-parts_of text in (
      λ e. record { some = some; few = omega arith; short = omega arith; each = c.are_components.ensures.0 e },
      λ p. c.are_components.ensures.1 p.each,
    )
