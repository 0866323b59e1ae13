-- Lemmas about `specs/laws/Parts.antt`.
use Rattle.std.specs.Prelude.{◌≡◌, ℕ, ◌<◌, ◌==◌, List, [], ◌∷◌, ◌++◌, length}
use Rattle.std.specs.List.{join_with_byte}
use Rattle.std.proofs.Common.{refl, ap, ◌∙◌, arith, append_assoc}
use Rattle.std.proofs.lemmas.List.Splits.{slice_split_at, join_with_byte-slice_split, length-slice_split}
use Rattle.drf_lines.specs.OneLine.{IsOneLine}
use Rattle.drf_state.specs.State.{ended}
use Rattle.drf_state.specs.laws.Parts.{parts_of_text}

-- the parts of a line and the text after it
pub parts-ended : (line rest : List ℕ) → IsOneLine line → parts_of_text (ended line ++ rest) ≡ line ∷ parts_of_text rest
parts-ended line rest one =
    ap parts_of_text (append_assoc line (10 ∷ []) rest) ∙ slice_split_at (λ b. b == 10) line 10 rest one refl

pub parts-some : (text : List ℕ) → 0 < length (parts_of_text text)
parts-some text = omega (arith, length-slice_split (λ b. b == 10) text)

-- joining the parts gives the text again
pub parts-joined : (text : List ℕ) → join_with_byte 10 (parts_of_text text) ≡ text
parts-joined text = join_with_byte-slice_split 10 text
