-- The text that is written for a state.
use Rattle.std.proofs.Common.{◌≡◌, ℕ, List, [], ◌∷◌, ◌++◌, ap, ◌∙◌, append_assoc}
use Rattle.hex.specs.Hex.{encode_lower}
use Rattle.sha2.specs.Sha256.{sha256}
use Rattle.drf_rows.specs.declared.rows.Rows.{Rows}
use Rattle.drf_lines.specs.StateLine.{end_line}
use Rattle.drf_state.specs.State.{body_text, ended, lines_before, state_text}

-- the lines of a text, and its last line with a line feed
pub text_of : (rows : Rows) (bytes : List ℕ) (lines : ℕ) (digest : List ℕ)
    → bytes ≡ body_text rows → lines ≡ lines_before rows → digest ≡ encode_lower (sha256 bytes)
    → (bytes ++ end_line lines digest) ++ 10 ∷ [] ≡ state_text rows
unfolding state_text
text_of rows bytes lines digest body count is =
    let whole : digest ≡ encode_lower (sha256 (body_text rows)) = is ∙ ap (λ b. encode_lower (sha256 b)) body in
    append_assoc bytes (end_line lines digest) (10 ∷ []) ∙ (λ i. body i ++ ended (end_line (count i) (whole i)))
