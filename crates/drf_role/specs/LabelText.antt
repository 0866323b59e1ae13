-- The text of a label: how its bytes are stored, and the number by which short texts are compared.
use Rattle.std.specs.Prelude.{◌≡◌, ◌≢◌, ℕ, ◌+◌, ◌*◌, ◌<◌, nat_le, if◌then◌else◌, All, fold, length}
use Rattle.std.specs.Arc.{arc_value}
use Rattle.std.specs.String.{string_bytes}
use Rattle.drf_role.specs.Text.{Text}
use Rattle.drf_role.specs.declared.label_text.LabelBytes.{LabelBytes}
use Rattle.drf_role.specs.declared.label_text.LabelBytes.TheVariants.{Here, Shared}

-- the bytes, however they are stored
abbrev pub bytes_of : LabelBytes → Text
bytes_of (Here text) = text.bytes
bytes_of (Shared text) = string_bytes (arc_value text)

abbrev pub IsByte : ℕ → Type 0
IsByte n = n < 256

-- the number with one more digit in base 256
abbrev pub with_digit : ℕ → ℕ → ℕ
with_digit number byte = number * 256 + byte

-- the bytes as digits in base 256, and their count as a last digit in base 8
abbrev pub number_of : Text → ℕ
number_of text = fold with_digit 0 text * 8 + length text

-- the number of a text of at most 7 bytes, which is 0 for the empty text, and 0 for any longer text
abbrev pub text_number : Text → ℕ
text_number text = if nat_le (length text) 7 then number_of text else 0

-- the number is that of the text
pub record IsNumbered (text : Text) (number : ℕ) : Type 0 where
  pub right : number ≡ text_number text
  pub bytes : number ≢ 0 → All IsByte text
