-- The report of a line that is not an event: its number, the column, the error, and a hint.
use Rattle.std.specs.Prelude.{◌≡◌, ℕ, ◌+◌, ◌≤◌, true, Bool, ◌&&◌, nat_le, List, [], ◌∷◌, ◌++◌, All, length, codes, decimal}
use Rattle.drf_lines.specs.declared.fault.LineFault.{LineFault}
use Rattle.drf_lines.specs.Fault.{fault_number, fault_name}

-- visible ASCII or a space: no control byte, and no line feed
abbrev pub is_seen : ℕ → Bool
is_seen b = nat_le 32 b && nat_le b 126

-- the greatest length of a hint in bytes
abbrev pub most_words : ℕ
most_words = 240

-- a text that is valid as a hint
pub record AreWords (words : List ℕ) : Type 0 where
  pub seen : All (λ b. is_seen b ≡ true) words
  pub few : length words ≤ most_words

-- a column of a line of this length: a byte of the line, counted from 1, or the position right after its end
pub record IsColumn (length_of_line column : ℕ) : Type 0 where
  pub first : 1 ≤ column
  pub last : column ≤ length_of_line + 1

-- the report, such as `line 7 column 42: 33 BadText: ` and the hint
abbrev pub reported_line : ℕ → LineFault → ℕ → List ℕ → List ℕ
reported_line number fault column words =
    (codes "line " ++ decimal number) ++ ((codes " column " ++ decimal column) ++ ((codes ": " ++ decimal (fault_number fault))
    ++ (32 ∷ fault_name fault ++ (codes ": " ++ (words ++ 10 ∷ [])))))

-- the text is a report that the line with this number and these bytes has this error
pub record IsReporting (number : ℕ) (line : List ℕ) (fault : LineFault) (text : List ℕ) : Type 0 where
  pub column : ℕ
  pub words : List ℕ
  pub place : IsColumn (length line) column
  pub are_words : AreWords words
  pub text_is : text ≡ reported_line number fault column words
