-- How an input is cut into lines.
use Rattle.std.specs.Prelude.{◌≡◌, ℕ, Bool, false, ◌==◌, All, List, [], ◌∷◌, ◌++◌, length, if◌then◌else◌}
use Rattle.std.specs.List.{slice_split}

abbrev pub is_line_feed : ℕ → Bool
is_line_feed b = b == 10

abbrev pub all_but_last : List (List ℕ) → List (List ℕ)
all_but_last [] = []
all_but_last (part ∷ []) = []
all_but_last (part ∷ next ∷ parts) = part ∷ all_but_last (next ∷ parts)

abbrev pub last_part : List (List ℕ) → List ℕ
last_part [] = []
last_part (part ∷ []) = part
last_part (part ∷ next ∷ parts) = last_part (next ∷ parts)

-- the lines of an input that end with a line feed
unfoldable pub ended_lines_of : List ℕ → List (List ℕ)
ended_lines_of input = all_but_last (slice_split is_line_feed input)

-- the bytes after the last line feed
unfoldable pub open_line_of : List ℕ → List ℕ
open_line_of input = last_part (slice_split is_line_feed input)

-- the lines of an input; the bytes after the last line feed are a line only if there are any
unfoldable pub lines_of : List ℕ → List (List ℕ)
lines_of input = ended_lines_of input ++ (if length (open_line_of input) == 0 then [] else open_line_of input ∷ [])

-- the bytes contain no line feed
abbrev pub IsWithinLine : List ℕ → Type 0
IsWithinLine bytes = All (λ b. is_line_feed b ≡ false) bytes
