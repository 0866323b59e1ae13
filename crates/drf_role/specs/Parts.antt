-- A text in parts that are separated by `/`.
use Rattle.std.specs.Prelude.{◌==◌, ◌≡◌, ℕ, List, ◌∷◌, ◌++◌, ◌⊎◌}
use Rattle.std.specs.List.{slice_split, join_with_byte}

-- the parts of a text, which is cut at each `/`
abbrev pub parts_of : List ℕ → List (List ℕ)
parts_of text = slice_split (λ b. b == 47) text

-- the parts joined by `/`
abbrev pub text_of : List (List ℕ) → List ℕ
text_of parts = join_with_byte 47 parts

-- the parts of `prefix` are a prefix of the path
abbrev pub BeginsWith : List (List ℕ) → List (List ℕ) → Type 0
BeginsWith path prefix = (rest : List (List ℕ)) × (prefix ++ rest ≡ path)

-- the text is equal to the other one, or continues it with `/`
abbrev pub GoesOn : List ℕ → List ℕ → Type 0
GoesOn text prefix = (text ≡ prefix) ⊎ ((more : List ℕ) × (text ≡ prefix ++ 47 ∷ more))
