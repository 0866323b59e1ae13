-- Removing spaces and tabs at the ends of a text.
use Rattle.std.specs.Prelude.{◌≡◌, ℕ, Bool, ◌==◌, ◌||◌, ◌⊎◌, [], ◌∷◌, ◌++◌, IsTrue, if◌then◌else◌}
use Rattle.std.specs.List.{list_all}
use Rattle.drf_role.specs.Text.{Text}

-- a space or a tab
abbrev pub is_blank : ℕ → Bool
is_blank b = b == 32 || b == 9

abbrev pub without_first_blanks : Text → Text
without_first_blanks [] = []
without_first_blanks (b ∷ bs) = if is_blank b then without_first_blanks bs else b ∷ bs

abbrev pub without_last_blanks : Text → Text
without_last_blanks [] = []
without_last_blanks (b ∷ bs) = if list_all is_blank (b ∷ bs) then [] else b ∷ without_last_blanks bs

-- the text without spaces and tabs at both ends
abbrev pub trimmed : Text → Text
trimmed text = without_last_blanks (without_first_blanks text)

-- the rest is the text without its first byte if this is a space or a tab, and else the whole text
abbrev pub IsOneFirstLess : Text → Text → Type 0
IsOneFirstLess text rest = ((b : ℕ) × IsTrue (is_blank b) × (text ≡ b ∷ rest)) ⊎ ((rest ≡ text) × (without_first_blanks text ≡ text))

-- the same for its last byte
abbrev pub IsOneLastLess : Text → Text → Type 0
IsOneLastLess text rest = ((b : ℕ) × IsTrue (is_blank b) × (text ≡ rest ++ b ∷ [])) ⊎ ((rest ≡ text) × (without_last_blanks text ≡ text))
