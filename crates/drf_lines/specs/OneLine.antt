-- Texts without line feeds.
use Rattle.std.specs.Prelude.{◌≡◌, ℕ, ◌==◌, false, List, All}

-- no byte is a line feed
abbrev pub IsOneLine : List ℕ → Type 0
IsOneLine text = All (λ b. (b == 10) ≡ false) text
