-- Which texts are names and which are labels.
use Rattle.std.specs.Prelude.{◌≡◌, ℕ, ◌≤◌, ◌⊎◌, List, length, All}
use Rattle.std.specs.Char.{IsAsciiAlphanumeric}

-- a letter, a digit, `_`, `-` or `.`
abbrev pub IsNameByte : ℕ → Type 0
IsNameByte b = IsAsciiAlphanumeric b ⊎ ((b ≡ 95) ⊎ ((b ≡ 45) ⊎ (b ≡ 46)))

-- one of these, or `/`
abbrev pub IsLabelByte : ℕ → Type 0
IsLabelByte b = IsNameByte b ⊎ (b ≡ 47)

-- the name of an agent, a framework or a task
pub record IsName (text : List ℕ) : Type 0 where
  pub not_empty : 1 ≤ length text
  pub short : length text ≤ 64
  pub alphabet : All IsNameByte text

-- the name of a resource, or of a member of a set
pub record IsLabel (text : List ℕ) : Type 0 where
  pub not_empty : 1 ≤ length text
  pub short : length text ≤ 64
  pub alphabet : All IsLabelByte text
