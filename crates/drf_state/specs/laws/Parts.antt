-- Texts and the parts between their line feeds.
use Rattle.std.specs.Prelude.{ℕ, ◌==◌, List}
use Rattle.std.specs.List.{slice_split}

abbrev pub parts_of_text : List ℕ → List (List ℕ)
parts_of_text text = slice_split (λ b. b == 10) text
