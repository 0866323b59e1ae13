-- How the name of a file is written in messages.
use Rattle.std.specs.Prelude.{ℕ, ◌==◌, List, [], ◌∷◌, ◌++◌, nat_lt, if◌then◌else◌}
use Rattle.std.specs.List.{flat_map, list_any}
use Rattle.std.specs.Char.Escape.{escape_ascii}

-- how a byte of it is written: ASCII as Rust's `escape_ascii` does, so that it contains no control bytes
abbrev pub reported_byte : ℕ → List ℕ
reported_byte byte = if nat_lt byte 128 then escape_ascii byte else byte ∷ []

-- the name, in quotes if it has a space
abbrev pub reported_name : List ℕ → List ℕ
reported_name name = if list_any (λ byte. byte == 32) name then 34 ∷ flat_map reported_byte name ++ 34 ∷ [] else flat_map reported_byte name
