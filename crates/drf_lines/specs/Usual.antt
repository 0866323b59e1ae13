-- What is at an index of a text, described by the tokens from there on.
use Rattle.std.specs.Prelude.{◌≡◌, ◌<◌, ◌≤◌, ◌||◌, ◌==◌, ℕ, List, ◌∷◌, Bool, true, length, drop, get_or, Some}
use Rattle.std.specs.Char.{is_ascii_digit}
use Rattle.json.specs.Token.{Token, key, string, number}
use Rattle.json.specs.Lex.{token, between, lex, Place, fresh, after_value, may_begin, punctuate}
use Rattle.json.specs.Json.{Json, Items, Members, value, items, members}

-- a byte that ends a value: a comma, a brace or a bracket
abbrev pub is_end : ℕ → Bool
is_end byte = (byte == 44) || (byte == 125) || (byte == 93)

-- the bytes from one index up to another are digits
abbrev pub AreDigitsFrom : List ℕ → ℕ → ℕ → Type 0
AreDigitsFrom text from to = (k : ℕ) → from ≤ k → k < to → is_ascii_digit (get_or text k 0) ≡ true

-- the tokens of the text from an index on, given what came before
abbrev pub tokens_from : Place → List ℕ → ℕ → List Token
tokens_from before text at = punctuate before (lex between (drop at text))

-- a string is at an index and ends before the next one
abbrev pub IsStringAt : List ℕ → ℕ → List ℕ → ℕ → Type 0
IsStringAt text at found next = lex between (drop at text) ≡ token (string found) ∷ lex between (drop next text)

-- a number is at an index and ends before the next one
abbrev pub IsNumberAt : List ℕ → ℕ → List ℕ → ℕ → Type 0
IsNumberAt text at found next = lex between (drop at text) ≡ token (number found) ∷ lex between (drop next text)

-- a key with its colon is at an index and ends before the next one
abbrev pub IsKeyAt : List ℕ → ℕ → List ℕ → ℕ → Type 0
IsKeyAt text at found next = (before : Place) → may_begin before ≡ true → tokens_from before text at ≡ key found ∷ tokens_from fresh text next

-- a value with at most `depth` levels is at an index and ends before the next one
abbrev pub IsValueAt : ℕ → List ℕ → ℕ → Json → ℕ → Type 0
IsValueAt depth text at found next = (before : Place) → may_begin before ≡ true → value depth (tokens_from before text at) ≡ Some (found, tokens_from after_value text next)

-- the items of an array are at the index after its opening bracket, and the closing bracket is before the next one
abbrev pub AreItemsAt : ℕ → List ℕ → ℕ → Items → ℕ → Type 0
AreItemsAt depth text at found next = items (value depth) (length (tokens_from fresh text at)) (tokens_from fresh text at) ≡ Some (found, tokens_from after_value text next)

-- the members of an object, in the same way
abbrev pub AreMembersAt : ℕ → List ℕ → ℕ → Members → ℕ → Type 0
AreMembersAt depth text at found next = members (value depth) (length (tokens_from fresh text at)) (tokens_from fresh text at) ≡ Some (found, tokens_from after_value text next)
