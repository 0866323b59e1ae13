-- When the JSON value of a line is read.
use Rattle.std.proofs.Common.{◌≡◌, Bool, true, false, cond, List, [], ◌∷◌, Option, Some, None, option_and_then, Ok, Err, ℕ, refl, ap, ◌∙◌}
use Rattle.std.specs.Option.{ok_or}
use Rattle.std.specs.Str.{IsUtf8, is_utf8}
use Rattle.std.proofs.lemmas.Str.{IsUtf8-from_is_utf8, is_utf8-from_IsUtf8}
use Rattle.json.specs.Json.{Json, if_last}
use Rattle.json.specs.Token.{Token}
use Rattle.serde_json.specs.Data.{Data}
use Rattle.serde_json.specs.Read.{of_json, read}
use Rattle.drf_lines.specs.declared.fault.LineFault.TheVariants.{NotJson}
use Rattle.drf_lines.specs.LineValue.{data_of, is_in_range}
use Rattle.drf_lines.specs.Meaning.{value_in}
use Rattle.drf_lines.proofs.LineValues.{read_in_range}

-- the meaning of a whole text, given its first value and the tokens after it
abbrev pub whole : Option (Json × List Token) → Option Data
whole o = option_and_then of_json (option_and_then (λ p. if_last p.0 p.1) o)

pub whole_in_range : (o : Option (Json × List Token)) (j : Json) → o ≡ Some (j, []) → is_in_range j ≡ true → whole o ≡ Some (data_of j)
whole_in_range o j e in_range = ap whole e ∙ read_in_range j ∙ ap (λ b. cond b (Some (data_of j)) None) in_range

pub whole_out_of_range : (o : Option (Json × List Token)) (j : Json) (rest : List Token) → o ≡ Some (j, rest) → is_in_range j ≡ false → whole o ≡ None
whole_out_of_range o j rest e out = ap whole e ∙ at rest
  where
    at : (rest : List Token) → whole (Some (j, rest)) ≡ None
    at [] = read_in_range j ∙ ap (λ b. cond b (Some (data_of j)) None) out
    at (t ∷ ts) = refl

pub value_of_utf8 : (line : List ℕ) → IsUtf8 line → value_in line ≡ ok_or (read line) NotJson
unfolding value_in
value_of_utf8 line utf8 = rw (is_utf8-from_IsUtf8 line utf8)

none_at : (line : List ℕ) (b : Bool) → is_utf8 line ≡ b → (IsUtf8 line → ⊥) → cond b (ok_or (read line) NotJson) (Err NotJson) ≡ Err NotJson
none_at line true e not = absurd (not (IsUtf8-from_is_utf8 line e))
none_at line false e not = refl

pub value_of_other : (line : List ℕ) → (IsUtf8 line → ⊥) → value_in line ≡ Err NotJson
unfolding value_in
value_of_other line not = none_at line (is_utf8 line) refl not

utf8_at : (line : List ℕ) (b : Bool) (v : Data) → is_utf8 line ≡ b → cond b (ok_or (read line) NotJson) (Err NotJson) ≡ Ok v → IsUtf8 line
utf8_at line true v e is = IsUtf8-from_is_utf8 line e
utf8_at line false v e is = absurd (cc)

pub utf8_of_value : (line : List ℕ) (v : Data) → value_in line ≡ Ok v → IsUtf8 line
unfolding value_in
utf8_of_value line v is = utf8_at line (is_utf8 line) v refl is
