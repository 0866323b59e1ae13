-- The members of a JSON object: how many keys it has, and the text, number, boolean or texts under a key.
use Rattle.std.specs.Prelude.{ℕ, Bool, false, ◌==◌, suc, List, [], ◌∷◌, Option, Some, Result, Ok, Err, is_some, option_map, option_and_then, if◌then◌else◌}
use Rattle.std.specs.Option.{ok_or, option_map_or}
use Rattle.serde_json.specs.Data.{Data, Items, no_items, item, Members, no_members, member}
use Rattle.serde_json.specs.Find.{get, as_str, as_bool, as_number, as_u64, as_array, as_object}
use Rattle.drf_lines.specs.declared.fault.LineFault.{LineFault}
use Rattle.drf_lines.specs.declared.fault.LineFault.TheVariants.{BadShape}

-- ---- the number of keys

abbrev pub member_count : Members → ℕ
member_count no_members = 0
member_count (member key value members) = suc (member_count members)

-- the value is an object with exactly `count` keys; an object that was read has each key once
unfoldable pub has_members : ℕ → Data → Bool
has_members count value = option_map_or (λ members. member_count members == count) (as_object value) false

-- the object has exactly `count` keys; since each of them is asked for in another step, it has no others
unfoldable pub keys : ℕ → Data → Result (Unit {0}) LineFault
keys count value = if has_members count value then Ok tt else Err BadShape

-- the object has exactly `count` keys besides an optional one
unfoldable pub keys_besides : List ℕ → ℕ → Data → Result (Unit {0}) LineFault
keys_besides key count value = if is_some (get key value) then keys (suc count) value else keys count value

-- ---- the value under a key

-- the text of each item, if all items are strings
abbrev pub texts_of : Items → Option (List (List ℕ))
texts_of no_items = Some []
texts_of (item value items) =
    option_and_then (λ text. option_map (λ texts. text ∷ texts) (texts_of items)) (as_str value)

-- the value as an integer below 2^64
abbrev pub number_of : Data → Option ℕ
number_of value = option_and_then as_u64 (as_number value)

unfoldable pub text_at : List ℕ → Data → Result (List ℕ) LineFault
text_at key value = ok_or (option_and_then as_str (get key value)) BadShape

unfoldable pub number_at : List ℕ → Data → Result ℕ LineFault
number_at key value = ok_or (option_and_then number_of (get key value)) BadShape

unfoldable pub boolean_at : List ℕ → Data → Result Bool LineFault
boolean_at key value = ok_or (option_and_then as_bool (get key value)) BadShape

-- the number under a key, or the default if there is no such key
unfoldable pub number_or : ℕ → List ℕ → Data → Result ℕ LineFault
number_or usual key value = option_map_or (λ found. ok_or (number_of found) BadShape) (get key value) (Ok usual)

unfoldable pub texts_at : List ℕ → Data → Result (List (List ℕ)) LineFault
texts_at key value = ok_or (option_and_then texts_of (option_and_then as_array (get key value))) BadShape
