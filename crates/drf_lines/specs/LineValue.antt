-- The data that the JSON value of a line represents. Texts are borrowed from the line. Of equal keys the last one
-- counts, as in serde_json. A number out of the range of a double, which no value of a line has, is treated as -1.
use Rattle.std.specs.Prelude.{◌≡◌, ℕ, negsuc, List, [], ◌∷◌, Bool, true, false, ◌&&◌, ◌||◌, Option, map, is_some, unwrap_or}
use Rattle.std.specs.Str.{bytes_eq}
use Rattle.json.specs.Json as json
use Rattle.json.specs.Value.{value_view}
use Rattle.json.specs.declared.value.Value.{Value}
use Rattle.serde_json.specs.Data.{Num, negative, Data, null, boolean, number, string, array, object, Items, no_items, item, Members, no_members, put}
use Rattle.serde_json.specs.Read.{number_of}
use Rattle.serde_json.specs.View as seen
use Rattle.drf_lines.specs.declared.fault.LineFault.TheVariants.{NotJson}
use Rattle.drf_lines.specs.declared.fault.LineError.{LineError}
use Rattle.drf_lines.specs.declared.fault.LineError.TheVariants.{Fault, Memory}

-- the number if it is in range, and else -1
abbrev pub known_number : Option Num → Num
known_number read = unwrap_or read (negative (negsuc 0))

-- the number that a text represents
abbrev pub number_in : List ℕ → Num
number_in text = known_number (number_of text)

abbrev mutual
  pub data_of : json.Json → Data
  data_of json.null = null
  data_of (json.boolean b) = boolean b
  data_of (json.number text) = number (number_in text)
  data_of (json.string text) = string text
  data_of (json.array js) = array (items_of js)
  data_of (json.object ms) = object (members_of ms no_members)

  pub items_of : json.Items → Items
  items_of json.no_items = no_items
  items_of (json.item j js) = item (data_of j) (items_of js)

  -- the members are added one after another
  pub members_of : json.Members → Members → Members
  members_of json.no_members found = found
  members_of (json.member key j ms) found = members_of ms (put key (data_of j) found)

unfoldable pub line_view : {A : Type 0} → Value A → Data
line_view value = data_of (value_view value)

abbrev pub items_seen : {A : Type 0} → List (Value A) → Items
items_seen values = seen.items_of (map line_view values)

-- each number is in the range of a double
abbrev mutual
  pub is_in_range : json.Json → Bool
  is_in_range json.null = true
  is_in_range (json.boolean b) = true
  is_in_range (json.number text) = is_some (number_of text)
  is_in_range (json.string text) = true
  is_in_range (json.array js) = items_in_range js
  is_in_range (json.object ms) = members_in_range ms

  pub items_in_range : json.Items → Bool
  items_in_range json.no_items = true
  items_in_range (json.item j js) = is_in_range j && items_in_range js

  pub members_in_range : json.Members → Bool
  members_in_range json.no_members = true
  members_in_range (json.member key j ms) = is_in_range j && members_in_range ms

-- a reader reported that the text is not JSON, or memory ran out
abbrev pub IsRefused : LineError → Type 0 → Type 0
IsRefused (Fault fault) none = (fault ≡ NotJson) × none
IsRefused Memory none = Unit {0}

-- a key is one of the names
abbrev pub is_among : List (List ℕ) → List ℕ → Bool
is_among [] key = false
is_among (name ∷ names) key = bytes_eq name key || is_among names key
