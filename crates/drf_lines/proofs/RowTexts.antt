-- A value whose texts are UTF-8 is written in UTF-8.
use Rattle.std.proofs.Common.{◌≡◌, ℕ, ◌<◌, ◌^◌, Bool, true, false, List, [], ◌∷◌, ◌++◌, IsUtf8, refl, decimal}
use Rattle.std.specs.Prelude.{⊤}
use Rattle.std.proofs.lemmas.Fmt.{IsAscii-decimal}
use Rattle.std.proofs.lemmas.Str.{IsUtf8-append, IsUtf8-from_ascii, IsUtf8-nil}
use Rattle.json.proofs.Printed.Utf8.{are_ascii, IsUtf8-are_ascii, IsUtf8-boolean, IsUtf8-quoted}
use Rattle.json.specs.Print.{quoted}
use Rattle.serde_json.specs.Data.{Data, null, boolean, number, string, array, object, Items, no_items, item, Members, no_members, member}
use Rattle.serde_json.specs.Written.{number_text, comma_if, compact_text, items_text, members_text}
use Rattle.drf_lines.specs.Written.{IsText}

-- each text of the value is UTF-8, and each key ASCII
abbrev mutual
  pub HasTexts : Data → Type 0
  HasTexts null = ⊤
  HasTexts (boolean b) = ⊤
  HasTexts (number n) = IsText (number_text n)
  HasTexts (string text) = IsText text
  HasTexts (array ds) = ItemsHaveTexts ds
  HasTexts (object ms) = MembersHaveTexts ms

  pub ItemsHaveTexts : Items → Type 0
  ItemsHaveTexts no_items = ⊤
  ItemsHaveTexts (item d ds) = HasTexts d × ItemsHaveTexts ds

  pub MembersHaveTexts : Members → Type 0
  MembersHaveTexts no_members = ⊤
  MembersHaveTexts (member key d ms) = ((are_ascii key ≡ true) × HasTexts d) × MembersHaveTexts ms

comma_utf8 : (later : Bool) → IsUtf8 (comma_if later)
comma_utf8 true = IsUtf8-are_ascii (44 ∷ []) refl
comma_utf8 false = IsUtf8-nil

mutual
  unfolding IsText

  pub written_utf8 : (d : Data) → HasTexts d → IsUtf8 (compact_text d)
  written_utf8 null has = IsUtf8-are_ascii _ refl
  written_utf8 (boolean b) has = IsUtf8-boolean b
  written_utf8 (number n) has = has
  written_utf8 (string text) has = IsUtf8-quoted text has
  written_utf8 (array ds) has = IsUtf8-append (91 ∷ []) (items_text false ds) (IsUtf8-are_ascii (91 ∷ []) refl) (items_utf8 false ds has)
  written_utf8 (object ms) has = IsUtf8-append (123 ∷ []) (members_text false ms) (IsUtf8-are_ascii (123 ∷ []) refl) (members_utf8 false ms has)

  items_utf8 : (later : Bool) (ds : Items) → ItemsHaveTexts ds → IsUtf8 (items_text later ds)
  items_utf8 later no_items has = IsUtf8-are_ascii (93 ∷ []) refl
  items_utf8 later (item d ds) has =
      IsUtf8-append (comma_if later) (compact_text d ++ items_text true ds) (comma_utf8 later)
      (IsUtf8-append (compact_text d) (items_text true ds) (written_utf8 d has.0) (items_utf8 true ds has.1))

  members_utf8 : (later : Bool) (ms : Members) → MembersHaveTexts ms → IsUtf8 (members_text later ms)
  members_utf8 later no_members has = IsUtf8-are_ascii (125 ∷ []) refl
  members_utf8 later (member key d ms) has =
      IsUtf8-append (comma_if later) (quoted key ++ 58 ∷ (compact_text d ++ members_text true ms)) (comma_utf8 later)
      (IsUtf8-append (quoted key) (58 ∷ (compact_text d ++ members_text true ms)) (IsUtf8-quoted key (IsUtf8-are_ascii key has.0.0))
      (IsUtf8-append (58 ∷ []) (compact_text d ++ members_text true ms) (IsUtf8-are_ascii (58 ∷ []) refl)
      (IsUtf8-append (compact_text d) (members_text true ms) (written_utf8 d has.0.1) (members_utf8 true ms has.1))))

-- a number below 2^64 is written as UTF-8
pub small_text : (n : ℕ) → n < 2 ^ 64 → IsText (decimal n)
unfolding IsText
small_text n small = IsUtf8-from_ascii (decimal n) (IsAscii-decimal n small)

-- a given ASCII text is UTF-8
pub known_text : (text : List ℕ) → are_ascii text ≡ true → IsText text
unfolding IsText
known_text = IsUtf8-are_ascii
