-- The texts of replies, part by part.
use Rattle.std.proofs.Common.{◌≡◌, ℕ, ◌+◌, ◌<◌, ◌≤◌, ◌^◌, true, List, [], ◌∷◌, ◌++◌, map, drop, get_or, length, decimal, refl, sym, ap, ◌∙◌, append_assoc, append-nil, subst, IsUtf8, arith}
use Rattle.std.specs.Prelude.{nat_lt, All}
use Rattle.std.specs.List.{list_all}
use Rattle.std.proofs.lemmas.Bool.{and_parts, not-true, eqb-false, leb-true, le-leb, lt-ltb, ne_eqb}
use Rattle.std.proofs.lemmas.Fmt.{decimal_is_IsNumeral_wide, IsAscii-decimal}
use Rattle.std.proofs.lemmas.List.Folds.{list_all-append}
use Rattle.std.proofs.lemmas.Str.Parse.{digit_from_value}
use Rattle.std.specs.Str.Parse.{AllDigits}
use Rattle.std.proofs.lemmas.List.{at_drop_more, at_drop_all}
use Rattle.std.proofs.lemmas.List.Elements.{All-tail}
use Rattle.std.proofs.lemmas.Str.{IsUtf8-append, IsUtf8-drop, IsUtf8-from_ascii, IsCharBoundary-after_ascii}
use Rattle.json.proofs.Printed.Utf8.{IsUtf8-are_ascii, IsUtf8-quoted}
use Rattle.json.specs.Token.{string}
use Rattle.json.specs.Print.{escape, escape_byte, quoted, print, print_from}
use Rattle.json.proofs.Printed.Strings.{escape_byte_plain}
use Rattle.serde_json.specs.Data.{Data, array}
use Rattle.serde_json.specs.View.{items_of}
use Rattle.serde_json.specs.Written.{compact_text, items_text, comma_if}
use Rattle.drf_role.specs.Name.{IsNameByte}
use Rattle.drf_lines.specs.Written.{is_plain_byte, KeepsUtf8}

-- two texts that are appended one after another
pub then : (old first second : List ℕ) {mid new : List ℕ} → mid ≡ old ++ first → new ≡ mid ++ second → new ≡ old ++ (first ++ second)
then old first second a b =
    b ∙ ap (λ (bytes : List ℕ). bytes ++ second) a ∙ append_assoc old first second

-- ---- strings

pub quoted_alone : (s : List ℕ) → print (string s ∷ []) ≡ quoted s
unfolding print_from
quoted_alone s = append-nil (quoted s)

pub plain_byte : (x : ℕ) → is_plain_byte x ≡ true → escape_byte x ≡ x ∷ []
plain_byte x e =
    let tests = and_parts _ _ e in
    let others = and_parts _ _ tests.1 in
    escape_byte_plain x (eqb-false x 34 (not-true _ others.0)) (eqb-false x 92 (not-true _ others.1)) (leb-true 32 x tests.0)

pub plain_is_kept : (s : List ℕ) → list_all is_plain_byte s ≡ true → escape s ≡ s
plain_is_kept [] e = refl
plain_is_kept (x ∷ xs) e =
    let tests = and_parts (is_plain_byte x) (list_all is_plain_byte xs) e in
    λ i. plain_byte x tests.0 i ++ plain_is_kept xs tests.1 i

name_byte_is_plain : (x : ℕ) → IsNameByte x → is_plain_byte x ≡ true
name_byte_is_plain x is = grind arith

-- names need no escapes
pub name_is_plain : (text : List ℕ) → All IsNameByte text → list_all is_plain_byte text ≡ true
name_is_plain [] all = refl
name_is_plain (x ∷ xs) all = rw (name_byte_is_plain x (all 0 x (omega arith)), name_is_plain xs (All-tail IsNameByte x xs all)) refl

-- digits need no escapes
digits_are_plain : (digits : List ℕ) → AllDigits 10 digits → list_all is_plain_byte digits ≡ true
digits_are_plain [] are = refl
digits_are_plain (x ∷ xs) are =
    let digit = digit_from_value x are.0 in
    rw (digits_are_plain xs are.1, le-leb 32 x (omega (arith, digit.0)), ne_eqb x 34 (λ e. omega (arith, e, digit.0)), ne_eqb x 92 (λ e. omega (arith, e, digit.1))) refl

decimal_is_plain : (n : ℕ) → n < 2 ^ 128 → list_all is_plain_byte (decimal n) ≡ true
decimal_is_plain n small = digits_are_plain (decimal n) (decimal_is_IsNumeral_wide n (omega arith)).0.1

pub fraction_is_kept : (part whole : ℕ) → part < 2 ^ 128 → whole < 2 ^ 128 → escape (decimal part ++ 47 ∷ decimal whole) ≡ decimal part ++ 47 ∷ decimal whole
fraction_is_kept part whole small small_too =
    plain_is_kept (decimal part ++ 47 ∷ decimal whole)
    (list_all-append is_plain_byte (decimal part) (47 ∷ decimal whole) ∙ rw (decimal_is_plain part small, decimal_is_plain whole small_too) refl)

-- ---- UTF-8

pub byte_utf8 : (byte : ℕ) → byte < 128 → IsUtf8 (byte ∷ [])
byte_utf8 byte small = IsUtf8-are_ascii (byte ∷ []) (rw (lt-ltb byte 128 small) refl)

pub string_end_utf8 : (s : List ℕ) → IsUtf8 s → IsUtf8 (escape s ++ 34 ∷ [])
string_end_utf8 s utf8 =
    let whole = IsUtf8-quoted s utf8 in
    IsUtf8-drop (quoted s) 1 whole (IsCharBoundary-after_ascii (quoted s) 0 whole (omega arith) (omega arith))

pub added_utf8 : (old added : List ℕ) {new : List ℕ} → new ≡ old ++ added → IsUtf8 added → KeepsUtf8 old new
added_utf8 old added is right utf8 = subst IsUtf8 (sym is) (IsUtf8-append old added utf8 right)

digits_utf8 : (n : ℕ) → n < 2 ^ 64 → IsUtf8 (decimal n)
digits_utf8 n small = IsUtf8-from_ascii (decimal n) (IsAscii-decimal n small)

pub fraction_utf8 : (part whole : ℕ) → part < 2 ^ 64 → whole < 2 ^ 64 → IsUtf8 ((decimal part ++ 47 ∷ decimal whole) ++ 34 ∷ [])
fraction_utf8 part whole small small_too =
    IsUtf8-append (decimal part ++ 47 ∷ decimal whole) (34 ∷ [])
    (IsUtf8-append (decimal part) (47 ∷ decimal whole) (digits_utf8 part small)
    (IsUtf8-append (47 ∷ []) (decimal whole) (byte_utf8 47 (omega arith)) (digits_utf8 whole small_too)))
    (byte_utf8 34 (omega arith))

-- ---- the items of an array, one after another

-- the text of the remaining items
abbrev pub left_text : {A : Type 0} → (A → Data) → ℕ → List A → List ℕ
left_text value place left = items_text (nat_lt 0 place) (items_of (map value left))

pub items_begun : {A : Type 0} (value : A → Data) (all : List A) (old now : List ℕ) → now ≡ old ++ 91 ∷ []
    → now ++ left_text value 0 all ≡ old ++ compact_text (array (items_of (map value all)))
items_begun value all old now begun =
    ap (λ (bytes : List ℕ). bytes ++ left_text value 0 all) begun ∙ append_assoc old (91 ∷ []) (left_text value 0 all)

pub item_more : {A : Type 0} (value : A → Data) (all : List A) (i : ℕ) (x : A) (total before mid now : List ℕ)
    → i < length all → x ≡ get_or all i x → before ++ left_text value i (drop i all) ≡ total
    → mid ≡ before ++ comma_if (nat_lt 0 i) → now ≡ mid ++ compact_text (value x)
    → now ++ left_text value (i + 1) (drop (i + 1) all) ≡ total
item_more value all i x total before mid now inside is so_far comma text =
    let left = drop (i + 1) all in
    let rest : List ℕ = left_text value (i + 1) left in
    let later : nat_lt 0 (i + 1) ≡ true = lt-ltb 0 (i + 1) (omega arith) in
    ap (λ (bytes : List ℕ). bytes ++ rest) (then before (comma_if (nat_lt 0 i)) (compact_text (value x)) comma text)
    ∙ append_assoc before (comma_if (nat_lt 0 i) ++ compact_text (value x)) rest
    ∙ ap (λ (bytes : List ℕ). before ++ bytes) (append_assoc (comma_if (nat_lt 0 i)) (compact_text (value x)) rest)
    ∙ ap (λ b. before ++ (comma_if (nat_lt 0 i) ++ (compact_text (value x) ++ items_text b (items_of (map value left))))) later
    ∙ ap (λ y. before ++ left_text value i (y ∷ left)) is
    ∙ sym (at_drop_more (λ left. before ++ left_text value i left) all i x inside)
    ∙ so_far

pub items_ended : {A : Type 0} (value : A → Data) (all : List A) (i : ℕ) (total before now : List ℕ) → length all ≤ i
    → before ++ left_text value i (drop i all) ≡ total → now ≡ before ++ 93 ∷ [] → now ≡ total
items_ended value all i total before now past so_far end =
    end ∙ sym (at_drop_all (λ left. before ++ left_text value i left) all i past) ∙ so_far
