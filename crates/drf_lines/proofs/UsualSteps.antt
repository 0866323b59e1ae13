-- What is at an index of a text, one step at a time.
use Rattle.std.proofs.Common.{◌≡◌, ℕ, suc, ◌+◌, ◌-◌, ◌<◌, ◌≤◌, Bool, true, false, cond, ◌||◌, ◌==◌, List, [], ◌∷◌, ◌++◌, length, take, drop, get_or, Option, Some, None, option_and_then, is_some, ◌⊎◌, inl, inr, refl, sym, ap, ap₂, ◌∙◌, subst, arith, lt_of_not-le, add-zero}
use Rattle.std.proofs.lemmas.Bool.{or_cases, eqb-true, ne_eqb}
use Rattle.std.proofs.lemmas.List.{drop_more, drop-drop, take-append-drop, length-take-le, length-drop, drop_all, get_or-take, get_or-drop, get_or_past}
use Rattle.std.specs.Borrow.{Bor}
use Rattle.std.specs.Char.{is_ascii_digit}
use Rattle.std.specs.List.{list_all, prefix_len}
use Rattle.json.specs.Token.{Token, begin_object, end_object, begin_array, end_array, key, string, number}
use Rattle.json.specs.Text.{content, plain}
use Rattle.json.specs.Word.{is_operator, is_space, head, ends_word, after_digits, after_whole, after_fraction, after_exponent, after_number}
use Rattle.json.specs.Print.{escape, IsNumber}
use Rattle.json.specs.Lex.{Lexeme, token, colon, between, in_string, string_token, lex, Place, fresh, after_value, after_comma, after_key, begins_colon, may_begin, if_allowed, place_token, punctuate}
use Rattle.json.specs.Json.{Json, Items, Members, Parse, parse_map, after_end_array, read_key, items, members, value_with, value}
use Rattle.json.specs.Value.{value_view, items_view, members_view}
use Rattle.json.specs.declared.value.Value.{Value}
use Rattle.json.proofs.Grammar.{left, value-begin_array, value-begin_object, value_is, items_end, items_more, members_end, members_more, skip_value-shorter}
use Rattle.json.proofs.Trees.{items_before, members_before, items_before-no_items, members_before-no_members, one_more_item, one_more_member, none_before}
use Rattle.json.proofs.Printed.Strings.{content-escape, lex-escape}
use Rattle.json.proofs.Printed.Numbers.{lex-number}
use Rattle.serde_json.specs.Read.{number_of}
use Rattle.drf_lines.specs.Usual.{is_end, AreDigitsFrom, tokens_from, IsStringAt, IsNumberAt, IsKeyAt, IsValueAt, AreItemsAt, AreMembersAt}
use Rattle.drf_lines.specs.Written.{is_plain_byte, ArePlainFrom}
use Rattle.drf_lines.proofs.LineNumbers.{number_of-few, all_digits}
use Rattle.drf_lines.proofs.ReplyTexts.{plain_is_kept}

-- an index whose byte is not a space is within the text
pub within : (text : List ℕ) (at byte : ℕ) → get_or text at 32 ≡ byte → (byte ≡ 32 → ⊥) → at < length text
within text at byte is differs = lt_of_not-le (λ past. differs (sym is ∙ get_or_past text at 32 past))

-- the text from an index on, if its byte is known
pub from_byte : (text : List ℕ) (at byte : ℕ) → get_or text at 32 ≡ byte → (byte ≡ 32 → ⊥) → drop at text ≡ byte ∷ drop (at + 1) text
from_byte text at byte is differs = drop_more text at 32 (within text at byte is differs) ∙ ap (λ x. x ∷ drop (at + 1) text) is

-- ---- the bytes from one index up to another

module _ (text : List ℕ) (from to : ℕ) (order : from ≤ to) (room : to ≤ length text) where
  abbrev pub part : List ℕ
  part = take (to - from) (drop from text)

  pub part_and_rest : drop from text ≡ part ++ drop to text
  part_and_rest =
      let whole : from + (to - from) ≡ to = omega arith in
      sym (take-append-drop (to - from) (drop from text)) ∙ ap (λ rest. part ++ rest) (drop-drop (to - from) from text ∙ ap (λ k. drop k text) whole)

  pub part_long : length part ≡ to - from
  part_long = length-take-le (to - from) (drop from text) (omega (arith, length-drop from text))

  pub part_byte : (k : ℕ) → k < length part → get_or part k 0 ≡ get_or text (from + k) 0
  part_byte k short = get_or-take (to - from) (drop from text) k 0 (omega (arith, part_long)) ∙ get_or-drop from text k 0

  pub each_of_part : (test : ℕ → Bool) → ((k : ℕ) → from ≤ k → k < to → test (get_or text k 0) ≡ true) → (k : ℕ) → k < length part → test (get_or part k 0) ≡ true
  each_of_part test each k short = ap test (part_byte k short) ∙ each (from + k) (omega arith) (omega (arith, part_long))

all_of : (test : ℕ → Bool) (s : List ℕ) → ((k : ℕ) → k < length s → test (get_or s k 0) ≡ true) → list_all test s ≡ true
all_of test [] each = refl
all_of test (x ∷ xs) each = rw (each 0 (omega arith), all_of test xs (λ k short. each (suc k) (omega arith))) refl

-- ---- strings

string_begins : (xs : List ℕ) → lex between (34 ∷ xs) ≡ token (string_token (content plain xs)) ∷ lex in_string xs
unfolding lex
string_begins xs = refl

pub string_stands : (text : List ℕ) (at stop : ℕ) → get_or text at 32 ≡ 34 → (at + 1 ≤ stop) × (stop ≤ length text) → ArePlainFrom text (at + 1) stop → get_or text stop 32 ≡ 34
    → (found : List ℕ) → found ≡ take (stop - (at + 1)) (drop (at + 1) text) → IsStringAt text at found (stop + 1)
string_stands text at stop opens bounds each closes found is =
    let s = take (stop - (at + 1)) (drop (at + 1) text) in
    let rest = drop (stop + 1) text in
    let kept = plain_is_kept s (all_of is_plain_byte s (each_of_part text (at + 1) stop bounds.0 bounds.1 is_plain_byte each)) in
    let inside : drop (at + 1) text ≡ escape s ++ 34 ∷ rest =
    part_and_rest text (at + 1) stop bounds.0 bounds.1 ∙ ap₂ (λ a b. a ++ b) (sym kept) (from_byte text stop 34 closes (λ e. omega arith)) in
    ap (lex between) (from_byte text at 34 opens (λ e. omega arith) ∙ ap (λ xs. 34 ∷ xs) inside) ∙ string_begins (escape s ++ 34 ∷ rest)
    ∙ ap₂ (λ o ls. token (string_token o) ∷ ls) (content-escape s rest ∙ ap Some (sym is)) (lex-escape s rest)

-- ---- numbers

pub at_end : (P : ℕ → Type 0) → P 44 → P 125 → P 93 → (byte : ℕ) → is_end byte ≡ true → P byte
at_end P a b c byte is = go (or_cases _ _ is)
  where
    first : ((byte == 44) ≡ true) ⊎ ((byte == 125) ≡ true) → P byte
    first (inl e) = subst P (sym (eqb-true byte 44 e)) a
    first (inr e) = subst P (sym (eqb-true byte 125 e)) b

    go : (((byte == 44) || (byte == 125)) ≡ true) ⊎ ((byte == 93) ≡ true) → P byte
    go (inl e) = first (or_cases _ _ e)
    go (inr e) = subst P (sym (eqb-true byte 93 e)) c

digits_long : (s : List ℕ) → ((k : ℕ) → k < length s → is_ascii_digit (get_or s k 0) ≡ true) → prefix_len is_ascii_digit s ≡ length s
digits_long [] each = refl
digits_long (x ∷ xs) each = rw (each 0 (omega arith), digits_long xs (λ k short. each (suc k) (omega arith))) (omega arith)

whole_read : (x : ℕ) (xs : List ℕ) (zero : Bool) → (x == 48) ≡ zero → (0 < length xs → x ≡ 48 → ⊥) → prefix_len is_ascii_digit (x ∷ xs) ≡ length (x ∷ xs)
    → cond zero (Some xs) (after_digits (x ∷ xs)) ≡ Some []
whole_read x [] true e first long = refl
whole_read x (y ∷ ys) true e first long = absurd (first (omega arith) (eqb-true x 48 e))
whole_read x xs false e first long = ap (λ n. cond (n == 0) None (Some (drop n (x ∷ xs)))) long
    ∙ ap (λ b. cond b None (Some (drop (length (x ∷ xs)) (x ∷ xs)))) (ne_eqb (length (x ∷ xs)) 0 (λ z. omega (arith, z))) ∙ ap Some (drop_all (length (x ∷ xs)) (x ∷ xs) (omega arith))

no_minus : (x : ℕ) → is_ascii_digit x ≡ true → (x == 45) ≡ false
no_minus x is = grind arith

is_number : (s : List ℕ) → 0 < length s → (1 < length s → get_or s 0 0 ≡ 48 → ⊥) → ((k : ℕ) → k < length s → is_ascii_digit (get_or s k 0) ≡ true) → IsNumber s
unfolding after_number
is_number [] some first each = absurd (omega (arith, some))
is_number (x ∷ xs) some first each =
    ap (λ b. option_and_then after_exponent (option_and_then after_fraction (after_whole (cond b xs (x ∷ xs))))) (no_minus x (each 0 (omega arith)))
    ∙ ap (λ o. option_and_then after_exponent (option_and_then after_fraction o)) (whole_read x xs (x == 48) refl (λ long. first (omega (arith, long))) (digits_long (x ∷ xs) each))

pub number_stands : (text : List ℕ) (at stop : ℕ) → (at < stop) × (stop ≤ length text) → AreDigitsFrom text at stop → (at + 1 < stop → get_or text at 0 ≡ 48 → ⊥) → is_end (get_or text stop 32) ≡ true
    → (found : List ℕ) → found ≡ take (stop - at) (drop at text) → IsNumberAt text at found stop
number_stands text at stop bounds each first ended found is =
    let s = take (stop - at) (drop at text) in
    let order : at ≤ stop = omega (arith, bounds.0) in
    let long = part_long text at stop order bounds.1 in
    let begin : get_or s 0 0 ≡ get_or text at 0 = part_byte text at stop order bounds.1 0 (omega (arith, long, bounds.0)) ∙ ap (λ k. get_or text k 0) (add-zero at) in
    let is_one = is_number s (omega (arith, long, bounds.0)) (λ more zero. first (omega (arith, more, long)) (sym begin ∙ zero)) (each_of_part text at stop order bounds.1 is_ascii_digit each) in
    let next : head (drop stop text) ≡ get_or text stop 32 = get_or-drop stop text 0 32 ∙ ap (λ k. get_or text k 32) (add-zero stop) in
    let ends : ends_word (drop stop text) ≡ true =
    ap (λ c. is_operator c || is_space c) next ∙ at_end (λ c. (is_operator c || is_space c) ≡ true) refl refl refl (get_or text stop 32) ended in
    ap (lex between) (part_and_rest text at stop order bounds.1) ∙ lex-number s (drop stop text) is_one ends ∙ ap (λ f. token (number f) ∷ lex between (drop stop text)) (sym is)

pub number_in_range : (text : List ℕ) (at stop : ℕ) → (at < stop) × (stop ≤ length text) → stop - at ≤ 19 → AreDigitsFrom text at stop → (found : List ℕ) → found ≡ take (stop - at) (drop at text)
    → is_some (number_of found) ≡ true
number_in_range text at stop bounds few each found is =
    let s = take (stop - at) (drop at text) in
    let order : at ≤ stop = omega (arith, bounds.0) in
    let long = part_long text at stop order bounds.1 in
    let all = all_digits s (each_of_part text at stop order bounds.1 is_ascii_digit each) in
    ap (λ t. is_some (number_of t)) is ∙ ap is_some (number_of-few s all (omega (arith, long, bounds.0)) (omega (arith, long, few)))

-- ---- keys and values

allowed : (b : Bool) (t : Token) (k : Place → List Token) (next : Place) → b ≡ true → if_allowed b t k next ≡ t ∷ k next
allowed b t k next e = ap (λ x. if_allowed x t k next) e

colon_stands : (xs : List ℕ) → lex between (58 ∷ xs) ≡ colon ∷ lex between xs
unfolding lex
colon_stands xs = refl

key_read : (before : Place) (k : List ℕ) (ls : List Lexeme) → may_begin before ≡ true → punctuate before (token (string k) ∷ colon ∷ ls) ≡ key k ∷ punctuate fresh ls
unfolding punctuate
key_read before k ls begins = allowed (may_begin before) (key k) (λ next. punctuate next (colon ∷ ls)) after_key begins

pub key_stands : (text : List ℕ) (at next : ℕ) (k : List ℕ) → IsStringAt text at k next → get_or text next 32 ≡ 58 → IsKeyAt text at k (next + 1)
key_stands text at next k stands is before begins =
    ap (punctuate before) (stands ∙ ap (λ t. token (string k) ∷ lex between t) (from_byte text next 58 is (λ e. omega arith)) ∙ ap (λ ls. token (string k) ∷ ls) (colon_stands _))
    ∙ key_read before k _ begins

no_space : (byte : ℕ) → is_end byte ≡ true → byte ≡ 32 → ⊥
no_space = at_end (λ c. c ≡ 32 → ⊥) (λ e. omega arith) (λ e. omega arith) (λ e. omega arith)

no_colon : (byte : ℕ) (xs : List ℕ) → is_end byte ≡ true → begins_colon (lex between (byte ∷ xs)) ≡ false
unfolding lex
no_colon byte xs = at_end (λ c. begins_colon (lex between (c ∷ xs)) ≡ false) refl refl refl byte

string_read : (before : Place) (s : List ℕ) (ls : List Lexeme) → may_begin before ≡ true → begins_colon ls ≡ false → punctuate before (token (string s) ∷ ls) ≡ string s ∷ punctuate after_value ls
unfolding punctuate
string_read before s ls begins none =
    ap (λ b. place_token before (string s) b (λ next. punctuate next ls)) none ∙ allowed (may_begin before) (string s) (λ next. punctuate next ls) after_value begins

number_read : (before : Place) (s : List ℕ) (ls : List Lexeme) → may_begin before ≡ true → punctuate before (token (number s) ∷ ls) ≡ number s ∷ punctuate after_value ls
unfolding punctuate
number_read before s ls begins = allowed (may_begin before) (number s) (λ next. punctuate next ls) after_value begins

pub string_value : (text : List ℕ) (at next : ℕ) (s : List ℕ) → IsStringAt text at s next → is_end (get_or text next 32) ≡ true → (depth : ℕ) → IsValueAt depth text at (Json.string s) next
string_value text at next s stands ended depth before begins =
    let none = ap (λ t. begins_colon (lex between t)) (from_byte text next _ refl (no_space _ ended)) ∙ no_colon _ _ ended in
    ap (value depth) (ap (punctuate before) stands ∙ string_read before s _ begins none) ∙ value_is depth _

pub number_value : (text : List ℕ) (at next : ℕ) (s : List ℕ) → IsNumberAt text at s next → (depth : ℕ) → IsValueAt depth text at (Json.number s) next
number_value text at next s stands depth before begins = ap (value depth) (ap (punctuate before) stands ∙ number_read before s _ begins) ∙ value_is depth _

-- ---- brackets and commas

object_begins : (before : Place) (xs : List ℕ) → may_begin before ≡ true → punctuate before (lex between (123 ∷ xs)) ≡ begin_object ∷ punctuate fresh (lex between xs)
unfolding lex punctuate
object_begins before xs begins = allowed (may_begin before) begin_object (λ next. punctuate next (lex between xs)) fresh begins

array_begins : (before : Place) (xs : List ℕ) → may_begin before ≡ true → punctuate before (lex between (91 ∷ xs)) ≡ begin_array ∷ punctuate fresh (lex between xs)
unfolding lex punctuate
array_begins before xs begins = allowed (may_begin before) begin_array (λ next. punctuate next (lex between xs)) fresh begins

behind_value : (xs : List ℕ) → (punctuate after_value (lex between (125 ∷ xs)) ≡ end_object ∷ punctuate after_value (lex between xs))
    × (punctuate after_value (lex between (93 ∷ xs)) ≡ end_array ∷ punctuate after_value (lex between xs))
    × (punctuate after_value (lex between (44 ∷ xs)) ≡ punctuate after_comma (lex between xs))
unfolding lex punctuate
behind_value xs = (refl, refl, refl)

module _ (text : List ℕ) (at : ℕ) where
  pub object_opens : get_or text at 32 ≡ 123 → (before : Place) → may_begin before ≡ true → tokens_from before text at ≡ begin_object ∷ tokens_from fresh text (at + 1)
  object_opens is before begins = ap (λ t. punctuate before (lex between t)) (from_byte text at 123 is (λ e. omega arith)) ∙ object_begins before _ begins

  pub array_opens : get_or text at 32 ≡ 91 → (before : Place) → may_begin before ≡ true → tokens_from before text at ≡ begin_array ∷ tokens_from fresh text (at + 1)
  array_opens is before begins = ap (λ t. punctuate before (lex between t)) (from_byte text at 91 is (λ e. omega arith)) ∙ array_begins before _ begins

  pub object_closes : get_or text at 32 ≡ 125 → tokens_from after_value text at ≡ end_object ∷ tokens_from after_value text (at + 1)
  object_closes is = ap (λ t. punctuate after_value (lex between t)) (from_byte text at 125 is (λ e. omega arith)) ∙ (behind_value _).0

  pub array_closes : get_or text at 32 ≡ 93 → tokens_from after_value text at ≡ end_array ∷ tokens_from after_value text (at + 1)
  array_closes is = ap (λ t. punctuate after_value (lex between t)) (from_byte text at 93 is (λ e. omega arith)) ∙ (behind_value _).1

  pub comma_leads : get_or text at 32 ≡ 44 → tokens_from after_value text at ≡ tokens_from after_comma text (at + 1)
  comma_leads is = ap (λ t. punctuate after_value (lex between t)) (from_byte text at 44 is (λ e. omega arith)) ∙ (behind_value _).2

pub nothing_behind : (text : List ℕ) (at : ℕ) → length text ≤ at → tokens_from after_value text at ≡ []
unfolding lex punctuate
nothing_behind text at past = ap (λ t. punctuate after_value (lex between t)) (drop_all at text past)

-- ---- arrays and objects

pub object_value : (text : List ℕ) (at next depth : ℕ) (found : Members) → get_or text at 32 ≡ 123 → 0 < depth → AreMembersAt (depth - 1) text (at + 1) found next → IsValueAt depth text at (Json.object found) next
object_value text at next depth found is deep members_are before begins =
    ap (value depth) (object_opens text at is before begins) ∙ value-begin_object depth _ deep ∙ ap (parse_map Json.object) members_are

pub array_value : (text : List ℕ) (at next depth : ℕ) (found : Items) → get_or text at 32 ≡ 91 → 0 < depth → AreItemsAt (depth - 1) text (at + 1) found next → IsValueAt depth text at (Json.array found) next
array_value text at next depth found is deep items_are before begins =
    ap (value depth) (array_opens text at is before begins) ∙ value-begin_array depth _ deep ∙ ap (parse_map Json.array) items_are

-- an array does not end where a value begins
no_end : (arrays : Parse Items) (objects : Parse Members) (ts r : List Token) (j : Json) → value_with arrays objects ts ≡ Some (j, r) → after_end_array ts ≡ None
no_end arrays objects [] r j e = refl
no_end arrays objects (Token.begin_object ∷ ts) r j e = refl
no_end arrays objects (Token.end_object ∷ ts) r j e = refl
no_end arrays objects (Token.begin_array ∷ ts) r j e = refl
no_end arrays objects (Token.end_array ∷ ts) r j e = absurd (cc)
no_end arrays objects (Token.key s ∷ ts) r j e = refl
no_end arrays objects (Token.string s ∷ ts) r j e = refl
no_end arrays objects (Token.number s ∷ ts) r j e = refl
no_end arrays objects (Token.boolean b ∷ ts) r j e = refl
no_end arrays objects (Token.null ∷ ts) r j e = refl
no_end arrays objects (Token.bad ∷ ts) r j e = refl

abbrev all_items : ℕ → List ℕ → ℕ → Option (Items × List Token)
all_items depth text from = items (value depth) (length (tokens_from fresh text from)) (tokens_from fresh text from)

abbrev all_members : ℕ → List ℕ → ℕ → Option (Members × List Token)
all_members depth text from = members (value depth) (length (tokens_from fresh text from)) (tokens_from fresh text from)

module _ {A : Type 0} (depth : ℕ) (text : List ℕ) (from : ℕ) where
  -- the items so far, and those that remain from an index on, in at most n tokens
  abbrev pub HasItems : List (Value A) → Place → ℕ → ℕ → Type 0
  HasItems found before at n = (length (tokens_from before text at) ≤ n) × (all_items depth text from ≡ parse_map (items_before found) (items (value depth) n (tokens_from before text at)))

  abbrev pub HasMembers : List (Bor (List ℕ) × Value A) → Place → ℕ → ℕ → Type 0
  HasMembers found before at n = (length (tokens_from before text at) ≤ n) × (all_members depth text from ≡ parse_map (members_before found) (members (value depth) n (tokens_from before text at)))

  pub no_items_yet : (vs : List (Value A)) → vs ≡ [] → HasItems vs fresh from (length (tokens_from fresh text from))
  no_items_yet vs none = (omega arith, none_before _ ∙ ap (λ us. parse_map (items_before us) (all_items depth text from)) (sym none))

  pub no_members_yet : (ms : List (Bor (List ℕ) × Value A)) → ms ≡ [] → HasMembers ms fresh from (length (tokens_from fresh text from))
  no_members_yet ms none = (omega arith, none_before _ ∙ ap (λ ns. parse_map (members_before ns) (all_members depth text from)) (sym none))

  pub item_turn : (n at next : ℕ) (before : Place) (vs : List (Value A)) (v : Value A) → may_begin before ≡ true → HasItems vs before at n → IsValueAt depth text at (value_view v) next
      → HasItems (vs ++ v ∷ []) after_value next (n - 1)
  item_turn n at next before vs v begins so_far found =
      let ts = tokens_from before text at in
      let r = tokens_from after_value text next in
      let read = found before begins in
      let less = skip_value-shorter depth ts r (ap left read) in
      let none = no_end _ _ ts r (value_view v) (sym (value_is depth ts) ∙ read) in
      let turn = items_more (value depth) n ts r (value_view v) (omega (arith, less, so_far.0)) none read in
      (omega (arith, less, so_far.0), so_far.1 ∙ ap (parse_map (items_before vs)) turn ∙ one_more_item vs v _)

  pub member_turn : (n at begin next : ℕ) (before : Place) (ms : List (Bor (List ℕ) × Value A)) (k : Bor (List ℕ)) (v : Value A) → may_begin before ≡ true → HasMembers ms before at n
      → IsKeyAt text at k.now begin → IsValueAt depth text begin (value_view v) next → HasMembers (ms ++ (k, v) ∷ []) after_value next (n - 1)
  member_turn n at begin next before ms k v begins so_far named found =
      let ts = tokens_from before text at in
      let s = tokens_from fresh text begin in
      let r = tokens_from after_value text next in
      let first = named before begins in
      let read = found fresh refl in
      let less = skip_value-shorter depth s r (ap left read) in
      let longer = ap length first in
      let turn = members_more (value depth) n k.now ts s r (value_view v) (omega (arith, less, longer, so_far.0)) (ap read_key first) read in
      (omega (arith, less, longer, so_far.0), so_far.1 ∙ ap (parse_map (members_before ms)) turn ∙ one_more_member ms (k, v) _)

  pub items_go_on : (n next : ℕ) (vs : List (Value A)) → get_or text next 32 ≡ 44 → HasItems vs after_value next n → HasItems vs after_comma (next + 1) n
  items_go_on n next vs is so_far =
      let leads = comma_leads text next is in
      (omega (arith, ap length leads, so_far.0), so_far.1 ∙ ap (λ ts. parse_map (items_before vs) (items (value depth) n ts)) leads)

  pub members_go_on : (n next : ℕ) (ms : List (Bor (List ℕ) × Value A)) → get_or text next 32 ≡ 44 → HasMembers ms after_value next n → HasMembers ms after_comma (next + 1) n
  members_go_on n next ms is so_far =
      let leads = comma_leads text next is in
      (omega (arith, ap length leads, so_far.0), so_far.1 ∙ ap (λ ts. parse_map (members_before ms) (members (value depth) n ts)) leads)

  pub items_done : (n next : ℕ) (vs : List (Value A)) → get_or text next 32 ≡ 93 → HasItems vs after_value next n → AreItemsAt depth text from (items_view vs) (next + 1)
  items_done n next vs is so_far =
      so_far.1 ∙ ap (parse_map (items_before vs)) (items_end (value depth) n _ _ so_far.0 (ap after_end_array (array_closes text next is))) ∙ ap (λ js. Some (js, tokens_from after_value text (next + 1))) (items_before-no_items vs)

  pub members_done : (n next : ℕ) (ms : List (Bor (List ℕ) × Value A)) → get_or text next 32 ≡ 125 → HasMembers ms after_value next n → AreMembersAt depth text from (members_view ms) (next + 1)
  members_done n next ms is so_far =
      so_far.1 ∙ ap (parse_map (members_before ms)) (members_end (value depth) n _ _ so_far.0 (ap read_key (object_closes text next is))) ∙ ap (λ js. Some (js, tokens_from after_value text (next + 1))) (members_before-no_members ms)
