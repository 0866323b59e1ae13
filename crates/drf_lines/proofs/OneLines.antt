-- The written form of a value has no line feed: a line feed in a text is escaped.
use Rattle.std.proofs.Common.{◌≡◌, ℕ, zero, suc, ◌+◌, ◌==◌, ◌/◌, ◌%◌, pos, negsuc, Bool, true, false, not, cond, T, List, [], ◌∷◌, ◌++◌, decimal, inl, inr, refl, sym, subst, arith, ne_eqb}
use Rattle.std.specs.Prelude.{nat_lt}
use Rattle.std.specs.Fmt.{digit_glyph, digits_onto, digits}
use Rattle.std.specs.List.{list_all}
use Rattle.std.proofs.lemmas.Bool.{and_parts, cases_lt, not-true}
use Rattle.std.proofs.lemmas.List.Elements.{All-append, All-cons, All-nil}
use Rattle.json.proofs.Printed.Strings.{escape_byte_plain}
use Rattle.json.specs.Print.{escape, escape_byte, quoted}
use Rattle.serde_json.specs.Data.{Num, unsigned, negative, float, Data, null, boolean, number, string, array, object, Items, no_items, item, Members, no_members, member}
use Rattle.serde_json.specs.Written.{number_text, comma_if, compact_text, items_text, members_text}
use Rattle.drf_lines.specs.OneLine.{IsOneLine}
use Rattle.drf_lines.proofs.Lanes.{upto, upto_sound}

abbrev is_one_line : List ℕ → Bool
is_one_line text = list_all (λ b. not (b == 10)) text

-- a given text has no line feed if its test says so
known : (text : List ℕ) → is_one_line text ≡ true → IsOneLine text
known [] is = All-nil (λ b. (b == 10) ≡ false)
known (b ∷ bs) is =
    let parts = and_parts (not (b == 10)) (is_one_line bs) is in
    All-cons (λ b. (b == 10) ≡ false) b bs (not-true (b == 10) parts.0) (known bs parts.1)

with_one : (text more : List ℕ) → IsOneLine text → IsOneLine more → IsOneLine (text ++ more)
with_one text more is also = All-append (λ b. (b == 10) ≡ false) text more is also

either : (b : Bool) (x y : List ℕ) → IsOneLine x → IsOneLine y → IsOneLine (cond b x y)
either true x y there here = there
either false x y there here = here

-- ---- strings

below_93 : T (upto (λ b. is_one_line (escape_byte b)) 93)
unfolding escape_byte
below_93 = tt

byte : (b : ℕ) → IsOneLine (escape_byte b)
byte b = elim (cases_lt b 93) [
  | inl low ↦ known (escape_byte b) (is_true (is_one_line (escape_byte b)) (upto_sound (λ b. is_one_line (escape_byte b)) 93 below_93 b low))
  | inr high ↦
      subst IsOneLine (sym (escape_byte_plain b (λ e. omega arith) (λ e. omega arith) (omega arith)))
      (All-cons (λ b. (b == 10) ≡ false) b [] (ne_eqb b 10 (λ e. omega arith)) (All-nil (λ b. (b == 10) ≡ false)))
]
  where
    is_true : (t : Bool) → T t → t ≡ true
    is_true true h = refl
    is_true false h = absurd h

escaped : (text : List ℕ) → IsOneLine (escape text)
escaped [] = All-nil (λ b. (b == 10) ≡ false)
escaped (b ∷ bs) = with_one (escape_byte b) (escape bs) (byte b) (escaped bs)

quoted_once : (text : List ℕ) → IsOneLine (quoted text)
quoted_once text = with_one (34 ∷ []) (escape text ++ 34 ∷ []) (known (34 ∷ []) refl) (with_one (escape text) (34 ∷ []) (escaped text) (known (34 ∷ []) refl))

-- ---- numbers

glyph : (d : ℕ) → (digit_glyph false d == 10) ≡ false
glyph d = at (nat_lt d 10)
  where
    at : (b : Bool) → (cond b (48 + d) (87 + d) == 10) ≡ false
    at true = ne_eqb (48 + d) 10 (λ e. omega (arith, e))
    at false = ne_eqb (87 + d) 10 (λ e. omega (arith, e))

digits_once : (k n : ℕ) (behind : List ℕ) → IsOneLine behind → IsOneLine (digits_onto k 10 false n behind)
digits_once zero n behind is = is
digits_once (suc k) n behind is =
    let now : List ℕ = digit_glyph false (n % 10) ∷ behind in
    let once : IsOneLine now = All-cons (λ b. (b == 10) ≡ false) (digit_glyph false (n % 10)) behind (glyph (n % 10)) is in
    either (n / 10 == 0) now (digits_onto k 10 false (n / 10) now) once (digits_once k (n / 10) now once)

decimal_once : (n : ℕ) → IsOneLine (decimal n)
unfolding digits
decimal_once n = digits_once 64 n [] (All-nil (λ b. (b == 10) ≡ false))

number_once : (n : Num) → IsOneLine (number_text n)
number_once (unsigned n) = decimal_once n
number_once (negative (pos n)) = decimal_once n
number_once (negative (negsuc n)) = with_one (45 ∷ []) (decimal (suc n)) (known (45 ∷ []) refl) (decimal_once (suc n))
number_once (float x) = All-nil (λ b. (b == 10) ≡ false)

-- ---- values

mutual
  pub written_once : (d : Data) → IsOneLine (compact_text d)
  written_once null = known (compact_text null) refl
  written_once (boolean true) = known (compact_text (boolean true)) refl
  written_once (boolean false) = known (compact_text (boolean false)) refl
  written_once (number n) = number_once n
  written_once (string text) = quoted_once text
  written_once (array ds) = with_one (91 ∷ []) (items_text false ds) (known (91 ∷ []) refl) (items_once false ds)
  written_once (object ms) = with_one (123 ∷ []) (members_text false ms) (known (123 ∷ []) refl) (members_once false ms)

  items_once : (later : Bool) (ds : Items) → IsOneLine (items_text later ds)
  items_once later no_items = known (93 ∷ []) refl
  items_once later (item d ds) =
      with_one (comma_if later) (compact_text d ++ items_text true ds) (either later (44 ∷ []) [] (known (44 ∷ []) refl) (known [] refl))
      (with_one (compact_text d) (items_text true ds) (written_once d) (items_once true ds))

  members_once : (later : Bool) (ms : Members) → IsOneLine (members_text later ms)
  members_once later no_members = known (125 ∷ []) refl
  members_once later (member key d ms) =
      let value : List ℕ = compact_text d ++ members_text true ms in
      with_one (comma_if later) (quoted key ++ 58 ∷ value) (either later (44 ∷ []) [] (known (44 ∷ []) refl) (known [] refl))
      (with_one (quoted key) (58 ∷ value) (quoted_once key)
      (with_one (58 ∷ []) value (known (58 ∷ []) refl) (with_one (compact_text d) (members_text true ms) (written_once d) (members_once true ms))))
