-- Texts that are appended one after another.
use Rattle.std.proofs.Common.{◌≡◌, ℕ, ◌+◌, ◌-◌, ◌<◌, ◌≤◌, Bool, true, false, cond, List, [], ◌∷◌, ◌++◌, map, filter, take, drop, get_or, length, refl, sym, ap, ◌∙◌, append_assoc, codes, arith}
use Rattle.std.proofs.Math.Seq.{take-append_seam}
use Rattle.std.proofs.lemmas.List.{at_drop_more, at_drop_all, length-append}
use Rattle.json.specs.Print.{escape, escape_byte, quoted}
use Rattle.serde_json.specs.Data.{Data}
use Rattle.serde_json.specs.View.{items_of}
use Rattle.serde_json.specs.Written.{compact_text, items_text, comma_if}
use Rattle.drf_lines.specs.ReplyLine.{line_of}
use Rattle.drf_role.specs.Text.{Text}
use Rattle.drf_ask.specs.Answer.{opening, reported, list_value, listed}

-- two texts that are appended one after another
pub then : (old first second : List ℕ) {mid new : List ℕ} → mid ≡ old ++ first → new ≡ mid ++ second → new ≡ old ++ (first ++ second)
then old first second a b =
    b ∙ ap (λ (bytes : List ℕ). bytes ++ second) a ∙ append_assoc old first second

-- ---- the items of a list that pass a test

module _ {A : Type 0} (value : A → Data) (test : A → Bool) where
  -- the text of the remaining items
  abbrev pub left_text : Bool → List A → List ℕ
  left_text later left = items_text later (items_of (map value (filter test left)))

  pub list_begun : (all : List A) (old now : List ℕ) → now ≡ old ++ 91 ∷ []
      → now ++ left_text false all ≡ old ++ compact_text (list_value value (filter test all))
  list_begun all old now begun = ap (λ (bytes : List ℕ). bytes ++ left_text false all) begun ∙ append_assoc old (91 ∷ []) (left_text false all)

  module _ (all : List A) (i : ℕ) (x : A) (total before : List ℕ) (later : Bool) (inside : i < length all) (is : x ≡ get_or all i x)
      (so_far : before ++ left_text later (drop i all) ≡ total) where
    abbrev others : List A
    others = drop (i + 1) all

    here : before ++ left_text later (x ∷ others) ≡ total
    here = ap (λ y. before ++ left_text later (y ∷ others)) is
        ∙ sym (at_drop_more (λ left. before ++ left_text later left) all i x inside) ∙ so_far

    pub item_passed : test x ≡ false → before ++ left_text later others ≡ total
    item_passed other =
        ap (λ b. before ++ items_text later (items_of (map value (cond b (x ∷ filter test others) (filter test others))))) (sym other) ∙ here

    pub item_added : (mid now : List ℕ) → test x ≡ true → mid ≡ before ++ comma_if later → now ≡ mid ++ compact_text (value x)
        → now ++ left_text true others ≡ total
    item_added mid now passes comma text =
        ap (λ (bytes : List ℕ). bytes ++ left_text true others) (then before (comma_if later) (compact_text (value x)) comma text)
        ∙ append_assoc before (comma_if later ++ compact_text (value x)) (left_text true others)
        ∙ ap (λ (bytes : List ℕ). before ++ bytes) (append_assoc (comma_if later) (compact_text (value x)) (left_text true others))
        ∙ ap (λ b. before ++ items_text later (items_of (map value (cond b (x ∷ filter test others) (filter test others))))) (sym passes)
        ∙ here

  pub list_ended : (all : List A) (i : ℕ) (total before now : List ℕ) (later : Bool) → length all ≤ i
      → before ++ left_text later (drop i all) ≡ total → now ≡ before ++ 93 ∷ [] → now ≡ total
  list_ended all i total before now later past so_far end =
      end ∙ sym (at_drop_all (λ left. before ++ left_text later left) all i past) ∙ so_far

-- ---- the bytes of a string

pub string_begun : (all old now : List ℕ) → now ≡ old ++ 34 ∷ [] → now ++ (escape all ++ 34 ∷ []) ≡ old ++ quoted all
string_begun all old now begun = ap (λ (bytes : List ℕ). bytes ++ (escape all ++ 34 ∷ [])) begun ∙ append_assoc old (34 ∷ []) (escape all ++ 34 ∷ [])

pub byte_more : (all : List ℕ) (i : ℕ) (total before now : List ℕ) → i < length all
    → now ≡ before ++ escape_byte (get_or all i 0) → before ++ (escape (drop i all) ++ 34 ∷ []) ≡ total
    → now ++ (escape (drop (i + 1) all) ++ 34 ∷ []) ≡ total
byte_more all i total before now inside added so_far =
    let b = get_or all i 0 in
    let rest = escape (drop (i + 1) all) in
    ap (λ (bytes : List ℕ). bytes ++ (rest ++ 34 ∷ [])) added
    ∙ append_assoc before (escape_byte b) (rest ++ 34 ∷ [])
    ∙ ap (λ (bytes : List ℕ). before ++ bytes) (sym (append_assoc (escape_byte b) rest (34 ∷ [])))
    ∙ sym (at_drop_more (λ left. before ++ (escape left ++ 34 ∷ [])) all i 0 inside)
    ∙ so_far

pub string_ended : (all : List ℕ) (i : ℕ) (total before now : List ℕ) → length all ≤ i
    → before ++ (escape (drop i all) ++ 34 ∷ []) ≡ total → now ≡ before ++ 34 ∷ [] → now ≡ total
string_ended all i total before now past so_far end =
    end ∙ sym (at_drop_all (λ left. before ++ (escape left ++ 34 ∷ [])) all i past) ∙ so_far

-- ---- a whole answer

parts : (w text : List ℕ) → (123 ∷ (quoted (codes "asked") ++ 58 ∷ (w ++ 44 ∷ (w ++ 58 ∷ [])))) ++ (text ++ 125 ∷ 10 ∷ [])
    ≡ (123 ∷ (quoted (codes "asked") ++ 58 ∷ (w ++ 44 ∷ (w ++ 58 ∷ (text ++ 125 ∷ []))))) ++ 10 ∷ []
unfolding escape_byte
parts w text =
    ap (λ l. 123 ∷ (quoted (codes "asked") ++ 58 ∷ l))
    (append_assoc w (44 ∷ (w ++ 58 ∷ [])) (text ++ 125 ∷ 10 ∷ [])
    ∙ ap (λ l. w ++ (44 ∷ l)) (append_assoc w (58 ∷ []) (text ++ 125 ∷ 10 ∷ []))
    ∙ ap (λ l. w ++ (44 ∷ (w ++ (58 ∷ l)))) (sym (append_assoc text (125 ∷ []) (10 ∷ [])))
    ∙ ap (λ l. w ++ (44 ∷ l)) (sym (append_assoc w (58 ∷ (text ++ 125 ∷ [])) (10 ∷ [])))
    ∙ sym (append_assoc w (44 ∷ (w ++ 58 ∷ (text ++ 125 ∷ []))) (10 ∷ [])))

whole_answer : (word : Text) (value : Data) → opening word ++ (compact_text value ++ 125 ∷ 10 ∷ []) ≡ line_of (reported word value)
unfolding escape_byte
whole_answer word value = parts (quoted word) (compact_text value)

-- an answer consists of its beginning, its value and its end
pub answer_whole : (old : List ℕ) (word : Text) (value : Data) (opened said new : List ℕ) → opened ≡ old ++ opening word
    → said ≡ opened ++ compact_text value → new ≡ said ++ 125 ∷ 10 ∷ [] → new ≡ old ++ line_of (reported word value)
answer_whole old word value opened said new a b end =
    then old (opening word) (compact_text value ++ 125 ∷ 10 ∷ []) a (then opened (compact_text value) (125 ∷ 10 ∷ []) b end)
    ∙ ap (λ text. old ++ text) (whole_answer word value)

-- a line that was appended, and whose line feed was removed
pub unfed : (prefix line fed new : List ℕ) → fed ≡ prefix ++ (line ++ 10 ∷ []) → new ≡ take (length fed - 1) fed → new ≡ prefix ++ line
unfed prefix line fed new is cut =
    let whole : fed ≡ (prefix ++ line) ++ 10 ∷ [] = is ∙ sym (append_assoc prefix line (10 ∷ [])) in
    let count : length fed - 1 ≡ length (prefix ++ line) =
    let all = ap length whole in let sum = length-append (prefix ++ line) (10 ∷ []) in omega arith in
    cut ∙ (λ i. take (count i) (whole i)) ∙ take-append_seam (prefix ++ line) (10 ∷ [])

-- if no framework is named, all items are listed
pub all_listed : {A : Type 0} (is_of : Text → A → Bool) (xs : List A) → listed is_of [] xs ≡ xs
all_listed is_of [] = refl
all_listed is_of (x ∷ xs) = ap (λ ys. x ∷ ys) (all_listed is_of xs)
