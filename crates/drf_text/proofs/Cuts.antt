-- Cutting heads at `(` and bodies at their brackets.
use Rattle.std.proofs.Common.{◌≡◌, ◌≢◌, ℕ, suc, ◌+◌, ◌-◌, ◌<◌, Bool, true, false, cond, eqb, ltb, List, [], ◌∷◌, ◌++◌, ◌&&◌, length, take, get_or, Option, Some, None, Result, Ok, Err, refl, sym, ap, ◌∙◌, arith, sub-one, lt-ltb, ne_eqb, eqb-true, not}
use Rattle.std.proofs.lemmas.List.Sums.{split_at_first}
use Rattle.std.specs.List.{list_all, list_any, position_or_len, before_first, after_first}
use Rattle.drf_text.proofs.Names.{Text, trimmed, begins, ends, parts_between, has_one_dash, role_text_of, TextFault, Syntax}
use Rattle.drf_text.specs.Steps.{plain_head_in, head_in, body_in}
use Rattle.drf_text.specs.declared.piece.Kind.TheVariants.{Scalar, Ranges, Items}
use Rattle.drf_text.proofs.CutLemmas.{take_all_but_last, ends_closed, inside_of}
use Rattle.drf_text.proofs.Numbers.{any_at, all_before}

-- ---- last bytes

-- bytes before the last one do not change with which byte a text ends
ends_more : (c b d : ℕ) (bs : Text) → ends c (b ∷ d ∷ bs) ≡ ends c (d ∷ bs)
ends_more c b d bs =
    let some : ltb 0 (length (b ∷ d ∷ bs)) ≡ ltb 0 (length (d ∷ bs)) = lt-ltb 0 (length (b ∷ d ∷ bs)) (omega arith) ∙ sym (lt-ltb 0 (length (d ∷ bs)) (omega arith)) in
    let last : get_or (b ∷ d ∷ bs) (length (b ∷ d ∷ bs) - 1) 0 ≡ get_or (d ∷ bs) (length (d ∷ bs) - 1) 0 = rw (sub-one, sub-one) refl in
    λ i. some i && eqb (last i) c

ends_behind : (c b : ℕ) (prefix bs : Text) → ends c (prefix ++ b ∷ bs) ≡ ends c (b ∷ bs)
ends_behind c b [] bs = refl
ends_behind c b (d ∷ []) bs = ends_more c d b bs
ends_behind c b (d ∷ e ∷ prefix) bs = ends_more c d e (prefix ++ b ∷ bs) ∙ ends_behind c b (e ∷ prefix) bs

-- a text ends with a byte only if it is another text followed by this byte
ends_not : (c : ℕ) (text : Text) → ((prefix : Text) → text ≢ prefix ++ c ∷ []) → ends c text ≡ false
ends_not c [] none = refl
ends_not c (b ∷ []) none = ne_eqb b c (λ e. none [] (ap (λ (x : ℕ). x ∷ []) e))
ends_not c (b ∷ d ∷ bs) none =
    ends_more c b d bs ∙ ends_not c (d ∷ bs) (λ prefix e. none (b ∷ prefix) (ap (λ (t : Text). b ∷ t) e))

-- ---- heads

abbrev is_open : ℕ → Bool
is_open b = eqb b 40

turned : (closed : Bool) (x : Text × Option Text) (fault : TextFault)
    → cond {A = Result (Text × Option Text) TextFault} (not closed) (Ok x) (Err fault) ≡ cond closed (Err fault) (Ok x)
turned true x fault = refl
turned false x fault = refl

pub head_without_role : (head : Text) → position_or_len is_open head ≡ length head → head_in head ≡ plain_head_in head
unfolding head_in plain_head_in
head_without_role head none =
    let parts = all_before is_open head none in
    rw (parts.0, parts.1) (turned (list_any (λ b. eqb b 41) head) (trimmed head, None) Syntax)

passes_here : (p : ℕ → Bool) (x : ℕ) (xs : List ℕ) (b : Bool) → p x ≡ b → position_or_len p (x ∷ xs) < length (x ∷ xs)
    → (position_or_len p xs < length xs → p (get_or xs (position_or_len p xs) 0) ≡ true)
    → p (get_or (x ∷ xs) (position_or_len p (x ∷ xs)) 0) ≡ true
passes_here p x xs true e some more = rw e e
passes_here p x xs false e some more =
    let some_left = rw e at some in
    let next : 1 + position_or_len p xs ≡ suc (position_or_len p xs) = omega arith in
    rw (e, next) (more (omega arith))

-- the element at the first index that passes a test passes it
passes_first : (p : ℕ → Bool) (xs : List ℕ) → position_or_len p xs < length xs → p (get_or xs (position_or_len p xs) 0) ≡ true
passes_first p [] some = absurd (omega arith)
passes_first p (x ∷ xs) some = passes_here p x xs (p x) refl some (passes_first p xs)

-- the part of a head after its first `(`
head_split : (head rest : Text) → position_or_len is_open head < length head → rest ≡ after_first is_open head
    → (c : ℕ) → ends c head ≡ ends c (40 ∷ rest)
head_split head rest some is c =
    let x = get_or head (position_or_len is_open head) 0 in
    let parted : head ≡ before_first is_open head ++ x ∷ rest = split_at_first is_open head 0 some ∙ ap (λ (t : Text). before_first is_open head ++ x ∷ t) (sym is) in
    let opens : x ≡ 40 = eqb-true x 40 (passes_first is_open head some) in
    ap (ends c) parted ∙ ends_behind c x (before_first is_open head) rest ∙ ap (λ (y : ℕ). ends c (y ∷ rest)) opens

pub head_with_role : (head rest role : Text) → position_or_len is_open head < length head → rest ≡ after_first is_open head
    → rest ≡ role ++ 41 ∷ [] → head_in head ≡ Ok (trimmed (before_first is_open head), Some (trimmed role))
unfolding head_in
head_with_role head rest role some is closed =
    let reserved : list_any is_open head ≡ true = any_at is_open head ∙ lt-ltb _ _ some in
    let last : ends 41 head ≡ true = head_split head rest some is 41 ∙ ap (λ (t : Text). ends 41 (40 ∷ t)) closed ∙ ends_closed 41 (40 ∷ role) in
    let text : role_text_of head ≡ trimmed role = ap (λ (t : Text). trimmed (take (length t - 1) t)) (sym is ∙ closed) ∙ ap trimmed (take_all_but_last role 41) in
    rw (reserved, last, text) refl

head_same : (b c : ℕ) (bs cs : Text) → b ∷ bs ≡ c ∷ cs → b ≡ c
head_same b c bs cs e = cc

open_ends : (rest : Text) → ((prefix : Text) → rest ≢ prefix ++ 41 ∷ []) → (prefix : Text) → 40 ∷ rest ≢ prefix ++ 41 ∷ []
open_ends rest none [] e = absurd (omega (arith, head_same 40 41 rest [] e))
open_ends rest none (b ∷ prefix) e = none prefix (cc)

pub head_open : (head rest : Text) → position_or_len is_open head < length head → rest ≡ after_first is_open head
    → ((prefix : Text) → rest ≢ prefix ++ 41 ∷ []) → head_in head ≡ Err Syntax
unfolding head_in
head_open head rest some is none =
    let reserved : list_any is_open head ≡ true = any_at is_open head ∙ lt-ltb _ _ some in
    let last : ends 41 head ≡ false = head_split head rest some is 41 ∙ ends_not 41 (40 ∷ rest) (open_ends rest none) in
    rw (reserved, last) refl

-- ---- bodies

-- an opening bracket that differs from the closing one is not the end
bracket_ends : (o c : ℕ) (rest : Text) → o ≢ c → ((prefix : Text) → rest ≢ prefix ++ c ∷ []) → ends c (o ∷ rest) ≡ false
bracket_ends o c rest apart none = ends_not c (o ∷ rest) by
  where
    by : (prefix : Text) → o ∷ rest ≢ prefix ++ c ∷ []
    by [] e = apart (cc)
    by (b ∷ prefix) e = none prefix (cc)

pub ranges_closed : (rest text : Text) → rest ≡ text ++ 93 ∷ [] → list_all has_one_dash (parts_between text) ≡ true → body_in (91 ∷ rest) ≡ Ok (Ranges, text)
unfolding body_in
ranges_closed rest text closed dashes =
    ap (λ (t : Text). body_in (91 ∷ t)) closed ∙ rw (ends_closed 93 (91 ∷ text), inside_of 91 93 text, dashes) refl

pub ranges_without_dash : (rest text : Text) → rest ≡ text ++ 93 ∷ [] → list_all has_one_dash (parts_between text) ≡ false → body_in (91 ∷ rest) ≡ Err Syntax
unfolding body_in
ranges_without_dash rest text closed dashes =
    ap (λ (t : Text). body_in (91 ∷ t)) closed ∙ rw (ends_closed 93 (91 ∷ text), inside_of 91 93 text, dashes) refl

pub ranges_open : (rest : Text) → ((prefix : Text) → rest ≢ prefix ++ 93 ∷ []) → body_in (91 ∷ rest) ≡ Err Syntax
unfolding body_in
ranges_open rest none = rw (bracket_ends 91 93 rest (λ e. absurd (omega (arith, e))) none) refl

pub items_closed : (rest text : Text) → rest ≡ text ++ 125 ∷ [] → body_in (123 ∷ rest) ≡ Ok (Items, text)
unfolding body_in
items_closed rest text closed =
    ap (λ (t : Text). body_in (123 ∷ t)) closed ∙ rw (ends_closed 125 (123 ∷ text), inside_of 123 125 text) refl

pub items_open : (rest : Text) → ((prefix : Text) → rest ≢ prefix ++ 125 ∷ []) → body_in (123 ∷ rest) ≡ Err Syntax
unfolding body_in
items_open rest none = rw (bracket_ends 123 125 rest (λ e. absurd (omega (arith, e))) none) refl

begins_not : (c : ℕ) (body : Text) → 0 ≢ c → ((rest : Text) → body ≢ c ∷ rest) → begins c body ≡ false
begins_not c [] some none = ne_eqb 0 c some
begins_not c (b ∷ bs) some none = ne_eqb b c (λ e. none bs (ap (λ (x : ℕ). x ∷ bs) e))

pub body_without_bracket : (body : Text) → ((rest : Text) → body ≢ 91 ∷ rest) → ((rest : Text) → body ≢ 123 ∷ rest) → body_in body ≡ Ok (Scalar, body)
unfolding body_in
body_without_bracket body no_range no_set =
    rw (begins_not 91 body (λ e. cc) no_range, begins_not 123 body (λ e. cc) no_set) refl
