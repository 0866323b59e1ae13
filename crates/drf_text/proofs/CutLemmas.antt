-- Texts without blanks, and texts that are cut where they were joined.
use Rattle.std.proofs.Common.{◌≡◌, ℕ, ◌+◌, ◌-◌, ◌<◌, Bool, true, false, cond, eqb, List, [], ◌∷◌, ◌++◌, length, map, take, drop, All, refl, ap, ◌∙◌, arith, length-append, ◌||◌, filter, nat_lt}
use Rattle.std.proofs.Math.Seq.{take-append_seam, drop-append-add}
use Rattle.std.proofs.lemmas.Bool.{and_from, or_parts, eq-eqb, lt-ltb}
use Rattle.std.proofs.lemmas.List.{get_or_push}
use Rattle.std.proofs.lemmas.List.Elements.{All-head, All-tail, All-weaker, All-nil, All-cons, All-append}
use Rattle.std.proofs.lemmas.List.Folds.{list_any_none, list_any-append}
use Rattle.std.proofs.lemmas.List.Splits.{slice_split_none, slice_split_at}
use Rattle.std.specs.List.{list_all, list_any, slice_split, join_with_byte, position_or_len, before_first, after_first}
use Rattle.drf_text.proofs.Names.{Text, is_blank, without_first_blanks, without_last_blanks, trimmed, HasNone, not_that, ends, inside, parts_inside, pieces_of}

pub not_blank : (class : ℕ → Bool) → class 32 ≡ false → class 9 ≡ false → (b : ℕ) → class b ≡ true → is_blank b ≡ false
not_blank class space tab b inside = rw (not_that class 32 space b inside, not_that class 9 tab b inside) refl

first_stays : (text : Text) → HasNone is_blank text → without_first_blanks text ≡ text
first_stays [] none = refl
first_stays (b ∷ bs) none = rw (All-head (λ c. is_blank c ≡ false) b bs none) refl

last_stays : (text : Text) → HasNone is_blank text → without_last_blanks text ≡ text
last_stays [] none = refl
last_stays (b ∷ bs) none =
    rw (All-head (λ c. is_blank c ≡ false) b bs none) (ap (λ (t : Text). b ∷ t) (last_stays bs (All-tail (λ c. is_blank c ≡ false) b bs none)))

pub trimmed_stays : (text : Text) → HasNone is_blank text → trimmed text ≡ text
trimmed_stays text none = ap without_last_blanks (first_stays text none) ∙ last_stays text none

-- ---- a text cut at the first byte that passes a test

position_at : (p : ℕ → Bool) (prefix : Text) (c : ℕ) (rest : Text) → HasNone p prefix → p c ≡ true → position_or_len p (prefix ++ c ∷ rest) ≡ length prefix
position_at p [] c rest none here = rw here refl
position_at p (b ∷ bs) c rest none here =
    rw (All-head (λ x. p x ≡ false) b bs none) (omega (arith, position_at p bs c rest (All-tail (λ x. p x ≡ false) b bs none) here))

pub before_at : (p : ℕ → Bool) (prefix : Text) (c : ℕ) (rest : Text) → HasNone p prefix → p c ≡ true → before_first p (prefix ++ c ∷ rest) ≡ prefix
before_at p prefix c rest none here =
    ap (λ n. take n (prefix ++ c ∷ rest)) (position_at p prefix c rest none here) ∙ take-append_seam prefix (c ∷ rest)

pub after_at : (p : ℕ → Bool) (prefix : Text) (c : ℕ) (rest : Text) → HasNone p prefix → p c ≡ true → after_first p (prefix ++ c ∷ rest) ≡ rest
after_at p prefix c rest none here =
    ap (λ n. drop (n + 1) (prefix ++ c ∷ rest)) (position_at p prefix c rest none here) ∙ drop-append-add prefix (c ∷ rest) 1

pub any_at_mark : (p : ℕ → Bool) (prefix : Text) (c : ℕ) (rest : Text) → HasNone p prefix → p c ≡ true → list_any p (prefix ++ c ∷ rest) ≡ true
any_at_mark p prefix c rest none here = list_any-append p prefix (c ∷ rest) ∙ rw (list_any_none p prefix none, here) refl

pub position_none : (p : ℕ → Bool) (text : Text) → HasNone p text → position_or_len p text ≡ length text
position_none p [] none = refl
position_none p (b ∷ bs) none =
    rw (All-head (λ x. p x ≡ false) b bs none) (omega (arith, position_none p bs (All-tail (λ x. p x ≡ false) b bs none)))

-- ---- joined texts

pub cut_joined : (c : ℕ) (x : Text) (xs : List Text) → All (HasNone (λ b. eqb b c)) (x ∷ xs) → slice_split (λ b. eqb b c) (join_with_byte c (x ∷ xs)) ≡ x ∷ xs
cut_joined c x [] none = slice_split_none (λ b. eqb b c) x (All-head (HasNone (λ b. eqb b c)) x [] none)
cut_joined c x (y ∷ ys) none =
    slice_split_at (λ b. eqb b c) x c (join_with_byte c (y ∷ ys)) (All-head (HasNone (λ b. eqb b c)) x (y ∷ ys) none) (eq-eqb c c refl)
    ∙ ap (λ (parts : List Text). x ∷ parts) (cut_joined c y ys (All-tail (HasNone (λ b. eqb b c)) x (y ∷ ys) none))

all_stay : (xs : List Text) → All (HasNone is_blank) xs → map trimmed xs ≡ xs
all_stay [] none = refl
all_stay (x ∷ xs) none = λ i. trimmed_stays x (All-head (HasNone is_blank) x xs none) i ∷ all_stay xs (All-tail (HasNone is_blank) x xs none) i

-- a blank, or the separator between parts
abbrev pub is_between : ℕ → ℕ → Bool
is_between mark b = is_blank b || eqb b mark

pub not_between : (class : ℕ → Bool) (mark : ℕ) → class 32 ≡ false → class 9 ≡ false → class mark ≡ false → (b : ℕ) → class b ≡ true → is_between mark b ≡ false
not_between class mark space tab out b inside = rw (not_blank class space tab b inside, not_that class mark out b inside) refl

-- a text that is a single part when texts are joined by the separator
pub record IsPart (mark : ℕ) (text : Text) : Type 0 where
  pub some : 0 < length text
  pub whole : HasNone (is_between mark) text

pub no_blanks : (mark : ℕ) (text : Text) → HasNone (is_between mark) text → HasNone is_blank text
no_blanks mark text none = All-weaker (λ b. is_between mark b ≡ false) (λ b. is_blank b ≡ false) (λ b out. (or_parts (is_blank b) (eqb b mark) out).0) text none

no_marks : (mark : ℕ) (text : Text) → HasNone (is_between mark) text → HasNone (λ b. eqb b mark) text
no_marks mark text none = All-weaker (λ b. is_between mark b ≡ false) (λ b. eqb b mark ≡ false) (λ b out. (or_parts (is_blank b) (eqb b mark) out).1) text none

parts_stay : (mark : ℕ) (x : Text) (xs : List Text) → All (IsPart mark) (x ∷ xs)
    → map trimmed (slice_split (λ b. eqb b mark) (join_with_byte mark (x ∷ xs))) ≡ x ∷ xs
parts_stay mark x xs are =
    ap (λ (parts : List Text). map trimmed parts) (cut_joined mark x xs (All-weaker (IsPart mark) (HasNone (λ b. eqb b mark)) (λ t is. no_marks mark t is.whole) (x ∷ xs) are))
    ∙ all_stay (x ∷ xs) (All-weaker (IsPart mark) (HasNone is_blank) (λ t is. no_blanks mark t is.whole) (x ∷ xs) are)

filled_stay : (xs : List Text) → All (IsPart 59) xs → filter (λ piece. nat_lt 0 (length piece)) xs ≡ xs
filled_stay [] are = refl
filled_stay (x ∷ xs) are =
    rw (lt-ltb 0 (length x) (All-head (IsPart 59) x xs are).some) (ap (λ (parts : List Text). x ∷ parts) (filled_stay xs (All-tail (IsPart 59) x xs are)))

-- cutting the joined text gives the pieces again
pub pieces_found : (xs : List Text) → All (IsPart 59) xs → pieces_of (join_with_byte 59 xs) ≡ xs
pieces_found [] are = refl
pieces_found (x ∷ xs) are =
    ap (λ (parts : List Text). filter (λ piece. nat_lt 0 (length piece)) parts) (parts_stay 59 x xs are) ∙ filled_stay (x ∷ xs) are

-- ---- the text between brackets

pub take_all_but_last : (prefix : Text) (c : ℕ) → take (length (prefix ++ c ∷ []) - 1) (prefix ++ c ∷ []) ≡ prefix
take_all_but_last prefix c =
    let long : length (prefix ++ c ∷ []) - 1 ≡ length prefix = omega (arith, length-append prefix (c ∷ [])) in
    ap (λ n. take n (prefix ++ c ∷ [])) long ∙ take-append_seam prefix (c ∷ [])

pub ends_closed : (c : ℕ) (prefix : Text) → ends c (prefix ++ c ∷ []) ≡ true
ends_closed c prefix =
    let long : length prefix + 1 ≡ length (prefix ++ c ∷ []) = omega (arith, length-append prefix (c ∷ [])) in
    and_from _ _ (lt-ltb 0 (length (prefix ++ c ∷ [])) (omega arith))
    (eq-eqb _ c (get_or_push prefix c 0 (length (prefix ++ c ∷ []) - 1) (omega arith)))

pub inside_of : (o c : ℕ) (text : Text) → inside (o ∷ text ++ c ∷ []) ≡ text
inside_of o c text =
    let long : length (o ∷ text ++ c ∷ []) - 2 ≡ length text = omega (arith, length-append text (c ∷ [])) in
    ap (λ n. take n (text ++ c ∷ [])) long ∙ take-append_seam text (c ∷ [])

not_all_blank : (mark : ℕ) (x : Text) (xs : List Text) → IsPart mark x → list_all is_blank (join_with_byte mark (x ∷ xs)) ≡ false
not_all_blank mark [] xs is = absurd (omega (arith, is.some))
not_all_blank mark (b ∷ bs) [] is = rw (All-head (λ c. is_blank c ≡ false) b bs (no_blanks mark (b ∷ bs) is.whole)) refl
not_all_blank mark (b ∷ bs) (y ∷ ys) is = rw (All-head (λ c. is_blank c ≡ false) b bs (no_blanks mark (b ∷ bs) is.whole)) refl

-- the parts between brackets are found again
pub parts_found : (o c : ℕ) (xs : List Text) → All (IsPart 44) xs → parts_inside (o ∷ join_with_byte 44 xs ++ c ∷ []) ≡ xs
parts_found o c [] are = refl
parts_found o c (x ∷ xs) are =
    ap (λ (text : Text). cond (list_all is_blank text) [] (map trimmed (slice_split (λ b. eqb b 44) text))) (inside_of o c (join_with_byte 44 (x ∷ xs)))
    ∙ ap (λ (t : Bool). cond t [] (map trimmed (slice_split (λ b. eqb b 44) (join_with_byte 44 (x ∷ xs))))) (not_all_blank 44 x xs (All-head (IsPart 44) x xs are))
    ∙ parts_stay 44 x xs are

-- a byte that is neither the separator nor in any part is not in the joined text
pub joined_has_none : (p : ℕ → Bool) (c : ℕ) (xs : List Text) → p c ≡ false → All (HasNone p) xs → HasNone p (join_with_byte c xs)
joined_has_none p c [] mark none = All-nil (λ b. p b ≡ false)
joined_has_none p c (x ∷ []) mark none = All-head (HasNone p) x [] none
joined_has_none p c (x ∷ y ∷ ys) mark none =
    All-append (λ b. p b ≡ false) x (c ∷ join_with_byte c (y ∷ ys)) (All-head (HasNone p) x (y ∷ ys) none)
    (All-cons (λ b. p b ≡ false) c (join_with_byte c (y ∷ ys)) mark (joined_has_none p c (y ∷ ys) mark (All-tail (HasNone p) x (y ∷ ys) none)))
