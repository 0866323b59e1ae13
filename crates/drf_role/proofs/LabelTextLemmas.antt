-- A text of 1 to 7 bytes is determined by its number.
use Rattle.std.proofs.Common.{◌≡◌, ◌≢◌, ℕ, ◌<◌, ◌≤◌, [], ◌∷◌, length, All, Bool, cond, fold, true, false, refl, sym, ◌∙◌, ap, arith}
use Rattle.std.specs.Prelude.{nat_le}
use Rattle.std.proofs.lemmas.List.Elements.{All-head, All-tail}
use Rattle.std.proofs.lemmas.Bool.{leb-true, le-leb, lt-leb}
use Rattle.drf_role.specs.Text.{Text}
use Rattle.drf_role.specs.LabelText.{IsByte, with_digit, number_of, text_number, IsNumbered}

-- two texts of the same length whose digits make the same number are equal
digits_apart : (m n : ℕ) (xs ys : Text) → All IsByte xs → All IsByte ys → length xs ≡ length ys → fold with_digit m xs ≡ fold with_digit n ys → (m ≡ n) × (xs ≡ ys)
digits_apart m n [] [] hx hy l e = (e, refl)
digits_apart m n [] (y ∷ ys) hx hy l e = absurd (omega (arith, l))
digits_apart m n (x ∷ xs) [] hx hy l e = absurd (omega (arith, l))
digits_apart m n (x ∷ xs) (y ∷ ys) hx hy l e =
    let rest = digits_apart (with_digit m x) (with_digit n y) xs ys (All-tail IsByte x xs hx) (All-tail IsByte y ys hy) (omega (arith, l)) e in
    let is_x = All-head IsByte x xs hx in
    let is_y = All-head IsByte y ys hy in
    let prefixes : m ≡ n = omega (arith, rest.0, is_x, is_y) in
    let heads : x ≡ y = omega (arith, rest.0, is_x, is_y) in
    (prefixes, ap (λ b. b ∷ xs) heads ∙ ap (λ bs. y ∷ bs) rest.1)

-- two texts of at most 7 bytes with the same number are equal
numbers_apart : (xs ys : Text) → length xs ≤ 7 → length ys ≤ 7 → All IsByte xs → All IsByte ys → number_of xs ≡ number_of ys → xs ≡ ys
numbers_apart xs ys short_x short_y hx hy e =
    let many : length xs ≡ length ys = omega (arith, e, short_x, short_y) in
    let same : fold with_digit 0 xs ≡ fold with_digit 0 ys = omega (arith, e, many) in
    (digits_apart 0 0 xs ys hx hy many same).1

numbered : (b : Bool) (text : Text) → cond b (number_of text) 0 ≢ 0 → (b ≡ true) × (cond b (number_of text) 0 ≡ number_of text)
numbered true text h = (refl, refl)
numbered false text h = absurd (h refl)

-- a text that has a number has at most 7 bytes
is_short : (text : Text) → text_number text ≢ 0 → (length text ≤ 7) × (text_number text ≡ number_of text)
is_short text h =
    let by = numbered (nat_le (length text) 7) text h in
    (leb-true (length text) 7 by.0, by.1)

-- two texts with the same number, which is not 0, are equal
pub known_by_number : (xs ys : Text) (m n : ℕ) → IsNumbered xs m → IsNumbered ys n → m ≢ 0 → m ≡ n → xs ≡ ys
known_by_number xs ys m n of_x of_y some e =
    let x = is_short xs (λ z. some (of_x.right ∙ z)) in
    let y = is_short ys (λ z. some (e ∙ of_y.right ∙ z)) in
    numbers_apart xs ys x.0 y.0 (of_x.bytes some) (of_y.bytes (λ z. some (e ∙ z))) (sym x.1 ∙ sym of_x.right ∙ e ∙ of_y.right ∙ y.1)

-- a longer text has the number 0; the number of a short one
pub numbered_long : (text : Text) → 7 < length text → IsNumbered text 0
numbered_long text h = record {
  right = sym (ap (λ (b : Bool). cond b (number_of text) 0) (lt-leb (length text) 7 h));
  bytes = λ some. absurd (some refl);
}

pub numbered_short : (text : Text) (n : ℕ) → length text ≤ 7 → n ≡ number_of text → All IsByte text → IsNumbered text n
numbered_short text n h e bytes = record {
  right = e ∙ sym (ap (λ (b : Bool). cond b (number_of text) 0) (le-leb (length text) 7 h));
  bytes = λ some. bytes;
}
