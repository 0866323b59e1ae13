-- Where the first line of a text ends.
use Rattle.std.proofs.Common.{◌≡◌, ◌==◌, ◌<◌, ◌+◌, ℕ, false, List, [], ◌∷◌, ◌++◌, length, take, drop, get_or, refl, sym, ap, subst, ◌∙◌, Option, Some, None, IfSome, IfNone, suc, add-one, take-append-drop, arith}
use Rattle.std.proofs.Math.Seq.{drop-cons, take-append-add}
use Rattle.std.proofs.lemmas.Bool.{eqb-true, false_from_ne_true}
use Rattle.std.proofs.lemmas.List.{get_or-take, length-take, take_all}
use Rattle.std.proofs.lemmas.List.Elements.{All-from_get_or}
use Rattle.std.proofs.lemmas.List.Splits.{slice_split_at, slice_split_none}
use Rattle.memchr.specs.Find.{IsFirstByte, Nowhere, Passes, is_byte}
use Rattle.drf_lines.specs.OneLine.{IsOneLine}
use Rattle.drf_state.specs.State.{ended}
use Rattle.drf_state.specs.laws.Parts.{parts_of_text}

one_line-prefix : (bytes : List ℕ) (n : ℕ) → Nowhere (Passes (is_byte 10) bytes) 0 n → IsOneLine (take n bytes)
one_line-prefix bytes n none =
    All-from_get_or (λ (b : ℕ). (b == 10) ≡ false) (take n bytes) 0
    (λ i below.
    let small : i < n = omega (arith, length-take n bytes, below) in
    subst (λ (b : ℕ). (b == 10) ≡ false) (sym (get_or-take n bytes i 0 small))
    (false_from_ne_true (get_or bytes i 0 == 10) (none i (omega arith) small)))

cut_at : (rest : List ℕ) (at : ℕ) → at < length rest → get_or rest at 0 ≡ 10 → rest ≡ take at rest ++ 10 ∷ drop (at + 1) rest
cut_at rest at inside feed =
    sym (take-append-drop at rest)
    ∙ ap (λ l. take at rest ++ l) (drop-cons rest at 0 inside ∙ ap (λ b. b ∷ drop (suc at) rest) feed
    ∙ ap (λ n. 10 ∷ drop n rest) (sym (add-one at)))

pub first_line : (bytes : List ℕ) (place : Option ℕ) → IsFirstByte (is_byte 10) bytes place
    → IfSome place (λ at. (at < length bytes) × (parts_of_text bytes ≡ take at bytes ∷ parts_of_text (drop (at + 1) bytes)))
first_line bytes None first = tt
first_line bytes (Some at) first = (
  first.0.high,
  ap parts_of_text (cut_at bytes at first.0.high (eqb-true (get_or bytes at 0) 10 first.1))
      ∙ slice_split_at (λ b. b == 10) (take at bytes) 10 (drop (at + 1) bytes) (one_line-prefix bytes at first.0.before) refl,
)

pub only_line : (bytes : List ℕ) (place : Option ℕ) → IsFirstByte (is_byte 10) bytes place → IfNone place (parts_of_text bytes ≡ bytes ∷ [])
only_line bytes None first =
    slice_split_none (λ b. b == 10) bytes (subst IsOneLine (take_all (length bytes) bytes (omega arith)) (one_line-prefix bytes (length bytes) first))
only_line bytes (Some at) first = tt

-- the line with its line feed
pub ended_line : (bytes : List ℕ) (place : Option ℕ) → IsFirstByte (is_byte 10) bytes place
    → IfSome place (λ at. take (at + 1) bytes ≡ ended (take at bytes))
ended_line bytes None first = tt
ended_line bytes (Some at) first =
    let whole : List ℕ = take at bytes ++ 10 ∷ drop (at + 1) bytes in
    let count : at + 1 ≡ length (take at bytes) + 1 = omega (arith, length-take at bytes, first.0.high) in
    ap (take (at + 1)) (cut_at bytes at first.0.high (eqb-true (get_or bytes at 0) 10 first.1))
    ∙ ap (λ n. take n whole) count
    ∙ take-append-add (take at bytes) (10 ∷ drop (at + 1) bytes) 1
