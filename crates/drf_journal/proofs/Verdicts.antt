-- A journal has at most one verdict.
use Rattle.std.proofs.Common.{◌≡◌, ℕ, zero, suc, ◌≤◌, ◌<◌, List, [], ◌∷◌, take, ⊎_elim, refl, sym, ap, ◌∙◌, arith}
use Rattle.std.specs.Prelude.{slice_get}
use Rattle.std.proofs.lemmas.Bool.{cases_lt}
use Rattle.drf_journal.specs.declared.journal.Verdict.TheVariants.{Good, Bad}
use Rattle.drf_journal.specs.Journal.{IsFirstDifference}
use Rattle.drf_journal.specs.JournalLaws.{HasOneVerdict}

get_take : (n : ℕ) (xs : List (List ℕ)) (i : ℕ) → i < n → slice_get (take n xs) i ≡ slice_get xs i
get_take zero xs i before = absurd (omega arith)
get_take (suc n) [] i before = refl
get_take (suc n) (x ∷ xs) zero before = refl
get_take (suc n) (x ∷ xs) (suc i) before = get_take n xs i (omega arith)

-- two lists do not differ before their first difference
not_before : (xs ys : List (List ℕ)) (first place : ℕ) → IsFirstDifference xs ys first → IsFirstDifference xs ys place → ¬ (place < first)
not_before xs ys first place one other before =
    other.there (sym (get_take first xs place before) ∙ ap (λ (l : List (List ℕ)). slice_get l place) one.before ∙ get_take first ys place before)

same_place : (xs ys : List (List ℕ)) (one other : ℕ) → IsFirstDifference xs ys one → IsFirstDifference xs ys other → one ≡ other
same_place xs ys one other is also =
    ⊎_elim (λ (less : one < other). absurd (not_before xs ys other one also is less))
    (λ (more : other ≤ one).
    ⊎_elim (λ (less : other < one). absurd (not_before xs ys one other is also less))
    (λ (most : one ≤ other). omega arith)
    (cases_lt other one))
    (cases_lt one other)

pub one-verdict : HasOneVerdict
one-verdict machine journal (Good a) (Good b) one other = ap Good (one.1 ∙ sym other.1)
one-verdict machine journal (Good a) (Bad b) one other =
    absurd (other.1.there (ap (λ (l : List (List ℕ)). slice_get l other.0) one.0))
one-verdict machine journal (Bad a) (Good b) one other =
    absurd (one.1.there (ap (λ (l : List (List ℕ)). slice_get l one.0) other.0))
one-verdict machine journal (Bad a) (Bad b) one other =
    let place = same_place _ _ one.0 other.0 one.1 other.1 in
    let first = one.2 in let second = other.2 in
    let same : a ≡ b = omega arith in
    ap Bad same
