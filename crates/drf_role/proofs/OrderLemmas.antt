-- The order of paths, part by part.
use Rattle.std.proofs.Common.{◌≡◌, ◌⊎◌, ℕ, ◌+◌, ◌-◌, ◌≤◌, true, false, List, [], ◌∷◌, length, drop, slice_get, Some, Ordering, refl, sym, ◌∙◌, ap, inl, inr, ⊎_elim, arith, length-drop}
use Rattle.std.specs.Prelude.{not, ◌==◌}
use Rattle.std.specs.Cmp.Lexicographic.{pointwise, slice_cmp, texts_ties}
use Rattle.std.specs.Ordering.{nat_cmp, ordering_then, is_eq, is_ne}
use Rattle.std.specs.declared.cmp.Ordering.TheVariants.{Less, Equal, Greater}
use Rattle.std.proofs.lemmas.Bool.{false≢true}
use Rattle.std.proofs.lemmas.Bool.Decides.{nat_tests}
use Rattle.std.proofs.lemmas.List.{drop_more}
use Rattle.std.proofs.lemmas.Option.{slice_get_within, get_or_from_slice_get}

abbrev pub path_cmp : List (List ℕ) → List (List ℕ) → Ordering
path_cmp = slice_cmp (slice_cmp nat_cmp)

-- a list from an index on, if the element there is known
pub drop_from_get : {X : Type 0} (xs : List X) (i : ℕ) (x : X) → slice_get xs i ≡ Some x → drop i xs ≡ x ∷ drop (i + 1) xs
drop_from_get xs i x e =
    drop_more xs i x (slice_get_within xs i x e) ∙ ap (λ y. y ∷ drop (i + 1) xs) (get_or_from_slice_get xs i x x e)

path_cmp_at : (ps qs : List (List ℕ)) (i : ℕ) (p q : List ℕ) → slice_get ps i ≡ Some p → slice_get qs i ≡ Some q → path_cmp (drop i ps) (drop i qs) ≡ ordering_then (slice_cmp nat_cmp p q) (path_cmp (drop (i + 1) ps) (drop (i + 1) qs))
path_cmp_at ps qs i p q d e =
    ap (λ xs. path_cmp xs (drop i qs)) (drop_from_get ps i p d)
    ∙ ap (path_cmp (p ∷ drop (i + 1) ps)) (drop_from_get qs i q e)

then_differs : (o r : Ordering) → is_ne o ≡ true → ordering_then o r ≡ o
then_differs Less r h = refl
then_differs Equal r h = absurd (false≢true h)
then_differs Greater r h = refl

then_same : (o r : Ordering) → is_ne o ≡ false → ordering_then o r ≡ r
then_same Less r h = absurd (false≢true (sym h))
then_same Equal r h = refl
then_same Greater r h = absurd (false≢true (sym h))

ne_from_eq : (o : Ordering) → is_ne o ≡ not (is_eq o)
ne_from_eq Less = refl
ne_from_eq Equal = refl
ne_from_eq Greater = refl

-- two parts compare as different exactly if they are not equal
pub differ : (p q : List ℕ) → is_ne (slice_cmp nat_cmp p q) ≡ not (pointwise ◌==◌ p q)
differ p q = ne_from_eq (slice_cmp nat_cmp p q) ∙ ap not (sym (texts_ties p q))

-- the first parts that differ decide
pub path_cmp_differs : (ps qs : List (List ℕ)) (i : ℕ) (p q : List ℕ) (o : Ordering) → slice_get ps i ≡ Some p → slice_get qs i ≡ Some q → o ≡ slice_cmp nat_cmp p q → is_ne o ≡ true → o ≡ path_cmp (drop i ps) (drop i qs)
path_cmp_differs ps qs i p q o d e h n =
    sym (path_cmp_at ps qs i p q d e ∙ ap (λ r. ordering_then r (path_cmp (drop (i + 1) ps) (drop (i + 1) qs))) (sym h) ∙ then_differs o _ n)

-- equal parts are skipped
pub path_cmp_more : (ps qs : List (List ℕ)) (i : ℕ) (p q : List ℕ) (o : Ordering) → slice_get ps i ≡ Some p → slice_get qs i ≡ Some q → o ≡ slice_cmp nat_cmp p q → is_ne o ≡ false → path_cmp (drop (i + 1) ps) (drop (i + 1) qs) ≡ path_cmp (drop i ps) (drop i qs)
path_cmp_more ps qs i p q o d e h n =
    sym (path_cmp_at ps qs i p q d e ∙ ap (λ r. ordering_then r (path_cmp (drop (i + 1) ps) (drop (i + 1) qs))) (sym h) ∙ then_same o _ n)

nil_cmp : (ps qs : List (List ℕ)) → (length ps ≡ 0) ⊎ (length qs ≡ 0) → nat_cmp (length ps) (length qs) ≡ path_cmp ps qs
nil_cmp [] [] h = refl
nil_cmp [] (q ∷ qs) h = grind (arith, nat_tests)
nil_cmp (p ∷ ps) [] h = grind (arith, nat_tests)
nil_cmp (p ∷ ps) (q ∷ qs) h = absurd (⊎_elim (λ e. omega arith) (λ e. omega arith) h)

less_both : (a b i : ℕ) → i ≤ a → i ≤ b → nat_cmp a b ≡ nat_cmp (a - i) (b - i)
less_both a b i h k = grind (arith, nat_tests)

-- if one path has ended, the lengths decide
pub path_cmp_end : (ps qs : List (List ℕ)) (i : ℕ) → i ≤ length ps → i ≤ length qs → (length ps ≤ i) ⊎ (length qs ≤ i) → nat_cmp (length ps) (length qs) ≡ path_cmp (drop i ps) (drop i qs)
path_cmp_end ps qs i h k ended =
    less_both (length ps) (length qs) i h k
    ∙ ap (λ n. nat_cmp n (length qs - i)) (sym (length-drop i ps))
    ∙ ap (nat_cmp (length (drop i ps))) (sym (length-drop i qs))
    ∙ nil_cmp (drop i ps) (drop i qs) (⊎_elim (λ e. inl (omega (arith, length-drop i ps))) (λ e. inr (omega (arith, length-drop i qs))) ended)
