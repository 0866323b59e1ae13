-- The results of a step on each element of a list.
use Rattle.std.proofs.Common.{◌≡◌, ℕ, ◌+◌, ◌<◌, ◌≤◌, List, [], ◌∷◌, ◌++◌, map, drop, length, get_or, Result, Ok, Err, refl, sym, ap, ◌∙◌, subst, append_assoc}
use Rattle.std.proofs.lemmas.List.{append-nil, at_drop_more, at_drop_all}
use Rattle.drf_lines.specs.declared.fault.LineFault.{LineFault}
use Rattle.drf_lines.specs.declared.fault.LineError.{LineError}
use Rattle.drf_lines.specs.declared.fault.LineError.TheVariants.{Fault, Memory}
use Rattle.drf_lines.specs.Fault.{◌>>=◌, IsReadAs}
use Rattle.drf_lines.specs.TaskTexts.{each_in}

module _ {X Y : Type 0} (step : X → Result Y LineFault) where
  -- the results so far, followed by those of the remaining elements
  abbrev pub each_after : List Y → List X → Result (List Y) LineFault
  each_after ys xs = each_in step xs >>= λ more. Ok (ys ++ more)

  one_read : (ys : List Y) (x : X) (xs : List X) (y : Y) → step x ≡ Ok y → each_after ys (x ∷ xs) ≡ each_after (ys ++ y ∷ []) xs
  one_read ys x xs y is = rw is (at (each_in step xs))
    where
      at : (r : Result (List Y) LineFault)
          → ((r >>= λ more. Ok (y ∷ more)) >>= λ more. Ok (ys ++ more)) ≡ (r >>= λ more. Ok ((ys ++ y ∷ []) ++ more))
      at (Ok more) = ap Ok (sym (append_assoc ys (y ∷ []) more))
      at (Err fault) = refl

  one_refused : {A B : Type 0} (one : A → Y) (all : B → List Y) (error : LineError) (ys : List Y) (x : X) (xs : List X)
      → IsReadAs one (Err error) (step x) → IsReadAs all (Err error) (each_after ys (x ∷ xs))
  one_refused one all (Fault fault) ys x xs is = rw is refl
  one_refused one all Memory ys x xs is = tt

  -- the elements before an index were read
  module _ {A : Type 0} (of : A → X) (ys : List Y) (all : List A) (i : ℕ) (so_far : each_after ys (map of (drop i all)) ≡ each_in step (map of all)) where
    module _ (a d : A) (inside : i < length all) (is : a ≡ get_or all i d) where
      left : each_after ys (of a ∷ map of (drop (i + 1) all)) ≡ each_in step (map of all)
      left =
          ap (λ (first : A). each_after ys (of first ∷ map of (drop (i + 1) all))) is
          ∙ sym (at_drop_more (λ (rest : List A). each_after ys (map of rest)) all i d inside) ∙ so_far

      -- an error at this element is the error of the list
      pub each_after-refused : {B C : Type 0} (one : B → Y) (whole : C → List Y) (error : LineError)
          → IsReadAs one (Err error) (step (of a)) → IsReadAs whole (Err error) (each_in step (map of all))
      each_after-refused {C = C} one whole error refused =
          subst (IsReadAs {A = C} {B = List Y} whole (Err error)) left (one_refused one whole error ys (of a) _ refused)

      -- this element is read too
      pub each_after-one : (y : Y) → step (of a) ≡ Ok y → each_after (ys ++ y ∷ []) (map of (drop (i + 1) all)) ≡ each_in step (map of all)
      each_after-one y read = sym (one_read ys (of a) (map of (drop (i + 1) all)) y read) ∙ left

    -- after the last element all were read
    pub each_after-all : length all ≤ i → each_in step (map of all) ≡ Ok ys
    each_after-all past =
        sym so_far ∙ at_drop_all (λ (rest : List A). each_after ys (map of rest)) all i past ∙ ap Ok (append-nil ys)
