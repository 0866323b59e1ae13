-- Steps on each part of a list.
use Rattle.std.proofs.Common.{◌≡◌, ℕ, Bool, true, false, cond, List, [], ◌∷◌, ◌++◌, ◌&&◌, map, Result, Ok, Err, refl, sym, ap, append_assoc, append-nil}
use Rattle.std.specs.List.{list_all, flat_map}
use Rattle.std.specs.Str.Parse.{digits_value}
use Rattle.drf_text.proofs.Names.{Text, low_of, high_of, ◌>>=◌, each_of, TextFault}

-- the two ends of a range
abbrev pub pair_of : Text → ℕ × ℕ
pair_of part = (digits_value 10 (low_of part), digits_value 10 (high_of part))

pub flat_map-map : {X Y Z : Type 0} (g : Y → List Z) (f : X → Y) (xs : List X) → flat_map g (map f xs) ≡ flat_map (λ x. g (f x)) xs
flat_map-map g f [] = refl
flat_map-map g f (x ∷ xs) = ap (λ (t : _). g (f x) ++ t) (flat_map-map g f xs)

pub each_of-map : {A B C : Type 0} (step : B → Result C TextFault) (f : A → B) (xs : List A) → each_of step (map f xs) ≡ each_of (λ x. step (f x)) xs
each_of-map step f [] = refl
each_of-map {A} {B} {C} step f (x ∷ xs) = ap (λ (r : Result (List C) TextFault). step (f x) >>= λ y. r >>= λ ys. Ok (y ∷ ys)) (each_of-map step f xs)

-- the results so far, followed by those of the remaining parts
abbrev pub each_after : {A B : Type 0} → (A → Result B TextFault) → List B → List A → Result (List B) TextFault
each_after step found xs = each_of step xs >>= λ more. Ok (found ++ more)

pub each_after-end : {A B : Type 0} (step : A → Result B TextFault) (found : List B) → each_after step found [] ≡ Ok found
each_after-end step found = ap Ok (append-nil found)

pub each_after-more : {A B : Type 0} (step : A → Result B TextFault) (found : List B) (x : A) (xs : List A) (y : B)
    → step x ≡ Ok y → each_after step found (x ∷ xs) ≡ each_after step (found ++ y ∷ []) xs
each_after-more {A} {B} step found x xs y is = rw is (at (each_of step xs))
  where
    at : (r : Result (List B) TextFault)
        → ((r >>= λ ys. Ok (y ∷ ys)) >>= λ more. Ok (found ++ more)) ≡ (r >>= λ more. Ok ((found ++ y ∷ []) ++ more))
    at (Ok more) = ap Ok (sym (append_assoc found (y ∷ []) more))
    at (Err fault) = refl

pub each_after-fault : {A B : Type 0} (step : A → Result B TextFault) (found : List B) (x : A) (xs : List A) (fault : TextFault)
    → step x ≡ Err fault → each_after step found (x ∷ xs) ≡ Err fault
each_after-fault step found x xs fault is = rw is refl

-- ---- a step that is a test

pub each_tested : {A B : Type 0} (step : A → Result B TextFault) (p : A → Bool) (f : A → B) (fault : TextFault)
    → ((x : A) → step x ≡ cond (p x) (Ok (f x)) (Err fault)) → (xs : List A)
    → each_of step xs ≡ cond (list_all p xs) (Ok (map f xs)) (Err fault)
each_tested step p f fault each [] = refl
each_tested {A} {B} step p f fault each (x ∷ xs) =
    rw (each x, each_tested step p f fault each xs) (at (p x) (list_all p xs))
  where
    at : (here more : Bool) → (cond {A = Result B TextFault} here (Ok (f x)) (Err fault) >>= λ y.
        cond {A = Result (List B) TextFault} more (Ok (map f xs)) (Err fault) >>= λ ys. Ok (y ∷ ys))
        ≡ cond (here && more) (Ok (f x ∷ map f xs)) (Err fault)
    at true true = refl
    at true false = refl
    at false more = refl
