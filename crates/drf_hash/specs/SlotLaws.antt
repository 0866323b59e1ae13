-- Lemmas on lists with free slots: values are found by their keys after a value is added, changed or removed.
use Rattle.std.proofs.Common.{ℕ, Bool, List, Option}
use Rattle.std.proofs.Props.{props}
use Rattle.drf_hash.specs.Slots.{IsRegistry}

-- `IsRegistry` is a proposition: any two proofs of it are equal
pub registry-prop : {K X : Type 0} (same : K → K → Bool) (key : X → K) (slots : List (Option X)) (places : List (K × ℕ)) (number : ℕ)
    → IsProp (IsRegistry same key slots places number)
registry-prop same key slots places number = hlevel props
