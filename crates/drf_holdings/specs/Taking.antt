-- Removing one element of a list.
use Rattle.std.specs.Prelude.{◌≡◌, Bool, true, false, List, ◌∷◌, ◌++◌}
use Rattle.std.specs.List.{list_any}

-- one element that passes the test was removed, and the others stay in order
pub record IsTaken {X : Type 0} (test : X → Bool) (old new : List X) (x : X) : Type 0 where
  pub before : List X
  pub after : List X
  pub whole : old ≡ before ++ x ∷ after
  pub left : new ≡ before ++ after
  pub passes : test x ≡ true

-- no element passes the test, and the list stays the same
pub record HasNone {X : Type 0} (test : X → Bool) (old new : List X) : Type 0 where
  pub none : list_any test old ≡ false
  pub same : new ≡ old
