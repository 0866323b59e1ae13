-- Frames whose nodes are each below the one before.
use Rattle.std.specs.Prelude.{◌≡◌, true, List, [], ◌∷◌, ◌++◌, Option}
use Rattle.std.specs.List.{AllByRecursion}
use Rattle.drf_tree.proofs.Names.{begins_with, each_append, each_parts, Place, Frame, path_at, AreNested}

module _ (places : List (Option Place)) where
  -- the node of the second is at or below that of the first
  abbrev pub IsBelow : Frame → Frame → Type 0
  IsBelow f g = begins_with (path_at places g.node) (path_at places f.node) ≡ true

  pub nested_parts : (prefix rest : List Frame) → AreNested places (prefix ++ rest) → AreNested places prefix × AreNested places rest
  nested_parts [] rest nested = (tt, nested)
  nested_parts (g ∷ prefix) rest nested =
      let later = nested_parts prefix rest nested.1 in
      (((each_parts (IsBelow g) prefix rest nested.0).0, later.0), later.1)

  pub nested_last : (prefix : List Frame) (f : Frame) → AreNested places (prefix ++ f ∷ []) → AllByRecursion (λ g. IsBelow g f) prefix
  nested_last [] f nested = tt
  nested_last (g ∷ prefix) f nested =
      ((each_parts (IsBelow g) prefix (f ∷ []) nested.0).1.0, nested_last prefix f nested.1)

  pub nested_more : (prefix : List Frame) (f : Frame) → AreNested places prefix → AllByRecursion (λ g. IsBelow g f) prefix
      → AreNested places (prefix ++ f ∷ [])
  nested_more [] f nested below = (tt, tt)
  nested_more (g ∷ prefix) f nested below =
      (each_append (IsBelow g) prefix (f ∷ []) nested.0 (below.0, tt), nested_more prefix f nested.1 below.1)
