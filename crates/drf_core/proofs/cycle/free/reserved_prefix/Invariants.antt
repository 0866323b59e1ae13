use Rattle.std.proofs.Common.{◌≡◌, ℕ, ◌+◌, ◌≤◌, drop, length}
use Rattle.std.specs.List.{list_any}
use Rattle.drf_core.specs.cycle.Entitling.{is_reserved_for, is_reserved_near}
use Rattle.drf_core.proofs.cycle.free.reserved_prefix.Given as goal

-- the resources so far are not reserved for the role, for roles above it, or for roles with the first parts so far
abbrev pub invariant-loop-resource : goal.invariant-loop-resource
invariant-loop-resource l = record {
  within : l.prefix ≤ length l.role + 1;
  none : list_any (is_reserved_for l.role) l.free ≡ list_any (is_reserved_for l.role) (drop l.resource-index l.resource-items);
  near : (n : ℕ) → l.prefix ≤ n → list_any (is_reserved_near l.role n) l.free ≡ list_any (is_reserved_near l.role n) (drop l.resource-index l.resource-items);
}
