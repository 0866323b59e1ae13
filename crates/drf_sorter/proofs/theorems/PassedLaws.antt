-- Passing one client.
use Rattle.std.specs.Prelude.{ℕ, List, [], ◌∷◌, drop, take}
use Rattle.std.proofs.Common.{ap, arith, refl}
use Rattle.std.proofs.lemmas.Option.{same_Some}
use Rattle.drf_role.specs.Path.{Path}
use Rattle.drf_sorter.specs.Passed.{IsPassedPrefix}

-- a client that is passed alone shares its first parts with itself
pub one_is_prefix : (len : ℕ) (paths : List Path) → IsPassedPrefix len paths (drop 1 paths)
one_is_prefix len [] = record { passed = []; split = refl; alike = λ first none. absurd cc; some = λ first none. absurd cc }
one_is_prefix len (path ∷ paths) = record {
  passed = path ∷ [];
  split = refl;
  alike = λ first next. (ap (take len) (same_Some path first next), tt);
  some = λ first next. omega arith;
}
