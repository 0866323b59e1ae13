-- Why a row is not allowed after others, case by case.
use Rattle.std.proofs.Common.{◌≡◌, Bool, true, false, not, ◌&&◌, List, [], ◌∷◌, ◌++◌, map, Some, None, refl, ap}
use Rattle.std.specs.Prelude.{◌↔◌, IsTrue}
use Rattle.std.specs.List.{list_all}
use Rattle.std.specs.Cmp.{both_ways}
use Rattle.drf_role.specs.Path.{Path, same_path}
use Rattle.drf_role.specs.PathLaws.{path_decides}
use Rattle.drf_role.specs.Role.{default_role}
use Rattle.drf_bundle.specs.Bundle.{is_default}
use Rattle.drf_rows.specs.Consistent.{are_distinct_roles}
use Rattle.drf_rows.specs.declared.rows.ClientRow.{ClientRow}
use Rattle.drf_saved.specs.Saved.{first_fault}
use Rattle.drf_saved.specs.declared.fault.RowFault.{RowFault}

-- ---- cases

-- a case that holds is returned before all later ones
pub first_prefix : (prefix rest : List (Bool × RowFault)) (fault : RowFault) → first_fault prefix ≡ Some fault → first_fault (prefix ++ rest) ≡ Some fault
first_prefix [] rest fault is = cc
first_prefix ((true, case) ∷ prefix) rest fault is = is
first_prefix ((false, case) ∷ prefix) rest fault is = first_prefix prefix rest fault is

-- if none of the first cases holds, the later ones decide
pub first_rest : (prefix rest : List (Bool × RowFault)) → first_fault prefix ≡ None → first_fault (prefix ++ rest) ≡ first_fault rest
first_rest [] rest is = refl
first_rest ((true, case) ∷ prefix) rest is = let none : ⊥ = cc in absurd none
first_rest ((false, case) ∷ prefix) rest is = first_rest prefix rest is

-- ---- roles

pub default_from : (role : Path) (t : Bool) → IsTrue t ↔ (role ≡ default_role) → t ≡ is_default role
default_from role t reported =
    both_ways t (is_default role)
    (λ is. (path_decides role default_role).1 (reported.0 is)) (λ is. reported.1 ((path_decides role default_role).0 is))

apart_each : (role : Path) (clients : List ClientRow)
    → list_all (λ (c : ClientRow). not (same_path role c.role)) clients ≡ list_all (λ r. not (same_path role r)) (map (λ (c : ClientRow). c.role) clients)
apart_each role [] = refl
apart_each role (c ∷ clients) = ap (λ b. not (same_path role c.role) && b) (apart_each role clients)

-- the first client is in none of the roles of the others, and these roles differ
pub distinct_first : (first : ClientRow) (rest : List ClientRow)
    → (list_all (λ (c : ClientRow). not (same_path first.role c.role)) rest && are_distinct_roles (map (λ (c : ClientRow). c.role) rest))
    ≡ are_distinct_roles (map (λ (c : ClientRow). c.role) (first ∷ rest))
distinct_first first rest = ap (λ b. b && are_distinct_roles (map (λ (c : ClientRow). c.role) rest)) (apart_each first.role rest)
