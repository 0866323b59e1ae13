-- Lemmas about `specs/LimitLaws.antt`.
use Rattle.std.specs.Prelude.{◌≡◌, Bool, true, false, not, ◌&&◌, List, [], ◌∷◌, length, map, Some, None, nat_lt}
use Rattle.std.specs.List.{list_all, AllByRecursion}
use Rattle.std.proofs.Common.{refl, sym, ap, ◌∙◌, inl, inr, arith}
use Rattle.std.proofs.lemmas.Bool.{cases_Bool, and_parts, and_from, not-true, lt-ltb}
use Rattle.drf_role.specs.Path.{Path, same_path}
use Rattle.drf_role.specs.PathLaws.{same_path_itself, same_path-true}
use Rattle.drf_role.proofs.PathLaws.{same_path-swap}
use Rattle.drf_role.specs.Role.{IsRole}
use Rattle.drf_bundle.specs.Bundle.{is_default}
use Rattle.drf_bundle.specs.declared.quantities.Entry.{Entry}
use Rattle.drf_rows.specs.Quota.{limit_of, limits_put, limits_without, limits_with}
use Rattle.drf_rows.specs.Step.{effect}
use Rattle.drf_rows.specs.Consistent.{are_distinct_roles, AreLimits, IsConsistent}
use Rattle.drf_bundle.proofs.ListLaws.{none_has}
use Rattle.drf_rows.specs.declared.rows.LimitRow.{LimitRow}
use Rattle.drf_rows.specs.declared.rows.Rows.{Rows}
use Rattle.drf_row_laws.specs.LimitLaws.{RoleHasItsLimit, OthersKeepTheirLimit, LimitTakesNothing}

-- ---- adding and removing a row

abbrev role_in : LimitRow → Path
role_in l = l.role

abbrev is_row : LimitRow → Bool
is_row l = not (is_default l.role) && nat_lt 0 (length l.limit)

-- a role without a row has no limit
limit_of-none : (role : Path) (ls : List LimitRow) → none_has same_path role_in role ls ≡ true → limit_of ls role ≡ None
limit_of-none role [] none = refl
limit_of-none role (l ∷ ls) none =
    let parts = and_parts (not (same_path role l.role)) (none_has same_path role_in role ls) none in
    let past : same_path l.role role ≡ false = same_path-swap l.role role ∙ not-true (same_path role l.role) parts.0 in
    rw past (limit_of-none role ls parts.1)

module _ (role : Path) where
  limit_of-put : (limit : List Entry) (ls : List LimitRow) → limit_of (limits_put ls role limit) role ≡ Some limit
  limit_of-put limit [] = rw (same_path_itself role) refl
  limit_of-put limit (l ∷ ls) = elim (cases_Bool (same_path l.role role)) [
    | inl here ↦ rw (here, here) refl
    | inr past ↦ rw (past, past) (limit_of-put limit ls)
  ]

  limit_of-gone : (ls : List LimitRow) → are_distinct_roles (map role_in ls) ≡ true → limit_of (limits_without ls role) role ≡ None
  limit_of-gone [] apart = refl
  limit_of-gone (l ∷ ls) apart =
      let parts = and_parts (none_has same_path role_in l.role ls) (are_distinct_roles (map role_in ls)) apart in
      elim (cases_Bool (same_path l.role role)) [
        | inl here ↦
            let none : none_has same_path role_in role ls ≡ true =
            ap (λ (r : Path). none_has same_path role_in r ls) (sym (same_path-true l.role role here)) ∙ parts.0 in
            rw here (limit_of-none role ls none)
        | inr past ↦ rw (past, past) (limit_of-gone ls parts.1)
      ]

  module _ (other : Path) (apart : same_path role other ≡ false) where
    -- the row of the role is not that of another role
    not_its : (l : LimitRow) → same_path l.role role ≡ true → same_path l.role other ≡ false
    not_its l here = ap (λ r. same_path r other) (same_path-true l.role role here) ∙ apart

    other-put : (limit : List Entry) (ls : List LimitRow) → limit_of (limits_put ls role limit) other ≡ limit_of ls other
    other-put limit [] = rw apart refl
    other-put limit (l ∷ ls) = elim (cases_Bool (same_path l.role role)) [
      | inl here ↦ rw (here, not_its l here) refl
      | inr past ↦ elim (cases_Bool (same_path l.role other)) [
        | inl found ↦ rw (past, found) refl
        | inr later ↦ rw (past, later) (other-put limit ls)
      ]
    ]

    other-gone : (ls : List LimitRow) → limit_of (limits_without ls role) other ≡ limit_of ls other
    other-gone [] = refl
    other-gone (l ∷ ls) = elim (cases_Bool (same_path l.role role)) [
      | inl here ↦ rw (here, not_its l here) refl
      | inr past ↦ elim (cases_Bool (same_path l.role other)) [
        | inl found ↦ rw (past, found) refl
        | inr later ↦ rw (past, later) (other-gone ls)
      ]
    ]

  -- roles stay different
  none_has-put : (limit : List Entry) (r : Path) (ls : List LimitRow) → same_path r role ≡ false
      → none_has same_path role_in r ls ≡ true → none_has same_path role_in r (limits_put ls role limit) ≡ true
  none_has-put limit r [] other none = rw other refl
  none_has-put limit r (l ∷ ls) other none =
      let parts = and_parts (not (same_path r l.role)) (none_has same_path role_in r ls) none in
      let later = none_has-put limit r ls other parts.1 in
      elim (cases_Bool (same_path l.role role)) [
        | inl here ↦ rw here none
        | inr past ↦
            rw past (and_from (not (same_path r l.role)) (none_has same_path role_in r (limits_put ls role limit)) parts.0 later)
      ]

  none_has-gone : (r : Path) (ls : List LimitRow)
      → none_has same_path role_in r ls ≡ true → none_has same_path role_in r (limits_without ls role) ≡ true
  none_has-gone r [] none = refl
  none_has-gone r (l ∷ ls) none =
      let parts = and_parts (not (same_path r l.role)) (none_has same_path role_in r ls) none in
      elim (cases_Bool (same_path l.role role)) [
        | inl here ↦ rw here parts.1
        | inr past ↦
            rw past (and_from (not (same_path r l.role)) (none_has same_path role_in r (limits_without ls role)) parts.0 (none_has-gone r ls parts.1))
      ]

  distinct-put : (limit : List Entry) (ls : List LimitRow) → are_distinct_roles (map role_in ls) ≡ true
      → are_distinct_roles (map role_in (limits_put ls role limit)) ≡ true
  distinct-put limit [] apart = refl
  distinct-put limit (l ∷ ls) apart =
      let parts = and_parts (none_has same_path role_in l.role ls) (are_distinct_roles (map role_in ls)) apart in
      let more : List LimitRow = limits_put ls role limit in
      elim (cases_Bool (same_path l.role role)) [
        | inl here ↦ rw here apart
        | inr past ↦
            rw past
            (and_from (none_has same_path role_in l.role more) (are_distinct_roles (map role_in more))
            (none_has-put limit l.role ls past parts.0) (distinct-put limit ls parts.1))
      ]

  distinct-gone : (ls : List LimitRow) → are_distinct_roles (map role_in ls) ≡ true
      → are_distinct_roles (map role_in (limits_without ls role)) ≡ true
  distinct-gone [] apart = refl
  distinct-gone (l ∷ ls) apart =
      let parts = and_parts (none_has same_path role_in l.role ls) (are_distinct_roles (map role_in ls)) apart in
      let less : List LimitRow = limits_without ls role in
      elim (cases_Bool (same_path l.role role)) [
        | inl here ↦ rw here parts.1
        | inr past ↦
            rw past
            (and_from (none_has same_path role_in l.role less) (are_distinct_roles (map role_in less))
            (none_has-gone l.role ls parts.0) (distinct-gone ls parts.1))
      ]

  -- no row is that of `*`, and each names a scalar
  rows-put : (limit : List Entry) → is_default role ≡ false → nat_lt 0 (length limit) ≡ true → (ls : List LimitRow)
      → list_all is_row ls ≡ true → list_all is_row (limits_put ls role limit) ≡ true
  rows-put limit other some [] all =
      and_from (not (is_default role) && nat_lt 0 (length limit)) true
      (and_from (not (is_default role)) (nat_lt 0 (length limit)) (ap not other) some) refl
  rows-put limit other some (l ∷ ls) all =
      let parts = and_parts (is_row l) (list_all is_row ls) all in
      elim (cases_Bool (same_path l.role role)) [
        | inl here ↦
            rw here
            (and_from (not (is_default l.role) && nat_lt 0 (length limit)) (list_all is_row ls)
            (and_from (not (is_default l.role)) (nat_lt 0 (length limit))
            (and_parts (not (is_default l.role)) (nat_lt 0 (length l.limit)) parts.0).0 some) parts.1)
        | inr past ↦ rw past (and_from (is_row l) (list_all is_row (limits_put ls role limit)) parts.0 (rows-put limit other some ls parts.1))
      ]

  rows-gone : (ls : List LimitRow) → list_all is_row ls ≡ true → list_all is_row (limits_without ls role) ≡ true
  rows-gone [] all = refl
  rows-gone (l ∷ ls) all =
      let parts = and_parts (is_row l) (list_all is_row ls) all in
      elim (cases_Bool (same_path l.role role)) [
        | inl here ↦ rw here parts.1
        | inr past ↦ rw past (and_from (is_row l) (list_all is_row (limits_without ls role)) parts.0 (rows-gone ls parts.1))
      ]

  -- roles stay valid
  valid-put : (limit : List Entry) → IsRole role → (ls : List LimitRow)
      → AllByRecursion (λ l. IsRole l.role) ls → AllByRecursion (λ l. IsRole l.role) (limits_put ls role limit)
  valid-put limit right [] all = (right, tt)
  valid-put limit right (l ∷ ls) all = elim (cases_Bool (same_path l.role role)) [
    | inl here ↦ rw here all
    | inr past ↦ rw past (all.0, valid-put limit right ls all.1)
  ]

  valid-gone : (ls : List LimitRow) → AllByRecursion (λ l. IsRole l.role) ls
      → AllByRecursion (λ l. IsRole l.role) (limits_without ls role)
  valid-gone [] all = tt
  valid-gone (l ∷ ls) all = elim (cases_Bool (same_path l.role role)) [
    | inl here ↦ rw here all.1
    | inr past ↦ rw past (all.0, valid-gone ls all.1)
  ]

-- ---- setting a limit

AreLimits-with : (limits : List LimitRow) (role : Path) (limit : List Entry) → is_default role ≡ false → IsRole role → AreLimits limits
    → AreLimits (limits_with limits role limit)
AreLimits-with limits role [] other valid are = record {
  roles = distinct-gone role limits are.roles;
  each = rows-gone role limits are.each;
  valid = valid-gone role limits are.valid;
}
AreLimits-with limits role (e ∷ es) other valid are = record {
  roles = distinct-put role (e ∷ es) limits are.roles;
  each = rows-put role (e ∷ es) other (lt-ltb 0 (length (e ∷ es)) (omega arith)) limits are.each;
  valid = valid-put role (e ∷ es) valid limits are.valid;
}

pub IsConsistent-limit_set : (rows : Rows) (role : Path) (limit : List Entry) → is_default role ≡ false → IsRole role → IsConsistent rows
    → IsConsistent (record rows { limits = limits_with rows.limits role limit })
IsConsistent-limit_set rows role limit other valid consistent = record {
  agents = consistent.agents;
  frameworks = consistent.frameworks;
  holdings = consistent.holdings;
  covered = consistent.covered;
  tasks = consistent.tasks;
  weights = consistent.weights;
  limits = AreLimits-with rows.limits role limit other valid consistent.limits;
  filters = consistent.filters;
  early = consistent.early;
  counted = consistent.counted;
  numbered = consistent.numbered;
}

pub role_has_its_limit : RoleHasItsLimit
unfolding effect
role_has_its_limit rows role [] consistent = limit_of-gone role rows.limits consistent.limits.roles
role_has_its_limit rows role (e ∷ es) consistent = limit_of-put role (e ∷ es) rows.limits

pub others_keep_their_limit : OthersKeepTheirLimit
unfolding effect
others_keep_their_limit rows role [] other apart = other-gone role other apart rows.limits
others_keep_their_limit rows role (e ∷ es) other apart = other-put role other apart (e ∷ es) rows.limits

pub limit_takes_nothing : LimitTakesNothing
unfolding effect
limit_takes_nothing rows role limit = refl
