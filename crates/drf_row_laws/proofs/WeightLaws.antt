-- Lemmas about `specs/WeightLaws.antt`.
use Rattle.std.specs.Prelude.{◌≡◌, ℕ, ◌≤◌, Bool, true, false, not, nat_le, IsTrue, List, [], ◌∷◌, map, Some}
use Rattle.std.specs.List.{find, AllByRecursion}
use Rattle.std.proofs.Common.{refl, sym, ap, subst, ◌∙◌, inl, inr, arith}
use Rattle.std.proofs.lemmas.Bool.{cases_Bool, and_parts, and_from, leb-true}
use Rattle.drf_role.specs.Path.{Path, same_path}
use Rattle.drf_role.specs.PathLaws.{same_path_itself, same_path-true}
use Rattle.drf_role.specs.Role.{IsRole}
use Rattle.drf_rows.specs.Held.{weight_of}
use Rattle.drf_rows.specs.Weights.{is_weight, are_weights, weights_with}
use Rattle.drf_rows.specs.LimitNumbers.{LimitNumbers}
use Rattle.drf_row_laws.proofs.FrameLaws.{only_changed, step_keeps}
use Rattle.drf_rows.specs.Step.{opening, effect, rows_after, rows_after_all}
use Rattle.drf_rows.specs.Consistent.{are_distinct_roles, IsConsistent}
use Rattle.drf_bundle.proofs.ListLaws.{none_has}
use Rattle.drf_rows.specs.declared.event.Event.{Event}
use Rattle.drf_rows.specs.declared.event.Event.TheVariants.{SetWeight}
use Rattle.drf_rows.specs.declared.rows.WeightRow.{WeightRow}
use Rattle.drf_rows.specs.declared.rows.Rows.{Rows}
use Rattle.drf_row_laws.specs.WeightLaws.{weighed_roles, RoleHasItsWeight, OthersKeepTheirWeight, EachHasOneRow, NoRoleHasTwoRows}

-- ---- the range of weights

pub in_range : (n : ℕ) → IsTrue (is_weight n) → (1 ≤ n) × (n ≤ 1000000)
in_range n is =
    let parts = and_parts (nat_le 1 n) (nat_le n 1000000) is in
    (leb-true 1 n parts.0, leb-true n 1000000 parts.1)

-- a row that is found has a weight in the range
pub weight-found : (p : WeightRow → Bool) (ws : List WeightRow) (w : WeightRow) → IsTrue (are_weights ws)
    → Some w ≡ find p ws → (1 ≤ w.weight) × (w.weight ≤ 1000000)
weight-found p [] w all is = absurd cc
weight-found p (x ∷ xs) w all is =
    let parts = and_parts (is_weight x.weight) (are_weights xs) all in
    elim (cases_Bool (p x)) [
      | inl passes ↦
          let here : Some w ≡ Some x = rw passes at is in
          let same : w ≡ x = cc in
          in_range w.weight (subst (λ (y : WeightRow). IsTrue (is_weight y.weight)) (sym same) parts.0)
      | inr fails ↦ weight-found p xs w parts.1 (rw fails at is)
    ]

-- the weight of a node is that of its row or 1000 thousandths, and so in the range
pub weight_of-in_range : (ws : List WeightRow) (node : Path) → IsTrue (are_weights ws)
    → (1 ≤ weight_of ws node) × (weight_of ws node ≤ 1000000)
weight_of-in_range [] node all = (omega arith, omega arith)
weight_of-in_range (w ∷ ws) node all =
    let parts = and_parts (is_weight w.weight) (are_weights ws) all in
    elim (cases_Bool (same_path w.role node)) [
      | inl here ↦ rw here (in_range w.weight parts.0)
      | inr past ↦ rw past (weight_of-in_range ws node parts.1)
    ]

-- ---- setting a weight

abbrev role_in : WeightRow → Path
role_in w = w.role

module _ (role : Path) (weight : ℕ) where
  pub weight_of-set : (ws : List WeightRow) → weight_of (weights_with ws role weight) role ≡ weight
  weight_of-set [] = rw (same_path_itself role) refl
  weight_of-set (w ∷ ws) = elim (cases_Bool (same_path w.role role)) [
    | inl here ↦ rw (here, here) refl
    | inr past ↦ rw (past, past) (weight_of-set ws)
  ]

  weight_of-other : (ws : List WeightRow) (node : Path) → same_path role node ≡ false
      → weight_of (weights_with ws role weight) node ≡ weight_of ws node
  weight_of-other [] node other = rw other refl
  weight_of-other (w ∷ ws) node other = elim (cases_Bool (same_path w.role role)) [
    | inl here ↦
        let fails = ap (λ r. same_path r node) (same_path-true w.role role here) ∙ other in
        rw (here, fails) refl
    | inr past ↦ elim (cases_Bool (same_path w.role node)) [
      | inl found ↦ rw (past, found) refl
      | inr later ↦ rw (past, later) (weight_of-other ws node other)
    ]
  ]

  -- a role other than the event's that has no row gets none
  none_has-with : (r : Path) (ws : List WeightRow) → same_path r role ≡ false
      → none_has same_path role_in r ws ≡ true → none_has same_path role_in r (weights_with ws role weight) ≡ true
  none_has-with r [] other none = rw other refl
  none_has-with r (w ∷ ws) other none =
      let parts = and_parts (not (same_path r w.role)) (none_has same_path role_in r ws) none in
      let later = none_has-with r ws other parts.1 in
      elim (cases_Bool (same_path w.role role)) [
        | inl here ↦ rw here none
        | inr past ↦
            rw past
            (and_from (not (same_path r w.role)) (none_has same_path role_in r (weights_with ws role weight)) parts.0 later)
      ]

  distinct-with : (ws : List WeightRow) → are_distinct_roles (map role_in ws) ≡ true
      → are_distinct_roles (map role_in (weights_with ws role weight)) ≡ true
  distinct-with [] apart = refl
  distinct-with (w ∷ ws) apart =
      let parts = and_parts (none_has same_path role_in w.role ws) (are_distinct_roles (map role_in ws)) apart in
      let more : List WeightRow = weights_with ws role weight in
      elim (cases_Bool (same_path w.role role)) [
        | inl here ↦ rw here apart
        | inr past ↦
            rw past
            (and_from (none_has same_path role_in w.role more) (are_distinct_roles (map role_in more))
            (none_has-with w.role ws past parts.0) (distinct-with ws parts.1))
      ]

  -- setting a valid weight keeps all weights valid
  are_weights-with : (ws : List WeightRow) → is_weight weight ≡ true → are_weights ws ≡ true
      → are_weights (weights_with ws role weight) ≡ true
  are_weights-with [] right all = and_from (is_weight weight) true right refl
  are_weights-with (w ∷ ws) right all =
      let parts = and_parts (is_weight w.weight) (are_weights ws) all in
      elim (cases_Bool (same_path w.role role)) [
        | inl here ↦ rw here (and_from (is_weight weight) (are_weights ws) right parts.1)
        | inr past ↦
            rw past
            (and_from (is_weight w.weight) (are_weights (weights_with ws role weight)) parts.0 (are_weights-with ws right parts.1))
      ]

  -- setting the weight of a valid role keeps all roles valid
  valid-with : IsRole role → (ws : List WeightRow) → AllByRecursion (λ w. IsRole w.role) ws
      → AllByRecursion (λ w. IsRole w.role) (weights_with ws role weight)
  valid-with right [] all = (right, tt)
  valid-with right (w ∷ ws) all = elim (cases_Bool (same_path w.role role)) [
    | inl here ↦ rw here all
    | inr past ↦ rw past (all.0, valid-with right ws all.1)
  ]

pub IsConsistent-weight_set : (rows : Rows) (role : Path) (weight : ℕ) → is_weight weight ≡ true → IsRole role → IsConsistent rows
    → IsConsistent (record rows { weights = weights_with rows.weights role weight })
IsConsistent-weight_set rows role weight right valid consistent = record {
  agents = consistent.agents;
  frameworks = consistent.frameworks;
  holdings = consistent.holdings;
  covered = consistent.covered;
  tasks = consistent.tasks;
  weights = record {
    roles = distinct-with role weight rows.weights consistent.weights.roles;
    each = are_weights-with role weight rows.weights right consistent.weights.each;
    valid = valid-with role weight valid rows.weights consistent.weights.valid;
  };
  limits = consistent.limits;
  filters = consistent.filters;
  early = consistent.early;
  counted = consistent.counted;
  numbered = consistent.numbered;
}

pub role_has_its_weight : RoleHasItsWeight
unfolding effect
role_has_its_weight rows role weight = weight_of-set role weight rows.weights

pub others_keep_their_weight : OthersKeepTheirWeight
unfolding effect
others_keep_their_weight rows role weight node other = weight_of-other role weight rows.weights node other

pub each_has_one_row : EachHasOneRow
unfolding effect
each_has_one_row rows role weight consistent = distinct-with role weight rows.weights consistent.weights.roles

-- ---- a run

-- no other event changes weights
rows_stay_apart : (rows : Rows) (event : Event) → are_distinct_roles (weighed_roles rows) ≡ true
    → are_distinct_roles (weighed_roles (effect rows event)) ≡ true
unfolding effect
rows_stay_apart rows (SetWeight role weight) apart = distinct-with role weight rows.weights apart
rows_stay_apart rows event apart = ap (λ (r : Rows). are_distinct_roles (weighed_roles r)) (only_changed rows event) ∙ apart

step_apart : (limits : LimitNumbers) (rows : Rows) (event : Event) → are_distinct_roles (weighed_roles rows) ≡ true
    → are_distinct_roles (weighed_roles (rows_after limits rows event)) ≡ true
step_apart limits rows event apart =
    step_keeps (λ r. are_distinct_roles (weighed_roles r) ≡ true) limits rows event apart (rows_stay_apart rows event apart)

run_apart : (limits : LimitNumbers) (rows : Rows) (events : List Event) → are_distinct_roles (weighed_roles rows) ≡ true
    → are_distinct_roles (weighed_roles (rows_after_all limits rows events)) ≡ true
run_apart limits rows [] apart = apart
run_apart limits rows (event ∷ events) apart = run_apart limits (rows_after limits rows event) events (step_apart limits rows event apart)

pub no_role_has_two_rows : NoRoleHasTwoRows
no_role_has_two_rows limits events = run_apart limits opening events refl
