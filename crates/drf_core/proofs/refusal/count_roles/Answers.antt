use Rattle.std.proofs.Common.{◌≡◌, ◌+◌, ◌<◌, ◌∷◌, [], ◌++◌, ℕ, true, false, List, Bor, map, take, drop, length, ap, sym, ◌∙◌, arith, take-append-drop}
use Rattle.std.specs.List.{list_any, slice_index_or}
use Rattle.std.proofs.lemmas.List.{take_more, take_more_set, take_all, map-append, length-append}
use Rattle.drf_role.specs.Path.{Path}
use Rattle.drf_rows.specs.Members.{distinct}
use Rattle.drf_laws.proofs.theorems.Roles.{is_role, distinct-known, distinct-new, distinct-grows}
use Rattle.drf_content.proofs.theorems.Registered.{list_any-seen}
use Rattle.drf_core.proofs.refusal.count_roles.Goals as goal

abbrev now_of : Bor Path → Path
now_of r = r.now

-- the role at a place was counted before, or is counted now
module _ (roles : List Path) (i : ℕ) (role : Path) (counted : List (Bor Path)) (inside : i < length roles)
    (at : role ≡ slice_index_or roles i role) (is : map now_of counted ≡ distinct (take i roles)) where
  one_more : take i roles ++ role ∷ [] ≡ take (i + 1) roles
  one_more = sym (take_more roles i role inside ∙ ap (λ (r : Path). take i roles ++ r ∷ []) (sym at))

  old_role : list_any (λ r. is_role role r.now) counted ≡ true → map now_of counted ≡ distinct (take (i + 1) roles)
  old_role known =
      distinct-known (take i roles) (map now_of counted) role is (sym (list_any-seen role counted) ∙ known)
      ∙ ap distinct one_more

  new_role : list_any (λ r. is_role role r.now) counted ≡ false
      → map now_of counted ++ role ∷ [] ≡ distinct (take (i + 1) roles)
  new_role new =
      distinct-new (take i roles) (map now_of counted) role is (sym (list_any-seen role counted) ∙ new)
      ∙ ap distinct one_more

  one_more_counted : list_any (λ r. is_role role r.now) counted ≡ false
      → length (distinct (take i roles)) + 1 ≡ length (distinct (take (i + 1) roles))
  one_more_counted new =
      omega (arith, ap length is, length-append (map now_of counted) (role ∷ []), ap length (new_role new))

pub loop-role-preserved-then-contains : goal.loop-role-preserved-then-contains
loop-role-preserved-then-contains c =
    let counted = take c.loop-role.count c.loop-role.counted in
    let known = old_role c.args.roles.now c.loop-role.role-index c.role-item.result counted c.loop-role-test.true c.role-item.is
    c.loop-role.invariant.counted (sym c.contains.ensures.value ∙ c.if-contains.true) in
    record {
      counted = known;
      number = c.loop-role.invariant.number ∙ ap length (sym c.loop-role.invariant.counted ∙ known);
      few = c.loop-role.invariant.few;
    }

pub returns-then-count-most-clause-none : goal.returns-then-count-most-clause-none
returns-then-count-most-clause-none c =
    let roles = c.args.roles.now in
    let next = c.loop-role.role-index + 1 in
    let more = one_more_counted roles c.loop-role.role-index c.role-item.result (take c.loop-role.count c.loop-role.counted) c.loop-role-test.true c.role-item.is
    c.loop-role.invariant.counted (sym c.contains.ensures.value ∙ c.if-contains.false) in
    let whole = ap (λ (rs : List Path). length (distinct rs)) (take-append-drop next roles) in
    omega (arith, c.loop-role.invariant.number, c.if-count-most.true, more, distinct-grows (take next roles) (drop next roles), whole)

pub loop-role-preserved : goal.loop-role-preserved
loop-role-preserved c =
    let roles = c.args.roles.now in
    let i = c.loop-role.role-index in
    let role = c.role-item.result in
    let count = c.loop-role.count in
    let counted = take count c.loop-role.counted in
    let few = c.loop-role.invariant.few in
    let new = sym c.contains.ensures.value ∙ c.if-contains.false in
    record {
      counted = ap (map now_of) (take_more_set c.loop-role.counted count _ (omega (arith, few, c.requires, c.role-item.array_long)))
          ∙ map-append now_of counted (_ ∷ [])
          ∙ new_role roles i role counted c.loop-role-test.true c.role-item.is c.loop-role.invariant.counted new;
      number = ap (λ (n : ℕ). n + 1) c.loop-role.invariant.number
          ∙ one_more_counted roles i role counted c.loop-role-test.true c.role-item.is c.loop-role.invariant.counted new;
      few = omega (arith, few, c.if-count-most.false);
    }

pub returns-clause-some : goal.returns-clause-some
returns-clause-some c =
    let all = take_all c.loop-role.role-index c.args.roles.now c.loop-role-test.false in
    (c.loop-role.invariant.number ∙ ap (λ (rs : List Path). length (distinct rs)) all, c.loop-role.invariant.few)
