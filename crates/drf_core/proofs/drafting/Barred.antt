-- Which clients can get nothing, if it is known that those of a role can get nothing.
use Rattle.std.proofs.Common.{◌≡◌, ℕ, ◌+◌, ◌<◌, ◌≤◌, zero, suc, false, List, [], ◌∷◌, ◌++◌, Option, Some, None, length, take, drop, refl, sym, ap, subst, ◌∙◌, inl, inr, arith}
use Rattle.std.specs.Prelude.{slice_get, codes}
use Rattle.std.specs.List.{list_any, AllByRecursion}
use Rattle.std.specs.Option.{option_map_or}
use Rattle.std.proofs.lemmas.Bool.{cases_lt}
use Rattle.std.proofs.lemmas.List.{length-append}
use Rattle.drf_role.specs.Text.{Text}
use Rattle.drf_role.specs.Path.{Path, IsClientPath, client_path, role_part}
use Rattle.drf_role.proofs.PathLaws.{NoDots, no_dots-role, role_part-client_path}
use Rattle.drf_role.specs.Role.{IsRole}
use Rattle.drf_bundle.specs.Bundle.{IsBundle}
use Rattle.drf_bundle.specs.declared.resource.Resource.{Resource}
use Rattle.drf_gates.specs.quota.Allowance.{Allowance}
use Rattle.drf_rows.specs.Cycle.{free_of, new_offer, with_offer}
use Rattle.drf_rows.specs.declared.rows.AgentRow.{AgentRow}
use Rattle.drf_rows.specs.declared.rows.Rows.{Rows}
use Rattle.drf_core.specs.cycle.Drafting.{IsFreeAt, IsRegisteredPath, IsTried}
use Rattle.drf_core.specs.cycle.Entitling.{IsBarred, IsKnownOf, IsOffered, IsPassedOver, IsQuotaOf, has_at_least, is_reserved_for, is_reserved_near, known_role}
use Rattle.drf_core.specs.declared.cycle.free.Known.{Known}
use Rattle.drf_core.specs.declared.cycle.free.Known.TheVariants.{Nothing, Part, Barred}
use Rattle.drf_core.proofs.drafting.Granted.{nothing_granted, spent}
use Rattle.drf_core.proofs.drafting.Near.{none_near, shorter}
use Rattle.drf_core.proofs.drafting.Turn.{AreWaiting, all_dropped, queue_begins, waiting-passed}

-- ---- paths with common first parts

-- the parts before the first `.` are those of the role
roles_alike : (n : ℕ) (r s : Path) (f g : Text) → NoDots r → NoDots s → n ≤ length s → take n (client_path r f) ≡ take n (client_path s g) → take n r ≡ take n s
roles_alike zero r s f g p q few alike = refl
roles_alike (suc n) r [] f g p q few alike = absurd (omega (arith, few))
roles_alike (suc n) [] (y ∷ ys) f g p q few alike = absurd (q.0 cc)
roles_alike (suc n) (x ∷ xs) (y ∷ ys) f g p q few alike =
    let head : x ≡ y = cc in
    let tail = roles_alike n xs ys f g p.1 q.1 (omega (arith, few)) cc in
    λ i. head i ∷ tail i

-- if the first parts up to the `.` are the same, the roles are the same
same_role : (r s : Path) (f g : Text) → NoDots r → NoDots s → take (suc (length s)) (client_path r f) ≡ take (suc (length s)) (client_path s g) → r ≡ s
same_role [] [] f g p q alike = refl
same_role [] (y ∷ ys) f g p q alike = absurd (q.0 cc)
same_role (x ∷ xs) [] f g p q alike = absurd (p.0 cc)
same_role (x ∷ xs) (y ∷ ys) f g p q alike =
    let head : x ≡ y = cc in
    let tail = same_role xs ys f g p.1 q.1 cc in
    λ i. head i ∷ tail i

-- ---- barred clients

-- if a role can have nothing, its clients are barred
pub barred-role : (quota : Option Allowance) (free : List Resource) (role : Path) (prefix : ℕ) → IsRole role → prefix ≡ length role + 1
    → IsOffered quota free role None → IsBarred quota free role prefix
barred-role quota free role prefix right is offered =
    let size : prefix ≡ suc (length role) = omega (arith, is) in
    record {
      offered = offered;
      alike = λ rows client framework counted its alike.
          offered rows client counted
          (same_role client.role role client.framework framework (no_dots-role client.role its) (no_dots-role role right)
          (subst (λ (n : ℕ). take n (client_path client.role client.framework) ≡ take n (client_path role framework)) size alike));
    }

-- less of a scalar is free and unreserved, or left by limits to roles with these first parts
abbrev pub IsShort : Option Allowance → List Resource → Path → ℕ → Text → ℕ → Type 0
IsShort quota free role len label least =
    (rows : Rows) (other : Path) → IsQuotaOf rows quota → take len other ≡ take len role → has_at_least rows free other label least ≡ false

short-offered : (quota : Option Allowance) (free : List Resource) (role : Path) (cpus mem : ℕ) → IsBundle free → list_any (is_reserved_for role) free ≡ false
    → IsShort quota free role cpus (codes "cpus") 10 → IsShort quota free role mem (codes "mem") 32000 → IsOffered quota free role None
short-offered quota free role cpus mem bundle none short little =
    spent quota free role bundle none (λ now its. short now role its refl) (λ now its. little now role its refl)

-- clients with enough first parts in common with a barred role are barred too: limits leave them as little, and nothing is reserved for them
pub barred-prefix : (quota : Option Allowance) (free : List Resource) (role : Path) (cpus mem prefix : ℕ) → IsBundle free → IsRole role
    → list_any (is_reserved_for role) free ≡ false → list_any (is_reserved_near role prefix) free ≡ false
    → cpus ≤ prefix → mem ≤ prefix → prefix ≤ length role + 1
    → IsShort quota free role cpus (codes "cpus") 10 → IsShort quota free role mem (codes "mem") 32000 → IsBarred quota free role prefix
barred-prefix quota free role cpus mem prefix bundle right above near few_cpus few_mem few short little = elim (cases_lt (length role) prefix) [
  | inl whole ↦
      barred-role quota free role prefix right (omega arith) (short-offered quota free role cpus mem bundle above short little)
  | inr below ↦ record {
    offered = short-offered quota free role cpus mem bundle above short little;
    alike = λ rows client framework counted its alike.
        let same = roles_alike prefix client.role role client.framework framework (no_dots-role client.role its) (no_dots-role role right) (omega arith) alike in
        spent quota free client.role bundle (none_near role client.role prefix same free above near)
        (λ now its'. short now client.role its' (shorter cpus prefix client.role role few_cpus same))
        (λ now its'. little now client.role its' (shorter mem prefix client.role role few_mem same))
        rows client counted refl;
  }
]

-- ---- clients that are skipped

prefix_all : {X : Type 0} (P : X → Type 0) (xs ys : List X) → AllByRecursion P (xs ++ ys) → AllByRecursion P xs
prefix_all P [] ys all = tt
prefix_all P (x ∷ xs) ys all = (all.0, prefix_all P xs ys all.1)

back_all : {X : Type 0} (P : X → Type 0) (xs ys : List X) → AllByRecursion P (xs ++ ys) → AllByRecursion P ys
back_all P [] ys all = all
back_all P (x ∷ xs) ys all = back_all P xs ys all.1

pub passed_alone : (known : Known) (queue left : List Path) → ((role : Path) (prefix : ℕ) → known ≡ Barred role prefix → ⊥) → left ≡ drop 1 queue
    → IsPassedOver known queue left
passed_alone Nothing queue left alone is = is
passed_alone (Part role part) queue left alone is = is
passed_alone (Barred role prefix) queue left alone is = absurd (alone role prefix refl)

-- what holds for all clients in the queue holds for those that remain
pub all_left : (P : Path → Type 0) (known : Known) (queue left : List Path) → IsPassedOver known queue left → AllByRecursion P queue → AllByRecursion P left
all_left P Nothing queue left over all = subst (AllByRecursion P) (sym over) (all_dropped P queue all)
all_left P (Part role part) queue left over all = subst (AllByRecursion P) (sym over) (all_dropped P queue all)
all_left P (Barred role prefix) queue left over all = back_all P over.passed left (subst (AllByRecursion P) over.split all)

module _ (rows : Rows) (place : ℕ) (start now : Rows) (agents : now.agents ≡ rows.agents) where
  -- clients that would be granted nothing can be removed from the queue
  past_idle : (others left : List Path) → AllByRecursion (λ p. IsTried now now place p) others → AreWaiting rows place start now (others ++ left)
      → AreWaiting rows place start now left
  past_idle [] left idle waiting = waiting
  past_idle (p ∷ others) left idle waiting =
      past_idle others left idle.1
      (waiting-passed rows place start now ((p ∷ others) ++ left) waiting now (others ++ left) p agents refl idle.0 refl)

  module _ (quota : Option Allowance) (free : List Resource) (counted : IsQuotaOf now quota) (there : IsFreeAt now place free) (role : Path) (prefix : ℕ)
      (barred : IsBarred quota free role prefix) (first : Path) (its : IsClientPath first) (role_is : role ≡ role_part first) where
    -- a client is granted nothing if its path has the first parts in common with those of a barred role
    idle_at : (path : Path) → IsRegisteredPath rows path → take prefix path ≡ take prefix first → IsTried now now place path
    idle_at path known alike agent client at joined =
        let here : there.agent ≡ agent = let e : Some there.agent ≡ Some agent = sym there.at ∙ at in cc in
        let role_its : role ≡ its.role = role_is ∙ ap role_part its.joined ∙ role_part-client_path its.role its.framework in
        let right = known.right in
        let its_role : right.role ≡ client.role =
        sym (role_part-client_path right.role right.framework) ∙ ap role_part (sym right.joined ∙ joined) ∙ role_part-client_path client.role client.framework in
        let nothing = barred.alike now client its.framework counted (subst IsRole its_role right.right_role)
        (ap (λ (p : Path). take prefix p) (sym joined) ∙ alike
        ∙ ap (λ (p : Path). take prefix p) (its.joined ∙ ap (λ (r : Path). client_path r its.framework) (sym role_its))) in
        let granted = nothing_granted now agent client free (there.free ∙ ap (λ (a : AgentRow). free_of now a) here) nothing in
        ap (λ g. option_map_or (λ b. with_offer now (new_offer now agent client b)) g now) granted

    all_idle : (paths : List Path) → AllByRecursion (IsRegisteredPath rows) paths → AllByRecursion (λ p. take prefix p ≡ take prefix first) paths
        → AllByRecursion (λ p. IsTried now now place p) paths
    all_idle [] known alike = tt
    all_idle (path ∷ paths) known alike = (idle_at path known.0 alike.0, all_idle paths known.1 alike.1)

  -- the queue after the client that was tried is removed, and others with it
  pub waiting-left : (quota : Option Allowance) (free : List Resource) → IsQuotaOf now quota → IsFreeAt now place free
      → (known : Known) → IsKnownOf quota free known → (queue left : List Path) (first : Path) → AllByRecursion (IsRegisteredPath rows) queue → slice_get queue 0 ≡ Some first
      → ((role path : Path) → known_role known ≡ Some role → slice_get queue 0 ≡ Some path → role ≡ role_part path)
      → IsPassedOver known queue left → AreWaiting rows place start now (drop 1 queue) → AreWaiting rows place start now left
  waiting-left quota free counted there Nothing right queue left first clients at is over waiting = subst (λ ps. AreWaiting rows place start now ps) (sym over) waiting
  waiting-left quota free counted there (Part role part) right queue left first clients at is over waiting = subst (λ ps. AreWaiting rows place start now ps) (sym over) waiting
  waiting-left quota free counted there (Barred role prefix) barred queue left first clients at is over waiting =
      from over.passed over.split (prefix_all (IsRegisteredPath rows) over.passed left (subst (AllByRecursion (IsRegisteredPath rows)) over.split clients)) (over.alike first at) (over.some first at)
    where
      from : (paths : List Path) → queue ≡ paths ++ left → AllByRecursion (IsRegisteredPath rows) paths
          → AllByRecursion (λ p. take prefix p ≡ take prefix first) paths → 0 < length paths → AreWaiting rows place start now left
      from [] split known alike some = absurd (omega (arith, some))
      from (path ∷ paths) split known alike some =
          let here : Some first ≡ Some path = sym at ∙ ap (λ ps. slice_get ps 0) split in
          let same : path ≡ first = cc in
          past_idle paths left
          (all_idle quota free counted there role prefix barred first (subst IsClientPath same known.0.right) (is role first refl at) paths known.1 alike.1)
          (subst (λ ps. AreWaiting rows place start now ps) (ap (λ ps. drop 1 ps) split) waiting)

-- the queue becomes shorter
pub passed_falls : (known : Known) (queue left : List Path) (first : Path) → slice_get queue 0 ≡ Some first → IsPassedOver known queue left → length left < length queue
passed_falls Nothing queue left first at over = omega (arith, ap length (queue_begins queue first at), ap length over)
passed_falls (Part role part) queue left first at over = omega (arith, ap length (queue_begins queue first at), ap length over)
passed_falls (Barred role prefix) queue left first at over = omega (arith, over.some first at, ap length over.split, length-append over.passed left)
