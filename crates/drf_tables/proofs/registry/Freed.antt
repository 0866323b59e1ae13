-- The free resources of an agent after a part is released.
use Rattle.std.specs.Prelude.{◌≡◌, ◌+◌, ◌≤◌, Bool, true, false, List, [], ◌∷◌, map, Option, Some, None, if◌then◌else◌}
use Rattle.std.specs.List.{AllByRecursion}
use Rattle.std.proofs.Common.{refl, sym, ap, subst, ◌∙◌, arith}
use Rattle.drf_role.specs.Text.{Text, same_text}
use Rattle.drf_bundle.specs.Value.{Point}
use Rattle.drf_bundle.specs.Bundle.{Key, IsBundle, join, merged, refusal, units}
use Rattle.drf_bundle.specs.laws.FitLaws.{join_or_some}
use Rattle.drf_bundle.specs.Taken.{units_of_all, rest_of_all}
use Rattle.drf_bundle.proofs.theorems.TakenLaws.{bundle-rest_of_all, units-rest_of_all}
use Rattle.drf_bundle.proofs.theorems.UnitProofs.{join_by_units}
use Rattle.drf_bundle.specs.declared.resource.Resource.{Resource}
use Rattle.drf_rows.specs.Consistent.{IsAgent, IsCovered}
use Rattle.drf_row_laws.proofs.ConsistentLaws.{same_text-swap}
use Rattle.drf_rows.specs.Holdings.{Holding, AreBundles, parts_on}
use Rattle.drf_row_laws.proofs.HoldingsLaws.{each_part}
use Rattle.drf_tables.specs.registry.Changing.{changed, freed, joined_free, CanGiveBack, CanTakeBack}
use Rattle.drf_tables.specs.Inside.{agent_row, IsKnown}
use Rattle.drf_tables.specs.declared.tables.Agent.{Agent}

-- the old free resources joined with the part are the new ones, if the part is held no longer
joins_free : (total part free : List Resource) (old new : List (List Resource))
    → IsBundle total → IsBundle part → AllByRecursion IsBundle old → AllByRecursion IsBundle new
    → free ≡ rest_of_all total old
    → ((key : Key) (p : Point) → units_of_all old key p ≡ units_of_all new key p + units part key p)
    → ((key : Key) (p : Point) → units_of_all old key p ≤ units total key p)
    → join free part ≡ Some (rest_of_all total new)
joins_free total part free old new is_total is_part each_old each_new known less covered =
    let is_free : IsBundle free = subst IsBundle (sym known) (bundle-rest_of_all total old is_total) in
    (join_by_units free part (rest_of_all total new) is_free is_part (bundle-rest_of_all total new is_total)).1
    (λ key p. omega (
      arith,
      ap (λ (f : List Resource). units f key p) known,
      units-rest_of_all total old key p is_total each_old,
      units-rest_of_all total new key p is_total each_new,
      less key p,
      covered key p,
    ))

-- the part is held on the agent no longer, and nothing changes on the others
pub record HasLess (old new : List Holding) (name : Text) (part : List Resource) : Type 0 where
  pub is_part : IsBundle part
  pub each_old : AreBundles old
  pub each_new : AreBundles new
  pub others : (agent : Text) → same_text name agent ≡ false → parts_on agent new ≡ parts_on agent old
  pub less : (agent : Text) → same_text name agent ≡ true → (key : Key) (p : Point)
      → units_of_all (parts_on agent old) key p ≡ units_of_all (parts_on agent new) key p + units part key p

module _ (old new : List Holding) (name : Text) (part : List Resource) (lost : HasLess old new name part) where
  module _ (e : Text × Agent) (known : IsKnown old e) (agent : IsAgent (agent_row e)) (covered : IsCovered old (agent_row e)) where
    joined_there : same_text e.0 name ≡ true → (free : List Resource) → e.1.free ≡ Some free
        → join free part ≡ Some (rest_of_all e.1.total (parts_on e.0 new))
    joined_there here free is =
        joins_free e.1.total part free (parts_on e.0 old) (parts_on e.0 new) agent.total lost.is_part
        (each_part e.0 old lost.each_old) (each_part e.0 new lost.each_new) (known free is)
        (lost.less e.0 (same_text-swap name e.0 ∙ here)) covered

    joins_one : same_text e.0 name ≡ true → CanTakeBack part e.1.free
    joins_one here free is = (join_or_some (refusal free part) (merged free part) (rest_of_all e.1.total (parts_on e.0 new)) (joined_there here free is)).0

    there : same_text e.0 name ≡ true → (was : Option (List Resource)) → e.1.free ≡ was
        → (whole : List Resource) → joined_free was part ≡ Some whole → whole ≡ rest_of_all e.1.total (parts_on e.0 new)
    there here None is whole joined = cc
    there here (Some free) is whole joined =
        let both : ◌≡◌ {A = Option (List Resource)} (Some whole) (Some (rest_of_all e.1.total (parts_on e.0 new))) =
        sym joined ∙ joined_there here free is in
        cc

    known_one : (kept b : Bool) → same_text e.0 name ≡ b → IsKnown new (if b then (e.0, freed kept part e.1) else e)
    known_one kept false past = λ free is. known free is ∙ sym (ap (rest_of_all e.1.total) (lost.others e.0 (same_text-swap name e.0 ∙ past)))
    known_one true true here = λ whole joined. there here e.1.free refl whole joined
    known_one false true here = λ free is. cc

  pub known-freed : (kept : Bool) (es : List (Text × Agent)) → AllByRecursion (IsKnown old) es
      → AllByRecursion IsAgent (map agent_row es) → AllByRecursion (IsCovered old) (map agent_row es)
      → AllByRecursion (IsKnown new) (map (changed name (freed kept part)) es)
  known-freed kept [] known agents covered = tt
  known-freed kept (e ∷ es) known agents covered =
      (known_one e known.0 agents.0 covered.0 kept (same_text e.0 name) refl, known-freed kept es known.1 agents.1 covered.1)

  -- the old free resources can be joined with the part
  pub joins-freed : (es : List (Text × Agent)) → AllByRecursion (IsKnown old) es
      → AllByRecursion IsAgent (map agent_row es) → AllByRecursion (IsCovered old) (map agent_row es)
      → CanGiveBack name part es
  joins-freed [] known agents covered = tt
  joins-freed (e ∷ es) known agents covered = (joins_one e known.0 agents.0 covered.0, joins-freed es known.1 agents.1 covered.1)

-- the rows do not change
pub rows-freed : (kept : Bool) (name : Text) (part : List Resource) (es : List (Text × Agent))
    → map agent_row (map (changed name (freed kept part)) es) ≡ map agent_row es
rows-freed kept name part [] = refl
rows-freed kept name part (e ∷ es) = λ i. by (same_text e.0 name) i ∷ rows-freed kept name part es i
  where
    by : (b : Bool) → agent_row (if b then (e.0, freed kept part e.1) else e) ≡ agent_row e
    by true = refl
    by false = refl
