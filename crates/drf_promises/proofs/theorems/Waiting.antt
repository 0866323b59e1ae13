-- A client that declines has a filter, so in as many cycles as there are active clients each is offered the free
-- resources.
use Rattle.std.specs.Prelude.{◌≡◌, suc, Bool, true, false, not, ◌&&◌, List, [], ◌∷◌, Option, Some, None, if◌then◌else◌}
use Rattle.std.specs.List.{AllByRecursion}
use Rattle.std.specs.Option.{option_map_or}
use Rattle.std.proofs.Common.{refl, ap, ◌∙◌, inl, inr, ◌⊎◌}
use Rattle.drf_bundle.specs.Bundle.{IsBundle, is_unreserved}
use Rattle.drf_bundle.specs.declared.resource.Resource.{Resource}
use Rattle.drf_rows.specs.Client.{Client}
use Rattle.drf_rows.specs.Cycle.{free_of, is_allocatable, grant, new_offer, with_offer, all_tried}
use Rattle.drf_rows.specs.Filters.{is_held_back}
use Rattle.drf_rows.specs.Holdings.{holdings_of, AreBundles}
use Rattle.drf_row_laws.proofs.CycleLaws.{all_tried_first}
use Rattle.drf_rows.specs.declared.rows.AgentRow.{AgentRow}
use Rattle.drf_rows.specs.declared.rows.Rows.{Rows}
use Rattle.drf_promises.specs.Runs.{Has}
use Rattle.drf_promises.proofs.theorems.Open.{entitled_to_all}

-- ---- a turn goes to the first client without a filter

module _ (rows : Rows) (agent : AgentRow) (total : IsBundle agent.total) (none : is_unreserved agent.total ≡ true) (limits : rows.limits ≡ [])
    (each : AreBundles (holdings_of rows)) (worth : is_allocatable (free_of rows agent) ≡ true) where
  abbrev free : List Resource
  free = free_of rows agent

  abbrev is_held : Client → Bool
  is_held client = is_held_back rows.filters rows.clock client agent.name free

  grant_is : (client : Client) → grant rows agent client ≡ (if not (is_held client) then Some free else None)
  grant_is client =
      ap (λ (b : List Resource). if is_allocatable b && not (is_held_back rows.filters rows.clock client agent.name b) then Some b else None)
      (entitled_to_all rows agent client total none limits)
      ∙ ap (λ b. if b && not (is_held client) then Some free else None) worth

  pub record GoesTo (order : List Client) : Type 0 where
    pub first : Client
    pub has : Has order first
    pub free_to_have : is_held first ≡ false
    pub offered : all_tried rows agent order ≡ with_offer rows (new_offer rows agent first free)

  pub goes_to : (order : List Client) → (AllByRecursion (λ c. is_held c ≡ true) order × (all_tried rows agent order ≡ rows)) ⊎ GoesTo order
  goes_to [] = inl (tt, refl)
  goes_to (c ∷ cs) = by (is_held c) refl (goes_to cs)
    where
      try : Option (List Resource) → Rows
      try granted = all_tried (option_map_or (λ bundle. with_offer rows (new_offer rows agent c bundle)) granted rows) agent cs

      by : (b : Bool) → is_held c ≡ b → (AllByRecursion (λ d. is_held d ≡ true) cs × (all_tried rows agent cs ≡ rows)) ⊎ GoesTo cs
          → (AllByRecursion (λ d. is_held d ≡ true) (c ∷ cs) × (all_tried rows agent (c ∷ cs) ≡ rows)) ⊎ GoesTo (c ∷ cs)
      by true held later =
          let gets : grant rows agent c ≡ None = grant_is c ∙ ap (λ b. if not b then Some free else None) held in
          elim later [
            | inl all ↦ inl ((held, all.0), ap try gets ∙ all.1)
            | inr to ↦ inr (record {
              first = to.first;
              has = (suc to.has.0, to.has.1);
              free_to_have = to.free_to_have;
              offered = ap try gets ∙ to.offered;
            })
          ]
      by false past later = inr (record {
        first = c;
        has = (0, refl);
        free_to_have = past;
        offered = all_tried_first rows agent c cs (grant_is c ∙ ap (λ b. if not b then Some free else None) past) total each;
      })
