-- The rows after one offer or task is removed, and after an offer is replaced by tasks.
use Rattle.std.specs.Prelude.{◌≡◌, ℕ, ◌+◌, ◌≤◌, ◌==◌, ◌||◌, Bool, true, false, not, List, [], ◌∷◌, ◌++◌, length, map, filter, find, Option, Some, None, cond, ◌⊎◌}
use Rattle.std.specs.List.{list_any, AllByRecursion}
use Rattle.std.specs.Option.{option_map_or}
use Rattle.std.proofs.Common.{refl, sym, ap, ◌∙◌, subst, inl, inr}
use Rattle.drf_role.specs.Text.{Text}
use Rattle.drf_bundle.specs.Bundle.{IsBundle, units}
use Rattle.drf_bundle.specs.Taken.{units_of_all}
use Rattle.drf_bundle.proofs.theorems.TakenLaws.{bundle-rest_of_all}
use Rattle.drf_bundle.specs.declared.resource.Resource.{Resource}
use Rattle.drf_bundle.specs.declared.quantities.Entry.{Entry}
use Rattle.drf_rows.specs.Consistent.{IsAgent, IsConsistent, IsCovered, IsHeld, IsFilter}
use Rattle.drf_row_laws.proofs.ConsistentLaws.{bundles-consistent}
use Rattle.drf_rows.specs.Releases.{Release, without_ended}
use Rattle.drf_row_laws.proofs.ReleaseLaws.{IsOneLess, held_where-one_less, parts_on-one_less, units-one_less, one-one_less, one_less-offer, IsConsistent-offer_out, without_ended-offer, left-offer, one_less-task, IsConsistent-task_out, without_ended-task, left-task, without_ended-none, parts_on-accepted, units-left, offer_held, IsConsistent-accepted, without_offer-place}
use Rattle.drf_rows.specs.Held.{clients_of, cluster_total}
use Rattle.drf_rows.specs.Holdings.{Holding, holding_of_offer, holding_of_task, holdings_of, parts_on}
use Rattle.drf_rows.specs.Offers.{CanStart, left_of_offer, offer_at, task_of}
use Rattle.drf_rows.proofs.TaskLaws.{units-covers_all}
use Rattle.drf_rows.specs.Tasks.{Start, uses}
use Rattle.drf_rows.specs.declared.rows.AgentRow.{AgentRow}
use Rattle.drf_rows.specs.declared.rows.FilterRow.{FilterRow}
use Rattle.drf_rows.specs.declared.rows.OfferRow.{OfferRow}
use Rattle.drf_rows.specs.declared.rows.TaskRow.{TaskRow}
use Rattle.drf_rows.specs.declared.rows.Rows.{Rows}
use Rattle.drf_holdings.specs.Stored.{OffersAndTasks, IsOfferOut, IsTaskOut, IsNothingOut, HasStarted, holding_of}
use Rattle.drf_holdings.specs.declared.holdings.Taken.{Taken}
use Rattle.drf_tables.specs.registry.Changing.{changed, freed, CanGiveBack, HasFreed}
use Rattle.drf_tables.specs.offers.Ended.{left_to_end, held_in, HasEnded, with_accepted}
use Rattle.drf_tables.specs.Inside.{agent_row, rows_of, rows_in, IsKnown, AreDerived}
use Rattle.drf_tables.specs.declared.tables.Agent.{Agent}
use Rattle.drf_tables.specs.declared.tables.Tables.TheInside.{Inside}
use Rattle.drf_tables.proofs.registry.Freed.{joins-freed, known-freed, rows-freed, HasLess}

-- ---- one offer or task ends

pub record IsWithoutOne (old new : Rows) (release : Release) (h : Holding) : Type 0 where
  pub taken : IsOfferOut release (held_in old) (held_in new) h ⊎ IsTaskOut release (held_in old) (held_in new) h
  pub others : new ≡ record old { offers = new.offers; tasks = new.tasks }
  pub consistent : IsConsistent new
  pub less : IsOneLess (holdings_of old) (holdings_of new) h
  pub later : without_ended new release ≡ without_ended old release
  pub fewer : left_to_end old release ≡ left_to_end new release + 1

-- the rows with other holdings
abbrev pub rows_with : Inside → OffersAndTasks → Rows
rows_with t held = rows_of t.agents.entries t.frameworks.entries held t.filters t.weights.entries t.limits t.clock t.next_offer t.events

module _ (t : Inside) (held : OffersAndTasks) (release : Release) (taken : Taken) (consistent : IsConsistent (rows_in t)) where
  lost_offer : IsOfferOut release t.holdings held (holding_of taken) → IsWithoutOne (rows_in t) (rows_with t held) release (holding_of taken)
  unfolding rows_of
  lost_offer lost =
      let o : OfferRow = lost.offer in
      let before = lost.taken.before in
      let after = lost.taken.after in
      let new : Rows = record (rows_in t) { offers = before ++ after } in
      let rows : new ≡ rows_with t held = λ i. record (rows_in t) { offers = sym lost.taken.left i; tasks = sym lost.same i } in
      let one : IsWithoutOne (rows_in t) new release (holding_of_offer o) = record {
        taken = inl (record { offer = o; taken = record { before = before; after = after; whole = lost.taken.whole; left = refl; passes = lost.taken.passes }; same = refl; reported = refl });
        others = refl;
        consistent = IsConsistent-offer_out (rows_in t) before after o lost.taken.whole consistent;
        less = one_less-offer (rows_in t) before after o lost.taken.whole;
        later = without_ended-offer (rows_in t) before after o lost.taken.whole release lost.taken.passes;
        fewer = left-offer (rows_in t) before after o lost.taken.whole release lost.taken.passes;
      } in
      subst (λ (q : Rows × Holding). IsWithoutOne (rows_in t) q.0 release q.1) (λ i. (rows i, sym lost.reported i)) one

  lost_task : IsTaskOut release t.holdings held (holding_of taken) → IsWithoutOne (rows_in t) (rows_with t held) release (holding_of taken)
  unfolding rows_of
  lost_task lost =
      let x : TaskRow = lost.task in
      let before = lost.taken.before in
      let after = lost.taken.after in
      let new : Rows = record (rows_in t) { tasks = before ++ after } in
      let rows : new ≡ rows_with t held = λ i. record (rows_in t) { tasks = sym lost.taken.left i; offers = sym lost.same i } in
      let one : IsWithoutOne (rows_in t) new release (holding_of_task x) = record {
        taken = inr (record { task = x; taken = record { before = before; after = after; whole = lost.taken.whole; left = refl; passes = lost.taken.passes }; same = refl; reported = refl });
        others = refl;
        consistent = IsConsistent-task_out (rows_in t) before after x lost.taken.whole consistent;
        less = one_less-task (rows_in t) before after x lost.taken.whole;
        later = without_ended-task (rows_in t) before after x lost.taken.whole release lost.taken.passes;
        fewer = left-task (rows_in t) before after x lost.taken.whole release lost.taken.passes;
      } in
      subst (λ (q : Rows × Holding). IsWithoutOne (rows_in t) q.0 release q.1) (λ i. (rows i, sym lost.reported i)) one

  pub without_taken : IsOfferOut release t.holdings held (holding_of taken) ⊎ IsTaskOut release t.holdings held (holding_of taken)
      → IsWithoutOne (rows_in t) (rows_with t held) release (holding_of taken)
  without_taken lost = elim lost [
    | inl offer ↦ lost_offer offer
    | inr task ↦ lost_task task
  ]

-- less is held on its agent
less-ended : (old new : Rows) (release : Release) (h : Holding) → IsConsistent old → IsWithoutOne old new release h
    → HasLess (holdings_of old) (holdings_of new) h.agent h.bundle
less-ended old new release h consistent one = record {
  is_part = (one-one_less (holdings_of old) (holdings_of new) h one.less (IsHeld old.agents old.frameworks) consistent.holdings).bundle;
  each_old = bundles-consistent old consistent;
  each_new = bundles-consistent new one.consistent;
  others = parts_on-one_less (holdings_of old) (holdings_of new) h one.less;
  less = λ agent here key p.
      units-one_less (holdings_of old) (holdings_of new) h one.less agent key p
      ∙ ap (λ (b : Bool). units_of_all (parts_on agent (holdings_of new)) key p + cond b (units h.bundle key p) 0) here;
}

-- so its resources can join the free ones
pub back-ended : (t : Inside) (held : OffersAndTasks) (release : Release) (taken : Taken) → AreDerived (rows_in t) t.agents.entries t.total t.clients
    → IsOfferOut release t.holdings held (holding_of taken) ⊎ IsTaskOut release t.holdings held (holding_of taken)
    → CanGiveBack taken.agent taken.bundle t.agents.entries
unfolding rows_of
back-ended t held release taken kept lost =
    joins-freed (holdings_of (rows_in t)) (holdings_of (rows_with t held)) taken.agent taken.bundle
    (less-ended (rows_in t) (rows_with t held) release (holding_of taken) kept.consistent (without_taken t held release taken kept.consistent lost))
    t.agents.entries kept.free kept.consistent.agents.each kept.consistent.covered

pub AreDerived-ended : (old new : Rows) (agents : List (Text × Agent)) (sum : List Entry) (number : ℕ) (release : Release) (h : Holding) (back : Bool)
    → old.agents ≡ map agent_row agents → AreDerived old agents sum number → IsWithoutOne old new release h
    → AreDerived new (map (changed h.agent (freed back h.bundle)) agents) sum number
AreDerived-ended old new agents sum number release h back stand kept one = record {
  consistent = one.consistent;
  free = known-freed (holdings_of old) (holdings_of new) h.agent h.bundle (less-ended old new release h kept.consistent one) back agents kept.free
      (subst (AllByRecursion IsAgent) stand kept.consistent.agents.each)
      (subst (AllByRecursion (IsCovered (holdings_of old))) stand kept.consistent.covered);
  total = kept.total ∙ sym (ap (λ (r : Rows). cluster_total r.agents) one.others);
  clients = kept.clients ∙ sym (ap (λ (r : Rows). length (clients_of r)) one.others);
  few = subst (λ (agents : List AgentRow). length agents ≤ 4096) (sym (ap (λ (r : Rows). r.agents) one.others)) kept.few;
}

pub ended_from : (old new : Rows) (release : Release) (taken : Taken)
    → IsConsistent old → IsWithoutOne old new release (holding_of taken) → HasEnded old new release taken
ended_from old new release taken consistent one = record {
  registered = (one-one_less (holdings_of old) (holdings_of new) (holding_of taken) one.less (IsHeld old.agents old.frameworks) consistent.holdings).client;
  taken = one.taken;
  others = one.others;
  later = one.later;
  fewer = one.fewer;
  out = held_where-one_less (holdings_of old) (holdings_of new) (holding_of taken) one.less;
}

-- ---- nothing ends

module _ (t : Inside) (held : OffersAndTasks) (release : Release) (lost : IsNothingOut release t.holdings held) where
  pub rows-none : rows_with t held ≡ rows_in t
  unfolding rows_of
  rows-none = λ i. record (rows_in t) { offers = lost.offers.same i; tasks = lost.tasks.same i }

  pub without-none : without_ended (rows_in t) release ≡ rows_in t
  unfolding rows_of
  without-none = without_ended-none (rows_in t) release lost.offers.none lost.tasks.none

-- ---- an offer is replaced by tasks

-- an element that is found is in the list
pub found_any : {X : Type 0} (p : X → Bool) (xs : List X) (x : X) → find p xs ≡ Some x → list_any p xs ≡ true
found_any p [] x found = cc
found_any p (y ∷ ys) x found = by (p y) (found_any p ys x) found
  where
    by : (b : Bool) → (find p ys ≡ Some x → list_any p ys ≡ true) → cond b (Some y) (find p ys) ≡ Some x → (b || list_any p ys) ≡ true
    by true later here = refl
    by false later there = later there

each_filter : (P : FilterRow → Type 0) (refused : Option FilterRow) → ((f : FilterRow) → refused ≡ Some f → P f)
    → AllByRecursion P (option_map_or (λ f. f ∷ []) refused [])
each_filter P None right = tt
each_filter P (Some f) right = (right f refl, tt)

-- of the offer, only the tasks are still held on its agent
less-accepted : (rows : Rows) (number : ℕ) (starts : List Start) (o : OfferRow) → IsConsistent rows → offer_at rows number ≡ Some o
    → AllByRecursion IsBundle (uses starts) → CanStart rows o starts
    → HasLess (holdings_of rows) (holdings_of (with_accepted rows o starts None)) o.agent (left_of_offer o starts)
less-accepted rows number starts o consistent found bundles can =
    let held : IsHeld rows.agents rows.frameworks (holding_of_offer o) = offer_held rows number o starts [] consistent found in
    let has = units-covers_all o.bundle (uses starts) held.bundle bundles can.covered in
    record {
      is_part = bundle-rest_of_all o.bundle (uses starts) held.bundle;
      each_old = bundles-consistent rows consistent;
      each_new = bundles-consistent (with_accepted rows o starts None) (IsConsistent-accepted rows number o starts [] consistent found bundles can tt);
      others = parts_on-accepted rows number o starts [] consistent found;
      less = units-left rows number o starts [] consistent found has bundles;
    }

-- so the rest can join the free resources
pub back-accepted : (t : Inside) (number : ℕ) (starts : List Start) (o : OfferRow) → AreDerived (rows_in t) t.agents.entries t.total t.clients
    → offer_at (rows_in t) number ≡ Some o → AllByRecursion IsBundle (uses starts) → CanStart (rows_in t) o starts
    → CanGiveBack o.agent (left_of_offer o starts) t.agents.entries
unfolding rows_of
back-accepted t number starts o kept found bundles can =
    joins-freed (holdings_of (rows_in t)) (holdings_of (with_accepted (rows_in t) o starts None)) o.agent (left_of_offer o starts)
    (less-accepted (rows_in t) number starts o kept.consistent found bundles can)
    t.agents.entries kept.free kept.consistent.agents.each kept.consistent.covered

module _ (t : Inside) (entries : List (Text × Agent)) (held : OffersAndTasks) (filters : List FilterRow) (number : ℕ)
    (starts : List Start) (refused : Option FilterRow) (o x : OfferRow)
    (kept : AreDerived (rows_in t) t.agents.entries t.total t.clients)
    (found : offer_at (rows_in t) number ≡ Some o)
    (started : HasStarted number starts t.holdings held x)
    (freed_there : HasFreed x.agent (left_of_offer o starts) t.agents.entries entries)
    (added : filters ≡ t.filters ++ option_map_or (λ f. f ∷ []) refused []) where
  -- the rows after all these changes
  abbrev pub rows_accepted : Rows
  rows_accepted = rows_of entries t.frameworks.entries held filters t.weights.entries t.limits t.clock t.next_offer t.events

  pub same_offer : x ≡ o
  unfolding rows_of
  same_offer =
      let both : ◌≡◌ {A = Option OfferRow} (Some x) (Some o) = sym started.found ∙ found in
      cc

  pub accepted-rows : rows_accepted ≡ with_accepted (rows_in t) o starts refused
  unfolding rows_of
  accepted-rows =
      let took = started.taken in
      let left : held.offers ≡ filter (λ p. not (p.number == o.number)) (rows_in t).offers =
      took.left ∙ sym (without_offer-place (rows_in t) took.before took.after x kept.consistent took.whole)
      ∙ ap (λ (y : OfferRow). filter (λ p. not (p.number == y.number)) (rows_in t).offers) same_offer in
      let runs : held.tasks ≡ (rows_in t).tasks ++ map (task_of o) starts =
      started.started ∙ (λ i. (rows_in t).tasks ++ map (task_of (same_offer i)) starts) in
      let agents : map agent_row entries ≡ map agent_row t.agents.entries =
      ap (map agent_row) freed_there.same ∙ rows-freed freed_there.kept x.agent (left_of_offer o starts) t.agents.entries in
      λ i. record (rows_in t) { agents = agents i; offers = left i; tasks = runs i; filters = added i }

  pub accepted-kept : AllByRecursion IsBundle (uses starts) → CanStart (rows_in t) o starts
      → ((f : FilterRow) → refused ≡ Some f → IsFilter (rows_in t).agents (rows_in t).frameworks f)
      → AreDerived rows_accepted entries t.total t.clients
  unfolding rows_of
  accepted-kept bundles can each =
      let rows : Rows = with_accepted (rows_in t) o starts refused in
      let more : List FilterRow = option_map_or (λ f. f ∷ []) refused [] in
      let left : List Resource = left_of_offer o starts in
      let known : AllByRecursion (IsKnown (holdings_of rows)) entries =
      subst (λ (es : List (Text × Agent)). AllByRecursion (IsKnown (holdings_of rows)) es)
      (sym (freed_there.same ∙ (λ i. map (changed (same_offer i).agent (freed freed_there.kept left)) t.agents.entries)))
      (known-freed (holdings_of (rows_in t)) (holdings_of rows) o.agent left
      (less-accepted (rows_in t) number starts o kept.consistent found bundles can)
      freed_there.kept t.agents.entries kept.free kept.consistent.agents.each kept.consistent.covered) in
      subst (λ (r : Rows). AreDerived r entries t.total t.clients) (sym accepted-rows) (record {
        consistent = IsConsistent-accepted (rows_in t) number o starts more kept.consistent found bundles can
            (each_filter (IsFilter (rows_in t).agents (rows_in t).frameworks) refused each);
        free = known;
        total = kept.total;
        clients = kept.clients;
        few = kept.few;
      })

-- ---- in terms of the fields

module _ (t : Inside) (entries : List (Text × Agent)) (held : OffersAndTasks) (release : Release) (taken : Taken)
    (kept : AreDerived (rows_in t) t.agents.entries t.total t.clients)
    (freed_there : HasFreed taken.agent taken.bundle t.agents.entries entries)
    (lost : IsOfferOut release t.holdings held (holding_of taken) ⊎ IsTaskOut release t.holdings held (holding_of taken)) where
  -- the rows without the offer or task
  abbrev pub rows_ended : Rows
  rows_ended = rows_of entries t.frameworks.entries held t.filters t.weights.entries t.limits t.clock t.next_offer t.events

  same_rows : rows_with t held ≡ rows_ended
  unfolding rows_of
  same_rows =
      let agents : map agent_row entries ≡ map agent_row t.agents.entries =
      ap (map agent_row) freed_there.same ∙ rows-freed freed_there.kept taken.agent taken.bundle t.agents.entries in
      λ i. record (rows_with t held) { agents = sym agents i }

  pub without_it : IsWithoutOne (rows_in t) rows_ended release (holding_of taken)
  without_it =
      subst (λ (r : Rows). IsWithoutOne (rows_in t) r release (holding_of taken)) same_rows
      (without_taken t held release taken kept.consistent lost)

  pub ended-kept : AreDerived rows_ended entries t.total t.clients
  unfolding rows_of
  ended-kept =
      subst (λ (es : List (Text × Agent)). AreDerived rows_ended es t.total t.clients) (sym freed_there.same)
      (AreDerived-ended (rows_in t) rows_ended t.agents.entries t.total t.clients release (holding_of taken) freed_there.kept refl kept without_it)

  pub ended-one : HasEnded (rows_in t) rows_ended release taken
  ended-one = ended_from (rows_in t) rows_ended release taken kept.consistent without_it
