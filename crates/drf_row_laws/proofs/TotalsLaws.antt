-- Reserving, unreserving, and setting a new total: the state afterwards, and that it stays consistent.
use Rattle.std.specs.Prelude.{◌≡◌, ◌+◌, Bool, true, false, List, [], ◌∷◌, ◌++◌, map, fold, Option, Some, if◌then◌else◌, IsTrue, not, filter}
use Rattle.std.specs.List.{list_any, AllByRecursion}
use Rattle.std.specs.Option.{option_map_or}
use Rattle.std.proofs.Common.{refl, sym, ap, subst, ◌∙◌, inl, inr, arith}
use Rattle.std.proofs.lemmas.Bool.{cases_Bool, false≢true}
use Rattle.std.proofs.lemmas.List.{map-append}
use Rattle.std.proofs.lemmas.Simd.{map-map}
use Rattle.drf_role.specs.Text.{Text, same_text}
use Rattle.drf_role.specs.TextLaws.{same_from_test}
use Rattle.drf_role.specs.Path.{Path}
use Rattle.drf_role.specs.Parts.{parts_of, text_of}
use Rattle.drf_role.specs.Role.{IsRole}
use Rattle.drf_bundle.specs.Value.{Point, Thousandths}
use Rattle.drf_bundle.specs.Quantities.{amount_of, plus, HasNoZeros}
use Rattle.drf_bundle.proofs.theorems.QuantitiesLaws.{same_quantities, no_zeros-empty, no_zeros-plus, amount-plus}
use Rattle.drf_bundle.specs.Bundle.{Key, IsBundle, same_key, units, units_where, stock, merged, join, rest, covers, quantities_of, is_unreserved, relabel}
use Rattle.drf_bundle.specs.laws.BundleLaws.{known_by_units}
use Rattle.drf_bundle.specs.laws.FitLaws.{stock_of_both, fits_less, IsJoinOf, join_some, join_fits}
use Rattle.drf_bundle.specs.laws.JoinLaws.{where-merged}
use Rattle.drf_bundle.proofs.theorems.RestLaws.{bundle-rest}
use Rattle.drf_bundle.proofs.theorems.UnitProofs.{covers_by_units, rest_and_part, moved_bundle, moved_stocks, quantities_no_zeros}
use Rattle.drf_bundle.proofs.theorems.SumLaws.{amount-quantities_of}
use Rattle.drf_bundle.specs.Taken.{units_of_all}
use Rattle.drf_bundle.specs.declared.quantities.Entry.{Entry}
use Rattle.drf_bundle.specs.declared.resource.Resource.{Resource}
use Rattle.drf_rows.specs.Holdings.{Holding, holdings_of, parts_on}
use Rattle.drf_rows.specs.Held.{cluster_total}
use Rattle.drf_rows.specs.Cycle.{free_of}
use Rattle.drf_row_laws.proofs.CycleLaws.{bundle-free_of, units-free_of}
use Rattle.drf_rows.specs.Consistent.{are_distinct, IsAgent, IsHeld, IsCovered, IsFilter, IsConsistent}
use Rattle.drf_row_laws.proofs.ConsistentLaws.{bundles-consistent}
use Rattle.drf_row_laws.proofs.ReleaseLaws.{IsPlace, find-place, each-one, each-out, sum_by-out}
use Rattle.drf_row_laws.proofs.MemberLaws.{others_of_name, without_named, amount_on, amount-cluster_total}
use Rattle.drf_rows.specs.Members.{has_agent}
use Rattle.drf_bundle.proofs.ListLaws.{list_any-map, each_from, each_from_both, each_append, each_parts, each_map}
use Rattle.drf_rows.specs.Totals.{CanExchange, agent_at, total_at, with_total, exchanged, with_other_total}
use Rattle.drf_rows.specs.declared.rows.AgentRow.{AgentRow}
use Rattle.drf_rows.specs.declared.rows.Rows.{Rows}

-- ---- one part is exchanged for another

module _ (whole old new : List Resource) (can : CanExchange whole old new) where
  abbrev left : List Resource
  left = rest whole old

  left_bundle : IsBundle left
  left_bundle = bundle-rest whole old can.is_whole

  -- the first part and the rest without it
  before_join : IsJoinOf left old whole
  before_join =
      join_some left old whole left_bundle can.is_old
      (rest_and_part whole old can.is_whole can.is_old ((covers_by_units whole old can.is_whole can.is_old).1 can.covered))

  after_join : (join left new ≡ Some (merged left new)) × IsJoinOf left new (merged left new)
  after_join =
      join_fits left new left_bundle can.is_new
      (fits_less (stock whole) (stock_of_both left new) can.is_whole.fits
      (λ name p. omega (arith, before_join.stocks_add name p, can.stocks name p)))

  pub exchanged-is : exchanged old new whole ≡ merged left new
  exchanged-is = ap (λ (found : Option (List Resource)). option_map_or (λ both. both) found whole) after_join.0

  -- there is a join
  pub joined-exchanged : join left new ≡ Some (exchanged old new whole)
  joined-exchanged = after_join.0 ∙ ap Some (sym exchanged-is)

  pub bundle-exchanged : IsBundle (exchanged old new whole)
  bundle-exchanged = subst IsBundle (sym exchanged-is) after_join.1.bundle

  -- for any test of keys, the units of the first part are replaced by those of the second
  pub where-exchanged : (test : Key → Bool) (p : Point)
      → units_where test p (exchanged old new whole) + units_where test p old ≡ units_where test p whole + units_where test p new
  where-exchanged test p = omega (
    arith,
    ap (units_where test p) exchanged-is,
    where-merged test p left new after_join.1.joins,
    where-merged test p left old before_join.joins,
    ap (units_where test p) before_join.is_merged,
  )

  pub units-exchanged : (key : Key) (p : Point)
      → units (exchanged old new whole) key p + units old key p ≡ units whole key p + units new key p
  units-exchanged key p = where-exchanged (same_key key) p

  -- of each name there is as much as before
  pub stock-exchanged : (name : Text) (p : Point) → stock (exchanged old new whole) name p ≡ stock whole name p
  stock-exchanged name p = omega (arith, where-exchanged (λ key. same_text name key.0) p, can.stocks name p)

  pub quantities-exchanged : quantities_of (exchanged old new whole) ≡ quantities_of whole
  quantities-exchanged =
      same_quantities (quantities_of (exchanged old new whole)) (quantities_of whole)
      (quantities_no_zeros (exchanged old new whole) bundle-exchanged) (quantities_no_zeros whole can.is_whole)
      (λ label. amount-quantities_of (exchanged old new whole) label ∙ stock-exchanged label Thousandths ∙ sym (amount-quantities_of whole label))

  -- the second part can be exchanged for the first again
  pub can_exchange-back : CanExchange (exchanged old new whole) new old
  can_exchange-back = record {
    is_whole = bundle-exchanged;
    is_old = can.is_new;
    is_new = can.is_old;
    covered = λ key p. omega (arith, units-exchanged key p, can.covered key p);
    stocks = λ name p. sym (can.stocks name p);
  }

-- exchanging back restores the bundle
pub exchanged-back : (whole old new : List Resource) → CanExchange whole old new → exchanged new old (exchanged old new whole) ≡ whole
exchanged-back whole old new can =
    let middle : List Resource = exchanged old new whole in
    let back = can_exchange-back whole old new can in
    known_by_units (exchanged new old middle) whole (bundle-exchanged middle new old back) can.is_whole
    (λ key p. omega (arith, units-exchanged middle new old back key p, units-exchanged whole old new can key p))

-- an unreserved part can be exchanged for the same part reserved, and back
module _ (role : Path) (resources : List Resource) (is_role : IsRole role) (read : parts_of (text_of role) ≡ role)
    (is : IsBundle resources) (free : IsTrue (is_unreserved resources)) where
  pub bundle-moved : IsBundle (relabel role resources)
  bundle-moved = moved_bundle role resources is_role read free is

  pub can_reserve : (whole : List Resource) → IsBundle whole → covers whole resources ≡ true
      → CanExchange whole resources (relabel role resources)
  can_reserve whole right all = record {
    is_whole = right;
    is_old = is;
    is_new = bundle-moved;
    covered = (covers_by_units whole resources right is).0 all;
    stocks = moved_stocks role resources;
  }

  pub can_unreserve : (whole : List Resource) → IsBundle whole → covers whole (relabel role resources) ≡ true
      → CanExchange whole (relabel role resources) resources
  can_unreserve whole right all = record {
    is_whole = right;
    is_old = bundle-moved;
    is_new = is;
    covered = (covers_by_units whole (relabel role resources) right bundle-moved).0 all;
    stocks = λ name p. sym (moved_stocks role resources name p);
  }

-- ---- the total of one agent changes

-- the agents with totals given by a function
abbrev total_as : (AgentRow → List Resource) → AgentRow → AgentRow
total_as total_of a = record a { total = total_of a }

abbrev total_reported : Text → (List Resource → List Resource) → AgentRow → List Resource
total_reported name made a = if same_text a.name name then made a.total else a.total

total_at-is : (name : Text) (made : List Resource → List Resource) (a : AgentRow) → total_at name made a ≡ total_as (total_reported name made) a
total_at-is name made a = by (same_text a.name name)
  where
    by : (b : Bool) → (if b then record a { total = made a.total } else a) ≡ record a { total = if b then made a.total else a.total }
    by true = refl
    by false = refl

module _ (rows : Rows) (name : Text) (made : List Resource → List Resource) where
  with_total-is : with_total rows name made ≡ map (total_as (total_reported name made)) rows.agents
  with_total-is = λ i. map (λ a. total_at-is name made a i) rows.agents

  -- names and activity stay
  pub names-with_total : map (λ a. a.name) (with_total rows name made) ≡ map (λ a. a.name) rows.agents
  names-with_total = ap (map (λ (a : AgentRow). a.name)) with_total-is ∙ map-map (λ (a : AgentRow). a.name) (total_as (total_reported name made)) rows.agents

  pub activity-with_total : map (λ a. a.active) (with_total rows name made) ≡ map (λ a. a.active) rows.agents
  activity-with_total =
      ap (map (λ (a : AgentRow). a.active)) with_total-is ∙ map-map (λ (a : AgentRow). a.active) (total_as (total_reported name made)) rows.agents

  pub has_agent-with_total : (agent : Text) → list_any (λ a. same_text a.name agent) (with_total rows name made) ≡ has_agent rows agent
  has_agent-with_total agent =
      ap (list_any (λ (a : AgentRow). same_text a.name agent)) with_total-is
      ∙ list_any-map (λ (a : AgentRow). same_text a.name agent) (total_as (total_reported name made)) rows.agents

  -- the agent with the name gets a valid bundle that covers the resources held there
  pub record IsRightTotal (a : AgentRow) : Type 0 where
    pub agent : IsAgent (record a { total = made a.total })
    pub covered : IsCovered (holdings_of rows) (record a { total = made a.total })

  abbrev pub IsRightIfNamed : AgentRow → Type 0
  IsRightIfNamed a = same_text a.name name ≡ true → IsRightTotal a

  pub IsConsistent-with_total : IsConsistent rows → AllByRecursion IsRightIfNamed rows.agents
      → IsConsistent (record rows { agents = with_total rows name made })
  IsConsistent-with_total consistent right =
      let agents : List AgentRow = with_total rows name made in
      let hs : List Holding = holdings_of rows in
      record {
        agents = record {
          names = ap are_distinct names-with_total ∙ consistent.agents.names;
          each = each_map IsAgent (total_at name made) rows.agents
              (each_from_both IsAgent IsRightIfNamed (λ a. IsAgent (total_at name made a)) rows.agents
              (λ a old new. elim (cases_Bool (same_text a.name name)) [
                | inl here ↦ rw here (new here).agent
                | inr past ↦ rw past old
              ]) consistent.agents.each right);
        };
        frameworks = consistent.frameworks;
        holdings = each_from (IsHeld rows.agents rows.frameworks) (IsHeld agents rows.frameworks) hs
            (λ h held. record { agent = has_agent-with_total h.agent ∙ held.agent; client = held.client; bundle = held.bundle })
            consistent.holdings;
        covered = each_map (IsCovered hs) (total_at name made) rows.agents
            (each_from_both (IsCovered hs) IsRightIfNamed (λ a. IsCovered hs (total_at name made a)) rows.agents
            (λ a old new. elim (cases_Bool (same_text a.name name)) [
              | inl here ↦ rw here (new here).covered
              | inr past ↦ rw past old
            ]) consistent.covered right);
        tasks = consistent.tasks;
        weights = consistent.weights;
        limits = consistent.limits;
        filters = each_from (IsFilter rows.agents rows.frameworks) (IsFilter agents rows.frameworks) rows.filters
            (λ f is. record {
              agent = has_agent-with_total f.agent ∙ is.agent;
              client = is.client;
              bundle = is.bundle;
              until = is.until;
            }) consistent.filters;
        early = consistent.early;
        counted = consistent.counted;
        numbered = consistent.numbered;
      }

-- ---- the agent that is found

-- other agents do not change
totals_stay : (name : Text) (made : List Resource → List Resource) (agents : List AgentRow)
    → AllByRecursion (λ a. same_text a.name name ≡ false) agents → map (total_at name made) agents ≡ agents
totals_stay name made [] others = refl
totals_stay name made (a ∷ agents) others = λ i. cond_first a others.0 i ∷ totals_stay name made agents others.1 i
  where
    cond_first : (a : AgentRow) → same_text a.name name ≡ false → total_at name made a ≡ a
    cond_first a past = rw past refl

module _ (rows : Rows) (name : Text) (a : AgentRow) (consistent : IsConsistent rows) (found : agent_at rows name ≡ Some a) where
  pub at : IsPlace rows.agents a × (same_text a.name name ≡ true)
  at = find-place (λ (b : AgentRow). same_text b.name name) rows.agents a found

  abbrev pub agents_before : List AgentRow
  agents_before = at.0.before

  abbrev pub agents_after : List AgentRow
  agents_after = at.0.after

  pub agents_stand : rows.agents ≡ agents_before ++ a ∷ agents_after
  agents_stand = at.0.stands

  pub same_name : a.name ≡ name
  same_name = same_from_test a.name name at.1

  others : AllByRecursion (λ b. same_text b.name name ≡ false) (agents_before ++ agents_after)
  others =
      subst (λ (n : Text). AllByRecursion (λ b. same_text b.name n ≡ false) (agents_before ++ agents_after)) same_name
      (others_of_name (λ (b : AgentRow). b.name) agents_before agents_after a
      (sym (ap (λ (bs : List AgentRow). are_distinct (map (λ b. b.name) bs)) agents_stand) ∙ consistent.agents.names))

  -- only this agent changes
  pub with_total-place : (made : List Resource → List Resource)
      → with_total rows name made ≡ agents_before ++ record a { total = made a.total } ∷ agents_after
  with_total-place made =
      let parts = each_parts (λ b. same_text b.name name ≡ false) agents_before agents_after others in
      let here : total_at name made a ≡ record a { total = made a.total } = rw at.1 refl in
      ap (map (total_at name made)) agents_stand
      ∙ map-append (total_at name made) agents_before (a ∷ agents_after)
      ∙ (λ i. totals_stay name made agents_before parts.0 i ++ here i ∷ totals_stay name made agents_after parts.1 i)

  -- what is true of this agent is true of all with its name
  pub if_named : (P : AgentRow → Type 0) → P a → AllByRecursion (λ b. same_text b.name name ≡ true → P b) rows.agents
  if_named P right =
      let Named : AgentRow → Type 0 = λ b. same_text b.name name ≡ true → P b in
      let parts = each_parts (λ b. same_text b.name name ≡ false) agents_before agents_after others in
      let past : (b : AgentRow) → same_text b.name name ≡ false → Named b = λ b is_other is. absurd (false≢true (sym is_other ∙ is)) in
      subst (AllByRecursion Named) (sym agents_stand)
      (each_append Named agents_before (a ∷ agents_after)
      (each_from (λ b. same_text b.name name ≡ false) Named agents_before past parts.0)
      ((λ is. right), each_from (λ b. same_text b.name name ≡ false) Named agents_after past parts.1))

  pub is_agent : IsAgent a
  is_agent = each-one IsAgent agents_before agents_after a (subst (AllByRecursion IsAgent) agents_stand consistent.agents.each)

  pub is_covered : IsCovered (holdings_of rows) a
  is_covered =
      each-one (IsCovered (holdings_of rows)) agents_before agents_after a
      (subst (AllByRecursion (IsCovered (holdings_of rows))) agents_stand consistent.covered)

  pub bundle_free : IsBundle (free_of rows a)
  bundle_free = bundle-free_of rows a is_agent.total

  -- free and held units add up to the total
  pub units_free : (key : Key) (p : Point)
      → units (free_of rows a) key p + units_of_all (parts_on a.name (holdings_of rows)) key p ≡ units a.total key p
  units_free key p = omega (arith, units-free_of rows a key p is_agent.total (bundles-consistent rows consistent), is_covered key p)

  -- a part of the free resources can be exchanged in the total too
  pub can_in_total : (old new : List Resource) → CanExchange (free_of rows a) old new → CanExchange a.total old new
  can_in_total old new can = record {
    is_whole = is_agent.total;
    is_old = can.is_old;
    is_new = can.is_new;
    covered = λ key p. omega (arith, can.covered key p, units_free key p);
    stocks = can.stocks;
  }

  module _ (old new : List Resource) (can : CanExchange (free_of rows a) old new) where
    abbrev whole_can : CanExchange a.total old new
    whole_can = can_in_total old new can

    abbrev made : List Resource → List Resource
    made = exchanged old new

    small_still : (label : Text) → amount_of (quantities_of (made a.total)) label ≡ amount_of (quantities_of a.total) label
    small_still label = ap (λ (es : List Entry). amount_of es label) (quantities-exchanged a.total old new whole_can)

    pub IsConsistent-exchanged : IsConsistent (record rows { agents = with_total rows name made })
    IsConsistent-exchanged =
        IsConsistent-with_total rows name made consistent
        (if_named (IsRightTotal rows name made) (record {
          agent = record {
            total = bundle-exchanged a.total old new whole_can;
            small = λ label. omega (arith, small_still label, is_agent.small label);
          };
          covered = λ key p. omega (arith, units-exchanged a.total old new whole_can key p, can.covered key p, units_free key p);
        }))

    -- the part is exchanged in the free resources too
    pub free_of-exchanged :
        free_of (record rows { agents = with_total rows name made }) (record a { total = made a.total }) ≡ exchanged old new (free_of rows a)
    free_of-exchanged =
        let after : Rows = record rows { agents = with_total rows name made } in
        let b : AgentRow = record a { total = made a.total } in
        let total = bundle-exchanged a.total old new whole_can in
        known_by_units (free_of after b) (exchanged old new (free_of rows a)) (bundle-free_of after b total)
        (bundle-exchanged (free_of rows a) old new can)
        (λ key p. omega (
          arith,
          units-free_of after b key p total (bundles-consistent rows consistent),
          units-exchanged a.total old new whole_can key p,
          units-exchanged (free_of rows a) old new can key p,
          can.covered key p,
          units_free key p,
        ))

    -- the cluster's total stays the same
    pub cluster_total-exchanged : cluster_total (with_total rows name made) ≡ cluster_total rows.agents
    cluster_total-exchanged =
        ap cluster_total (with_total-place made)
        ∙ same_totals agents_before (record a { total = made a.total }) a agents_after (quantities-exchanged a.total old new whole_can)
        ∙ sym (ap cluster_total agents_stand)
      where
        same_from : (start : List Entry) (bs cs : List AgentRow) (b c : AgentRow) → quantities_of b.total ≡ quantities_of c.total
            → fold (λ sum x. plus sum (quantities_of x.total)) start (bs ++ b ∷ cs) ≡ fold (λ sum x. plus sum (quantities_of x.total)) start (bs ++ c ∷ cs)
        same_from start [] cs b c same = ap (λ (es : List Entry). fold (λ sum x. plus sum (quantities_of x.total)) (plus start es) cs) same
        same_from start (x ∷ bs) cs b c same = same_from (plus start (quantities_of x.total)) bs cs b c same

        same_totals : (bs : List AgentRow) (b c : AgentRow) (cs : List AgentRow) → quantities_of b.total ≡ quantities_of c.total
            → cluster_total (bs ++ b ∷ cs) ≡ cluster_total (bs ++ c ∷ cs)
        same_totals bs b c cs same = same_from [] bs cs b c same

-- ---- a new total

no_zeros-added : (start : List Entry) (agents : List AgentRow) → HasNoZeros start → AllByRecursion IsAgent agents
    → HasNoZeros (fold (λ sum a. plus sum (quantities_of a.total)) start agents)
no_zeros-added start [] none all = none
no_zeros-added start (a ∷ agents) none all =
    no_zeros-added (plus start (quantities_of a.total)) agents
    (no_zeros-plus start (quantities_of a.total) none (quantities_no_zeros a.total all.0.total)) all.1

pub no_zeros-total : (agents : List AgentRow) → AllByRecursion IsAgent agents → HasNoZeros (cluster_total agents)
no_zeros-total agents all = no_zeros-added [] agents no_zeros-empty all

-- the cluster's total is then what the other agents have and the new total
pub cluster_total-other_total : (rows : Rows) (name : Text) (a : AgentRow) (total : List Resource) → IsConsistent rows
    → agent_at rows name ≡ Some a → IsAgent (record a { total = total })
    → plus (cluster_total (filter (λ b. not (same_text b.name name)) rows.agents)) (quantities_of total)
    ≡ cluster_total (with_other_total rows name total)
cluster_total-other_total rows name a total consistent found right =
    let before : List AgentRow = agents_before rows name a consistent found in
    let after : List AgentRow = agents_after rows name a consistent found in
    let stand = agents_stand rows name a consistent found in
    let changed : AgentRow = record a { total = total } in
    let others : filter (λ b. not (same_text b.name name)) rows.agents ≡ before ++ after =
    subst (λ (n : Text). filter (λ b. not (same_text b.name n)) rows.agents ≡ before ++ after) (same_name rows name a consistent found)
    (without_named (λ (b : AgentRow). b.name) rows.agents before after a consistent.agents.names stand) in
    let all = subst (AllByRecursion IsAgent) stand consistent.agents.each in
    let both = each-out IsAgent before after a all in
    let parts = each_parts IsAgent before after both in
    let new = each_append IsAgent before (changed ∷ after) parts.0 (right, parts.1) in
    let here = with_total-place rows name a consistent found (λ old. total) in
    ap (λ (bs : List AgentRow). plus (cluster_total bs) (quantities_of total)) others
    ∙ same_quantities (plus (cluster_total (before ++ after)) (quantities_of total)) (cluster_total (before ++ changed ∷ after))
    (no_zeros-plus (cluster_total (before ++ after)) (quantities_of total) (no_zeros-total (before ++ after) both) (quantities_no_zeros total right.total))
    (no_zeros-total (before ++ changed ∷ after) new)
    (λ label. omega (
      arith,
      amount-plus (cluster_total (before ++ after)) (quantities_of total) label (quantities_no_zeros total right.total).in_order,
      amount-cluster_total (before ++ after) label both,
      amount-cluster_total (before ++ changed ∷ after) label new,
      sum_by-out (amount_on label) before after changed,
    ))
    ∙ sym (ap cluster_total here)
