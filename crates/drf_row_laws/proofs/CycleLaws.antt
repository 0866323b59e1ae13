-- The state with one more offer, and turns step by step.
use Rattle.std.specs.Prelude.{◌≡◌, ◌-◌, ◌≤◌, ◌&&◌, codes, Bool, true, false, not, List, [], ◌∷◌, ◌++◌, map, filter, Some, if◌then◌else◌, nat_lt, All}
use Rattle.std.specs.List.{flat_map, AllByRecursion}
use Rattle.std.specs.Option.{option_map_or}
use Rattle.std.proofs.Common.{refl, sym, ap, subst, ◌∙◌, inl, inr, cond, arith}
use Rattle.std.proofs.lemmas.Bool.{cases_Bool, lt-ltb}
use Rattle.std.proofs.lemmas.List.Elements.{All-head, All-tail, filter-append}
use Rattle.std.proofs.lemmas.Bool.Decides.{nat_tests}
use Rattle.drf_role.specs.Text.{Text, same_text}
use Rattle.drf_role.specs.TextLaws.{same_itself}
use Rattle.drf_role.specs.Path.{same_path}
use Rattle.drf_bundle.specs.Value.{Point, Thousandths, amount_in}
use Rattle.drf_bundle.specs.declared.value.Value.{Value}
use Rattle.drf_bundle.specs.declared.value.Value.TheVariants.{Scalar, Ranges, Items}
use Rattle.drf_bundle.specs.Bundle.{Key, IsResource, IsBundle, same_key, units, units_where, rest, with_value, filled_of, quantities_of, is_default, is_for, part_for, cut, clipped, clip}
use Rattle.drf_bundle.specs.Quantities.{amount_of, is_named}
use Rattle.drf_bundle.specs.laws.SumLaws.{of_name}
use Rattle.drf_bundle.proofs.theorems.SumLaws.{amount-quantities_of}
use Rattle.drf_bundle.proofs.theorems.PartLaws.{where-some, bundle-part_for, keeps-clipped, cut-falls, bundle-clip}
use Rattle.drf_bundle.proofs.theorems.RestLaws.{where-changed-le}
use Rattle.drf_bundle.specs.Taken.{rest_of_all, units_of_all}
use Rattle.drf_bundle.proofs.theorems.TakenLaws.{bundle-rest_of_all, units-rest_of_all, rest_of_all-insert, rest-itself}
use Rattle.drf_bundle.specs.declared.quantities.Entry.{Entry}
use Rattle.drf_bundle.specs.declared.resource.Resource.{Resource}
use Rattle.drf_rows.specs.Client.{Client}
use Rattle.drf_rows.specs.Holdings.{holding_of_offer, holding_of_task, holdings_of, parts_on, AreBundles}
use Rattle.drf_row_laws.proofs.HoldingsLaws.{parts_on-append, each_part, parts_on-with_offer, parts_on-other, each-with_offer}
use Rattle.drf_rows.specs.Held.{client_of, clients_of, active_clients}
use Rattle.drf_rows.specs.Quota.{entitlement, headroom}
use Rattle.drf_rows.specs.Cycle.{free_of, is_allocatable, grant, counted, count_offer, new_offer, with_offer, tried, all_tried}
use Rattle.drf_rows.specs.declared.rows.AgentRow.{AgentRow}
use Rattle.drf_rows.specs.declared.rows.ClientRow.{ClientRow}
use Rattle.drf_rows.specs.declared.rows.FrameworkRow.{FrameworkRow}
use Rattle.drf_rows.specs.declared.rows.OfferRow.{OfferRow}
use Rattle.drf_rows.specs.declared.rows.Rows.{Rows}

-- ---- one more offer

-- the registered clients and the active ones stay the same
counted-client : (client : Client) (f g : FrameworkRow) (c : ClientRow) → g.name ≡ f.name
    → client_of g (counted client c) ≡ client_of f c
counted-client client f g c same =
    elim (cases_Bool (same_path c.role client.role)) [
      | inl here ↦ rw here (ap (λ n. record { role = c.role; framework = n }) same)
      | inr other ↦ rw other (ap (λ n. record { role = c.role; framework = n }) same)
    ]

counted_clients : (client : Client) (f g : FrameworkRow) (cs : List ClientRow) → g.name ≡ f.name
    → map (client_of g) (map (counted client) cs) ≡ map (client_of f) cs
counted_clients client f g [] same = refl
counted_clients client f g (c ∷ cs) same =
    λ i. counted-client client f g c same i ∷ counted_clients client f g cs same i

counted-suppressed : (client : Client) (c : ClientRow) → (counted client c).suppressed ≡ c.suppressed
counted-suppressed client c =
    elim (cases_Bool (same_path c.role client.role)) [ inl here ↦ rw here | inr other ↦ rw other ]

one_kept : (f g : FrameworkRow) (c d : ClientRow) (cs ds : List ClientRow) (suppressed : Bool)
    → client_of g d ≡ client_of f c
    → map (client_of g) ds ≡ map (client_of f) cs
    → map (client_of g) (if not suppressed then d ∷ ds else ds) ≡ map (client_of f) (if not suppressed then c ∷ cs else cs)
one_kept f g c d cs ds true head tail = tail
one_kept f g c d cs ds false head tail = λ i. head i ∷ tail i

counted_active : (client : Client) (f g : FrameworkRow) (cs : List ClientRow) → g.name ≡ f.name
    → map (client_of g) (filter (λ c. not c.suppressed) (map (counted client) cs))
    ≡ map (client_of f) (filter (λ c. not c.suppressed) cs)
counted_active client f g [] same = refl
counted_active client f g (c ∷ cs) same =
    rw (counted-suppressed client c)
    (one_kept f g c (counted client c) (filter (λ c. not c.suppressed) cs)
    (filter (λ c. not c.suppressed) (map (counted client) cs)) c.suppressed
    (counted-client client f g c same) (counted_active client f g cs same))

count_offer-clients : (client : Client) (f : FrameworkRow)
    → map (client_of (count_offer client f)) (count_offer client f).clients ≡ map (client_of f) f.clients
count_offer-clients client f =
    elim (cases_Bool (same_text f.name client.framework)) [
      | inl here ↦ rw here (counted_clients client f (record f { clients = map (counted client) f.clients }) f.clients refl)
      | inr other ↦ rw other
    ]

count_offer-active : (client : Client) (f : FrameworkRow)
    → map (client_of (count_offer client f)) (filter (λ c. not c.suppressed) (count_offer client f).clients)
    ≡ map (client_of f) (filter (λ c. not c.suppressed) f.clients)
count_offer-active client f =
    elim (cases_Bool (same_text f.name client.framework)) [
      | inl here ↦ rw here (counted_active client f (record f { clients = map (counted client) f.clients }) f.clients refl)
      | inr other ↦ rw other
    ]

over_frameworks : (client : Client) (h : FrameworkRow → List Client) (fs : List FrameworkRow)
    → ((f : FrameworkRow) → h (count_offer client f) ≡ h f)
    → flat_map h (map (count_offer client) fs) ≡ flat_map h fs
over_frameworks client h [] same = refl
over_frameworks client h (f ∷ fs) same = λ i. same f i ++ over_frameworks client h fs same i

module _ (rows : Rows) (offer : OfferRow) where
  pub clients_of-with_offer : clients_of (with_offer rows offer) ≡ clients_of rows
  unfolding with_offer
  clients_of-with_offer =
      over_frameworks (holding_of_offer offer).client (λ f. map (client_of f) f.clients) rows.frameworks (count_offer-clients (holding_of_offer offer).client)

  pub active_clients-with_offer : active_clients (with_offer rows offer) ≡ active_clients rows
  unfolding with_offer
  active_clients-with_offer =
      over_frameworks (holding_of_offer offer).client (λ f. map (client_of f) (filter (λ c. not c.suppressed) f.clients)) rows.frameworks
      (count_offer-active (holding_of_offer offer).client)

-- ---- free resources

pub bundle-free_of : (rows : Rows) (agent : AgentRow) → IsBundle agent.total → IsBundle (free_of rows agent)
unfolding free_of
bundle-free_of rows agent total = bundle-rest_of_all agent.total (parts_on agent.name (holdings_of rows)) total

-- the units of the free resources: those of the total less those of the held resources
pub units-free_of : (rows : Rows) (agent : AgentRow) (key : Key) (p : Point) → IsBundle agent.total → AreBundles (holdings_of rows)
    → units (free_of rows agent) key p ≡ units agent.total key p - units_of_all (parts_on agent.name (holdings_of rows)) key p
unfolding free_of
units-free_of rows agent key p total each =
    units-rest_of_all agent.total (parts_on agent.name (holdings_of rows)) key p total (each_part agent.name (holdings_of rows) each)

-- on its own agent an offer leaves the rest free
pub free_of-with_offer : (rows : Rows) (offer : OfferRow) (agent : AgentRow)
    → IsBundle agent.total → AreBundles (holdings_of rows) → IsBundle offer.bundle → same_text offer.agent agent.name ≡ true
    → free_of (with_offer rows offer) agent ≡ rest (free_of rows agent) offer.bundle
unfolding free_of
free_of-with_offer rows offer agent total each one here =
    let Parts : Type 0 = List (List Resource) in
    let before : Parts = parts_on agent.name (map holding_of_offer rows.offers) in
    let after : Parts = parts_on agent.name (map holding_of_task rows.tasks) in
    let old : parts_on agent.name (holdings_of rows) ≡ before ++ after
    = parts_on-append agent.name (map holding_of_offer rows.offers) (map holding_of_task rows.tasks) in
    let new : parts_on agent.name (holdings_of (with_offer rows offer)) ≡ before ++ offer.bundle ∷ after
    = parts_on-with_offer rows offer agent.name ∙ ap (λ (b : Bool). before ++ cond b (offer.bundle ∷ after) after) here in
    ap (rest_of_all agent.total) new
    ∙ rest_of_all-insert agent.total before after offer.bundle total
    (subst (AllByRecursion IsBundle) old (each_part agent.name (holdings_of rows) each))
    (subst (AllByRecursion IsBundle) new (each_part agent.name (holdings_of (with_offer rows offer)) (each-with_offer (λ h. IsBundle h.bundle) rows offer each one)))
    one
    ∙ ap (λ (parts : Parts). rest (rest_of_all agent.total parts) offer.bundle) (sym old)

-- on other agents an offer does not change the free resources
pub free_of-with_offer_other : (rows : Rows) (offer : OfferRow) (agent : AgentRow) → same_text offer.agent agent.name ≡ false
    → free_of (with_offer rows offer) agent ≡ free_of rows agent
unfolding free_of
free_of-with_offer_other rows offer agent past =
    ap (rest_of_all agent.total) (parts_on-other rows offer agent.name past)

-- ---- turns

pub all_tried-append : (rows : Rows) (agent : AgentRow) (cs ds : List Client)
    → all_tried rows agent (cs ++ ds) ≡ all_tried (all_tried rows agent cs) agent ds
all_tried-append rows agent [] ds = refl
all_tried-append rows agent (c ∷ cs) ds = all_tried-append (tried rows agent c) agent cs ds

-- the entitlement is a part of the free bundle, for any test of keys
entitled_where : (test : Key → Bool) (rows : Rows) (free : List Resource) (client : Client) (p : Point)
    → units_where test p (entitlement rows free client) ≤ units_where test p free
entitled_where test rows free client p =
    let room : List Entry = headroom rows client.role in
    let part : List Resource = part_for client.role free in
    omega (
      arith,
      where-some (is_for client.role) test p free,
      where-changed-le (clipped room) (keeps-clipped room)
          (λ r q. cut-falls (is_default r.role && is_named room r.label) (amount_of room r.label) r.value q) test p part,
    )

pub bundle-entitlement : (rows : Rows) (free : List Resource) (client : Client) → IsBundle free → IsBundle (entitlement rows free client)
bundle-entitlement rows free client is =
    bundle-clip (headroom rows client.role) (part_for client.role free) (bundle-part_for client.role free is)

pub units-entitlement : (rows : Rows) (free : List Resource) (client : Client) (key : Key) (p : Point)
    → units (entitlement rows free client) key p ≤ units free key p
units-entitlement rows free client key p = entitled_where (same_key key) rows free client p

-- without limits nothing is cut
uncut : (r : Resource) → IsResource r → filled_of (clipped [] r ∷ []) ≡ r ∷ []
uncut r one =
    let some : nat_lt 0 (amount_in r.value) ≡ true = lt-ltb 0 (amount_in r.value) one.filled in
    ap (λ (v : Value). filled_of (with_value r v ∷ [])) (whole (is_default r.role) r.value) ∙ (λ i. cond (some i) (r ∷ []) [])
  where
    whole : (b : Bool) (v : Value) → cut (b && false) 0 v ≡ v
    whole true (Scalar t) = refl
    whole false (Scalar t) = refl
    whole b (Ranges numbers) = refl
    whole b (Items members) = refl

clip-nothing : (rs : List Resource) → All IsResource rs → clip [] rs ≡ rs
clip-nothing [] each = refl
clip-nothing (r ∷ rs) each =
    filter-append (λ s. nat_lt 0 (amount_in s.value)) (clipped [] r ∷ []) (map (clipped []) rs)
    ∙ (λ i. uncut r (All-head IsResource r rs each) i ++ clip-nothing rs (All-tail IsResource r rs each) i)

pub entitlement-unlimited : (rows : Rows) (free : List Resource) (client : Client) → IsBundle free
    → headroom rows client.role ≡ [] → entitlement rows free client ≡ part_for client.role free
entitlement-unlimited rows free client is none =
    ap (λ (room : List Entry). clip room (part_for client.role free)) none
    ∙ clip-nothing (part_for client.role free) (bundle-part_for client.role free is).each

-- if a bundle is too little for an offer, so is the entitlement of each client
entitled_less : (rows : Rows) (free : List Resource) (client : Client) (name : Text)
    → amount_of (quantities_of (entitlement rows free client)) name ≤ amount_of (quantities_of free) name
entitled_less rows free client name = omega (
  arith,
  amount-quantities_of free name,
  amount-quantities_of (entitlement rows free client) name,
  entitled_where (of_name name) rows free client Thousandths,
)

pub little_entitlement : (rows : Rows) (free : List Resource) (client : Client)
    → is_allocatable free ≡ false → is_allocatable (entitlement rows free client) ≡ false
little_entitlement rows free client little =
    let cpus = entitled_less rows free client (codes "cpus") in
    let mem = entitled_less rows free client (codes "mem") in
    grind (arith, nat_tests)

-- if too little is free, no client is granted anything
pub all_tried_none : (rows : Rows) (agent : AgentRow) (cs : List Client)
    → is_allocatable (free_of rows agent) ≡ false → all_tried rows agent cs ≡ rows
all_tried_none rows agent [] little = refl
all_tried_none rows agent (c ∷ cs) little = rw (little_entitlement rows (free_of rows agent) c little) (all_tried_none rows agent cs little)

-- if the first client is granted everything that is free, nothing is left for the others
pub all_tried_first : (rows : Rows) (agent : AgentRow) (c : Client) (cs : List Client)
    → grant rows agent c ≡ Some (free_of rows agent)
    → IsBundle agent.total → AreBundles (holdings_of rows)
    → all_tried rows agent (c ∷ cs) ≡ with_offer rows (new_offer rows agent c (free_of rows agent))
all_tried_first rows agent c cs granted total each =
    let free : List Resource = free_of rows agent in
    let after : Rows = with_offer rows (new_offer rows agent c free) in
    let left : free_of after agent ≡ [] =
    free_of-with_offer rows (new_offer rows agent c free) agent total each (bundle-free_of rows agent total) (same_itself agent.name)
    ∙ rest-itself free (bundle-free_of rows agent total) in
    ap (λ g. all_tried (option_map_or (λ bundle. with_offer rows (new_offer rows agent c bundle)) g rows) agent cs) granted
    ∙ all_tried_none after agent cs (ap is_allocatable left)
