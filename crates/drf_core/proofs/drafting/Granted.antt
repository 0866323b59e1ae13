-- What a role can have, what is granted of it, and how it is counted, in terms of what the code computes.
use Rattle.std.proofs.Common.{◌≡◌, ◌≢◌, ℕ, ◌<◌, ◌≤◌, Bool, true, false, true≢false, ◌&&◌, nat_lt, nat_le, List, [], ◌∷◌, Option, Some, None, length, refl, sym, ap, subst, ◌∙◌, cond, arith}
use Rattle.std.specs.Prelude.{not, ◌||◌, min, codes, IsTrue, ◌↔◌, MatchOption}
use Rattle.std.specs.List.{list_all, list_any}
use Rattle.std.specs.Option.{option_map_or}
use Rattle.std.proofs.lemmas.Bool.{and_parts, and_from, or_parts}
use Rattle.std.proofs.lemmas.Bool.Decides.{nat_tests}
use Rattle.drf_role.specs.Text.{Text, same_text}
use Rattle.drf_role.specs.TextLaws.{same_from_test, same_itself}
use Rattle.drf_role.specs.Path.{Path, begins_with, role_part, framework_part}
use Rattle.drf_role.proofs.PathLaws.{role_part-client_path, framework_part-client_path}
use Rattle.drf_bundle.specs.Bundle.{IsBundle, is_default, is_unreserved, quantities_of, part_for, clipped, clip, same_key, stock}
use Rattle.drf_bundle.specs.Quantities.{amount_of}
use Rattle.drf_bundle.specs.Value.{Thousandths, amount_in, units_in}
use Rattle.drf_role.specs.Parts.{text_of}
use Rattle.drf_bundle.specs.laws.KeyLaws.{unit_of, where-cons}
use Rattle.drf_bundle.specs.laws.SumLaws.{of_name}
use Rattle.drf_bundle.proofs.theorems.SumLaws.{amount-quantities_of}
use Rattle.drf_bundle.specs.declared.quantities.Entry.{Entry}
use Rattle.drf_bundle.specs.declared.resource.Resource.{Resource}
use Rattle.drf_gates.specs.quota.Allowance.{Allowance, IsAllowanceOf, IsRaisedBy, Usage, quota_under}
use Rattle.drf_rows.specs.Client.{Client, path_of}
use Rattle.drf_rows.specs.Consistent.{IsConsistent}
use Rattle.drf_rows.specs.Cycle.{free_of, grant, is_allocatable, with_offer}
use Rattle.drf_row_laws.proofs.CycleLaws.{entitlement-unlimited}
use Rattle.drf_rows.specs.Filters.{is_held_back}
use Rattle.drf_rows.specs.Quota.{consumption, entitlement, headroom, headroom_at, headrooms, unreserved_in}
use Rattle.drf_row_laws.proofs.QuotaLaws.{consumption-with_offer, consumption_is_part_of_total}
use Rattle.drf_row_laws.proofs.EntitlementLaws.{entitled_by_units}
use Rattle.drf_row_laws.proofs.ReportedShares.{small_total}
use Rattle.drf_rows.specs.declared.rows.AgentRow.{AgentRow}
use Rattle.drf_rows.specs.declared.rows.FilterRow.{FilterRow}
use Rattle.drf_rows.specs.declared.rows.LimitRow.{LimitRow}
use Rattle.drf_rows.specs.declared.rows.OfferRow.{OfferRow}
use Rattle.drf_rows.specs.declared.rows.Rows.{Rows}
use Rattle.drf_core.specs.cycle.Drafting.{CanCount}
use Rattle.drf_core.specs.cycle.Entitling.{IsEntitlement, IsKnown, IsKnownOf, IsOffered, IsQuotaOf, has_at_least, if_allocatable, is_of_worth, is_reserved, is_reserved_for, known_part, known_role}
use Rattle.drf_core.specs.declared.cycle.free.Free.{Free}
use Rattle.drf_core.specs.declared.cycle.free.Known.{Known}
use Rattle.drf_core.specs.declared.cycle.free.Known.TheVariants.{Nothing, Part, Barred}

-- ---- what a role can have

-- without a headroom, nothing is cut
pub entitled-whole : (quota : Option Allowance) (free : List Resource) (role : Path) (part : List Resource) → IsBundle free
    → ((rows : Rows) → IsQuotaOf rows quota → headroom rows role ≡ []) → part ≡ part_for role free → IsEntitlement quota free role part
entitled-whole quota free role part right none found rows client counted same =
    let room : headroom rows client.role ≡ [] = ap (headroom rows) same ∙ none rows counted in
    found ∙ ap (λ (r : Path). part_for r free) (sym same) ∙ sym (entitlement-unlimited rows free client right room)

pub room-unlimited : (role : Path) (rows : Rows) → IsQuotaOf rows None → headroom rows role ≡ []
room-unlimited role rows none = ap (λ (ls : List LimitRow). headrooms ls (consumption rows) role) none

pub no_entries : (entries : List Entry) → length entries ≡ 0 → entries ≡ []
no_entries [] none = refl
no_entries (e ∷ es) none = absurd (omega (arith, none))

-- otherwise it is cut to the headroom
pub entitled-cut : (a : Allowance) (free : List Resource) (role : Path) (room : List Entry) (part bundle : List Resource)
    → ((rows : Rows) → IsAllowanceOf rows a → room ≡ headroom rows role) → part ≡ part_for role free → bundle ≡ clip room part
    → IsEntitlement (Some a) free role bundle
entitled-cut a free role room part bundle left found cut rows client counted same =
    cut ∙ (λ i. clip (left rows counted i) (found i)) ∙ ap (λ (r : Path). clip (headroom rows r) (part_for r free)) (sym same)

pub offered-is : (quota : Option Allowance) (free : List Resource) (role : Path) (part : List Resource) (worth : Bool)
    → IsEntitlement quota free role part → worth ≡ is_allocatable part → IsOffered quota free role (cond worth (Some part) None)
offered-is quota free role part worth entitled reported rows client counted same =
    ap (λ b. cond b (Some part) None) reported ∙ ap if_allocatable (entitled rows client counted same)

-- what is known about a role is what it can have
pub offered-known : (quota : Option Allowance) (free : List Resource) (known : Known) (role : Path) → IsKnownOf quota free known → known_role known ≡ Some role
    → IsOffered quota free role (known_part known)
offered-known quota free Nothing role right named = absurd cc
offered-known quota free (Part of part) role right named = let same : of ≡ role = cc in subst (λ r. IsOffered quota free r (Some part)) same right
offered-known quota free (Barred of prefix) role right named = let same : of ≡ role = cc in subst (λ r. IsOffered quota free r None) same right.offered

pub no_part : (known : Known) → ((role : Path) (part : List Resource) → known ≡ Part role part → ⊥) → known_part known ≡ None
no_part Nothing none = refl
no_part (Part role part) none = absurd (none role part refl)
no_part (Barred role prefix) none = refl

-- what is known for any later quota is known in either case of a grant
pub known_each : (granted : Option (List Resource)) (quota : Option Allowance) (free : Free) → ((later : Option Allowance) → IsKnown later free)
    → MatchOption granted (IsKnown quota free) (λ _. (later : Option Allowance) → IsKnown later free)
known_each None quota free known = known quota
known_each (Some bundle) quota free known = known

-- each role can have all unreserved resources
for_all : (role : Path) (free : List Resource) → is_unreserved free ≡ true → free ≡ part_for role free
for_all role [] all = refl
for_all role (r ∷ rs) all =
    let parts = and_parts (is_default r.role) (is_unreserved rs) all in
    let part : List Resource = part_for role rs in
    ap (λ (rest : List Resource). r ∷ rest) (for_all role rs parts.1)
    ∙ sym (ap (λ (b : Bool). cond (b || begins_with role r.role) (r ∷ part) part) parts.0)

-- without limits, all unreserved resources can be offered
pub offered-whole : (quota : Option Allowance) (free : List Resource) → IsBundle free → is_unreserved free ≡ true → is_allocatable free ≡ true
    → ((rows : Rows) → IsQuotaOf rows quota → rows.limits ≡ []) → (role : Path) → IsOffered quota free role (Some free)
offered-whole quota free right all worth unlimited role =
    offered-is quota free role free true
    (entitled-whole quota free role free right (λ rows counted. room-unlimited role rows (unlimited rows counted)) (for_all role free all))
    (sym worth)

-- ---- limits that leave too little

-- `cpus` and `mem` decide whether an offer is made
or_last : (a : Bool) {b : Bool} → b ≡ true → (a || b) ≡ true
or_last true is = refl
or_last false is = is

swapped : (r : Resource) (label : Text) → same_text label r.label ≡ true → same_text r.label label ≡ true
swapped r label is =
    subst (λ (t : Text). same_text t label ≡ true) (same_from_test label r.label is) (same_itself label)

cpus_worth : (r : Resource) → same_text (codes "cpus") r.label ≡ true → is_of_worth r ≡ true
cpus_worth r is = ap (λ b. b || same_text r.label (codes "mem")) (swapped r (codes "cpus") is)

mem_worth : (r : Resource) → same_text (codes "mem") r.label ≡ true → is_of_worth r ≡ true
mem_worth r is = or_last (same_text r.label (codes "cpus")) (swapped r (codes "mem") is)

-- a resource of this scalar is unreserved
abbrev is_for_all_of : Text → Resource → Bool
is_for_all_of label r = not (same_text label r.label) || is_default r.role

abbrev is_for_all : Text → List Resource → Bool
is_for_all label rs = list_all (is_for_all_of label) rs

-- if nothing is reserved for a role, all that it can use of such a scalar is unreserved
none_reserved : (role : Path) (label : Text) → ((r : Resource) → same_text label r.label ≡ true → is_of_worth r ≡ true)
    → (rs : List Resource) → list_any (is_reserved_for role) rs ≡ false → is_for_all label (part_for role rs) ≡ true
none_reserved role label worth [] none = refl
none_reserved role label worth (r ∷ rs) none =
    let parts = or_parts (is_reserved_for role r) (list_any (is_reserved_for role) rs) none in
    by (is_default r.role) (begins_with role r.role) (same_text label r.label) refl refl parts.0 (none_reserved role label worth rs parts.1)
  where
    part : List Resource
    part = part_for role rs

    by : (d b s : Bool) → is_default r.role ≡ d → same_text label r.label ≡ s → (is_reserved r && b) ≡ false → is_for_all label part ≡ true
        → is_for_all label (cond (d || b) (r ∷ part) part) ≡ true
    by true b s default named none' others =
        and_from (is_for_all_of label r) (is_for_all label part) (or_last (not (same_text label r.label)) default) others
    by false false s other named none' others = others
    by false true true other named none' others =
        let its : (is_reserved r && true) ≡ true = (λ i. (worth r named i && not (other i)) && true) in
        absurd (true≢false (sym its ∙ none'))
    by false true false other named none' others =
        and_from (is_for_all_of label r) (is_for_all label part) (ap (λ (x : Bool). not x || is_default r.role) named) others

-- it is still unreserved after it is cut
shared-clipped : (label : Text) (limits : List Entry) (rs : List Resource) → is_for_all label rs ≡ true → is_for_all label (clip limits rs) ≡ true
shared-clipped label limits [] shared = refl
shared-clipped label limits (r ∷ rs) shared =
    let parts = and_parts (is_for_all_of label r) (is_for_all label rs) shared in
    by (nat_lt 0 (amount_in (clipped limits r).value)) parts.0 (shared-clipped label limits rs parts.1)
  where
    rest : List Resource
    rest = clip limits rs

    by : (b : Bool) → is_for_all_of label r ≡ true → is_for_all label rest ≡ true → is_for_all label (cond b (clipped limits r ∷ rest) rest) ≡ true
    by true its others = and_from (is_for_all_of label r) (is_for_all label rest) its others
    by false its others = others

shared-all : (label : Text) (rs : List Resource) → is_for_all label rs ≡ true → unreserved_in label rs ≡ amount_of (quantities_of rs) label
shared-all label rs shared = all rs shared ∙ sym (amount-quantities_of rs label)
  where
    all : (rs : List Resource) → is_for_all label rs ≡ true → unreserved_in label rs ≡ stock rs label Thousandths
    all [] shared = refl
    all (r ∷ rs) shared =
        let parts = and_parts (is_for_all_of label r) (is_for_all label rs) shared in
        let here : unit_of (same_key (label, [])) Thousandths r ≡ unit_of (of_name label) Thousandths r =
        at (same_text label r.label) (is_default r.role) parts.0 in
        omega (arith, where-cons (same_key (label, [])) Thousandths r rs, where-cons (of_name label) Thousandths r rs, here, all rs parts.1)
      where
        at : (s d : Bool) → (not s || d) ≡ true
            → cond (s && same_text [] (cond d [] (text_of r.role))) (units_in r.value Thousandths) 0 ≡ cond s (units_in r.value Thousandths) 0
        at false d shared = refl
        at true true shared = refl
        at true false shared = absurd (true≢false (sym shared))

-- a client for which nothing is reserved can have at most the free unreserved amount of a scalar, and at most the headroom
below : (rows : Rows) (free : List Resource) (client : Client) (label : Text) (least : ℕ) → IsBundle free
    → is_for_all label (entitlement rows free client) ≡ true → has_at_least rows free client.role label least ≡ false
    → amount_of (quantities_of (entitlement rows free client)) label < least
below rows free client label least right shared little =
    let whole : List Resource = entitlement rows free client in
    by (headroom_at rows client.role label) (unreserved_in label free) (amount_of (quantities_of whole) label)
    (sym (shared-all label whole shared) ∙ entitled_by_units rows free client (label, []) Thousandths right) little
  where
    by : (room : Option ℕ) (n x : ℕ) → x ≡ option_map_or (min n) room n
        → (nat_le least n && option_map_or (nat_le least) room true) ≡ false → x < least
    by None n x is little = grind (arith, nat_tests)
    by (Some r) n x is little = let less : x ≤ r = omega (arith, is) in let few : x ≤ n = omega (arith, is) in grind (arith, nat_tests)

pub spent : (quota : Option Allowance) (free : List Resource) (role : Path) → IsBundle free → list_any (is_reserved_for role) free ≡ false
    → ((rows : Rows) → IsQuotaOf rows quota → has_at_least rows free role (codes "cpus") 10 ≡ false)
    → ((rows : Rows) → IsQuotaOf rows quota → has_at_least rows free role (codes "mem") 32000 ≡ false)
    → IsOffered quota free role None
spent quota free role right none few little rows client counted same =
    let whole : List Resource = entitlement rows free client in
    let reserved : list_any (is_reserved_for client.role) free ≡ false = ap (λ (r : Path). list_any (is_reserved_for r) free) same ∙ none in
    let few_cpus = below rows free client (codes "cpus") 10 right
    (shared-clipped (codes "cpus") (headroom rows client.role) (part_for client.role free) (none_reserved client.role (codes "cpus") cpus_worth free reserved))
    (ap (λ (r : Path). has_at_least rows free r (codes "cpus") 10) same ∙ few rows counted) in
    let little_mem = below rows free client (codes "mem") 32000 right
    (shared-clipped (codes "mem") (headroom rows client.role) (part_for client.role free) (none_reserved client.role (codes "mem") mem_worth free reserved))
    (ap (λ (r : Path). has_at_least rows free r (codes "mem") 32000) same ∙ little rows counted) in
    let worthless : is_allocatable whole ≡ false = grind (arith, nat_tests) in
    sym (ap (λ b. cond b (Some whole) None) worthless)

-- ---- what is granted

-- a bundle that is offered is enough for an offer
allocatable-some : (bundle whole : List Resource) (b : Bool) → Some bundle ≡ cond b (Some whole) None → (b ≡ true) × (bundle ≡ whole)
allocatable-some bundle whole true same = (refl, let e : Some bundle ≡ Some whole = same in cc)
allocatable-some bundle whole false same = absurd (let e : Some bundle ≡ None = same in cc)

allocatable-none : (whole : List Resource) (b : Bool) → None ≡ cond b (Some whole) None → b ≡ false
allocatable-none whole true same = absurd (let e : None ≡ Some whole = same in cc)
allocatable-none whole false same = refl

-- a client that can have nothing that is enough for an offer is granted nothing
pub nothing_granted : (rows : Rows) (agent : AgentRow) (client : Client) (free : List Resource) → free ≡ free_of rows agent
    → None ≡ if_allocatable (entitlement rows free client) → None ≡ grant rows agent client
nothing_granted rows agent client free is_free nothing =
    let whole : List Resource = entitlement rows (free_of rows agent) client in
    let little : is_allocatable whole ≡ false = allocatable-none whole (is_allocatable whole)
    (nothing ∙ ap (λ (f : List Resource). if_allocatable (entitlement rows f client)) is_free) in
    sym (ap (λ (b : Bool). cond (b && not (is_held_back rows.filters rows.clock client agent.name whole)) (Some whole) None) little)

module _ (path : Path) (quota : Option Allowance) (free : List Resource) where
  pub granted-none : IsOffered quota free (role_part path) None → (rows : Rows) (agent : AgentRow) (client : Client)
      → free_of rows agent ≡ free → IsQuotaOf rows quota → path ≡ path_of client → None ≡ grant rows agent client
  granted-none offered rows agent client is_free counted joined =
      let role : role_part path ≡ client.role = ap role_part joined ∙ role_part-client_path client.role client.framework in
      nothing_granted rows agent client free (sym is_free) (offered rows client counted (sym role))

  pub granted-is : (filters : List FilterRow) (clock : ℕ) (name : Text) (part : List Resource) (b : Bool) (granted : Option (List Resource)) → IsOffered quota free (role_part path) (Some part)
      → b ≡ is_held_back filters clock (record { role = role_part path; framework = framework_part path }) name part
      → granted ≡ cond b None (Some part) → (rows : Rows) (agent : AgentRow) (client : Client)
      → free_of rows agent ≡ free → agent.name ≡ name → rows.filters ≡ filters → rows.clock ≡ clock → IsQuotaOf rows quota → path ≡ path_of client
      → granted ≡ grant rows agent client
  granted-is filters clock name part b granted offered decided chosen rows agent client is_free named same_filters same_clock counted joined =
      let role : role_part path ≡ client.role = ap role_part joined ∙ role_part-client_path client.role client.framework in
      let framework : framework_part path ≡ client.framework = ap framework_part joined ∙ framework_part-client_path client.role client.framework in
      let whole : List Resource = entitlement rows (free_of rows agent) client in
      let worth = allocatable-some part whole (is_allocatable whole)
      (offered rows client counted (sym role) ∙ ap (λ (f : List Resource). if_allocatable (entitlement rows f client)) (sym is_free)) in
      let held : b ≡ is_held_back rows.filters rows.clock client agent.name whole
      = decided ∙ (λ i. is_held_back (sym same_filters i) (sym same_clock i) (record { role = role i; framework = framework i }) (sym named i) (worth.1 i)) in
      chosen ∙ (λ i. cond (held i) None (Some (worth.1 i)))
      ∙ by (is_held_back rows.filters rows.clock client agent.name whole) whole
      ∙ sym (ap (λ (w : Bool). cond (w && not (is_held_back rows.filters rows.clock client agent.name whole)) (Some whole) None) worth.0)
    where
      by : (held : Bool) (whole : List Resource) → cond held None (Some whole) ≡ cond (not held) (Some whole) None
      by true whole = refl
      by false whole = refl

-- ---- consumption

-- the test whether any role has a limit
pub no_limits : (limits : List LimitRow) (some : Bool) → IsTrue some ↔ (limits ≢ []) → some ≡ false → limits ≡ []
no_limits [] some reported none = refl
no_limits (l ∷ ls) some reported none =
    let limited : some ≡ true = reported.1 (λ (same : l ∷ ls ≡ []). cc) in
    absurd cc

-- one more offer is counted
pub offer-counted : (rows : Rows) (offer : OfferRow) (limits : List LimitRow) (old new : List Usage)
    → IsQuotaOf rows (quota_under limits (Some old))
    → IsRaisedBy old new (λ test label. cond (test offer.role) (unreserved_in label offer.bundle) 0)
    → IsQuotaOf (with_offer rows offer) (quota_under limits (Some new))
unfolding with_offer
offer-counted rows offer limits old new counted raised = record {
  limits = counted.limits;
  used = λ test label. omega (arith, raised test label, counted.used test label, consumption-with_offer test rows offer label);
}

pub unlimited-counted : (rows : Rows) (offer : OfferRow) (limits : List LimitRow) (consumption : Option (List Usage)) → consumption ≡ None
    → IsQuotaOf rows (quota_under limits consumption) → IsQuotaOf (with_offer rows offer) (quota_under limits consumption)
unfolding with_offer
unlimited-counted rows offer limits None none counted = counted
unlimited-counted rows offer limits (Some used) none counted = cc

-- counting it does not overflow, since clients hold at most the cluster's total
pub can_count : (rows : Rows) (offer : OfferRow) (limits : List LimitRow) (consumption : Option (List Usage)) → IsQuotaOf rows (quota_under limits consumption)
    → IsConsistent (with_offer rows offer) → length (with_offer rows offer).agents ≤ 4096 → CanCount consumption offer
can_count rows offer limits None counted right few = tt
can_count rows offer limits (Some used) counted right few = λ test label. omega (
  arith,
  counted.used test label,
  consumption-with_offer test rows offer label,
  consumption_is_part_of_total test (with_offer rows offer) label right,
  small_total (with_offer rows offer).agents label right.agents.each few,
)
