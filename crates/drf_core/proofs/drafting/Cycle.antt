-- The turns of all agents form the cycle.
use Rattle.std.proofs.Common.{◌≡◌, ℕ, zero, suc, ◌+◌, ◌*◌, ◌<◌, ◌≤◌, List, [], ◌∷◌, Option, Some, None, true, false, Bool, refl, sym, ap, subst, ◌∙◌, length, cond, arith, drop, add-one}
use Rattle.std.specs.Prelude.{◌^◌, ◌≢◌, is_some, max, slice_get, filter}
use Rattle.std.specs.Option.{option_map_or}
use Rattle.std.proofs.lemmas.Bool.{false≢true}
use Rattle.std.proofs.Math.Seq.{drop-append_seam}
use Rattle.drf_rows.specs.Cycle.{turn, turns, cycle}
use Rattle.drf_rows.specs.LimitNumbers.{LimitNumbers}
use Rattle.drf_rows.specs.Step.{new_offers, effect}
use Rattle.drf_rows.specs.declared.limits.TheConstants.{LATEST_TIMESTAMP}
use Rattle.drf_rows.specs.declared.event.Event.TheVariants.{Cycle}
use Rattle.drf_rows.specs.declared.rows.AgentRow.{AgentRow}
use Rattle.drf_rows.specs.declared.rows.LimitRow.{LimitRow}
use Rattle.drf_rows.specs.declared.rows.OfferRow.{OfferRow}
use Rattle.drf_rows.specs.declared.rows.Rows.{Rows}
use Rattle.drf_tables.specs.cycle.Drafts.{with_offers}
use Rattle.drf_tables.specs.Stored.{Stored}
use Rattle.drf_core.specs.declared.cycle.Drafts.{Drafts}
use Rattle.drf_sorter.specs.Content.{Content, IsSame}
use Rattle.drf_content.specs.Content.{content_of}
use Rattle.drf_laws.specs.Kept.{IsKept}
use Rattle.drf_core.specs.cycle.Drafting.{IsCycleAt, IsDrafting, turn_at, turns_of}
use Rattle.drf_gates.specs.quota.Allowance.{Usage, quota_under}
use Rattle.drf_core.specs.cycle.Entitling.{IsQuotaOf}
use Rattle.drf_tables.proofs.DraftLaws.{offers-with_offers}
use Rattle.drf_tables.specs.limits.Recounting.{CountsAll}
use Rattle.drf_laws.proofs.theorems.Kept.{consistent-clock}

-- the rest of a list from a place on begins with the element there
pub record BeginsAt {A : Type 0} (xs : List A) (i : ℕ) : Type 0 where
  pub first : A
  pub at : slice_get xs i ≡ Some first
  pub rest : drop i xs ≡ first ∷ drop (i + 1) xs

pub begins_at : {A : Type 0} (xs : List A) (i : ℕ) → i < length xs → BeginsAt xs i
begins_at [] i h = absurd (omega arith)
begins_at (x ∷ xs) zero h = record { first = x; at = refl; rest = refl }
begins_at (x ∷ xs) (suc i) h =
    let later = begins_at xs i (omega arith) in
    record { first = later.first; at = later.at; rest = later.rest ∙ rw (add-one i, add-one (suc i)) refl }

-- the next agent has its turn
turns-step : (rows : Rows) (i : ℕ) → i < length rows.agents
    → turns (turn_at rows i) (filter (λ a. a.active) (drop (i + 1) rows.agents)) ≡ turns rows (filter (λ a. a.active) (drop i rows.agents))
turns-step rows i h =
    let b = begins_at rows.agents i h in
    ap (λ o. turns (option_map_or (λ a. cond a.active (turn rows a) rows) o rows) (filter (λ a. a.active) (drop (i + 1) rows.agents))) b.at
    ∙ (by b.first.active refl ∙ sym (ap (λ as'. turns rows (filter (λ a. a.active) as')) b.rest))
  where
    b' : BeginsAt rows.agents i
    b' = begins_at rows.agents i h

    by : (active : Bool) → b'.first.active ≡ active → turns (cond b'.first.active (turn rows b'.first) rows) (filter (λ a. a.active) (drop (i + 1) rows.agents))
        ≡ turns rows (cond b'.first.active (b'.first ∷ filter (λ a. a.active) (drop (i + 1) rows.agents)) (filter (λ a. a.active) (drop (i + 1) rows.agents)))
    by true e = rw e refl
    by false e = rw e refl

pub turns-next : (rows before after : Rows) (i : ℕ) → i < length rows.agents → before.agents ≡ rows.agents → after ≡ turn_at before i
    → turns before (filter (λ a. a.active) (drop i rows.agents)) ≡ turns_of rows
    → turns after (filter (λ a. a.active) (drop (i + 1) rows.agents)) ≡ turns_of rows
turns-next rows before after i within same turned so_far =
    let there : i < length before.agents = rw same within in
    ap (λ (r : Rows). turns r (filter (λ a. a.active) (drop (i + 1) rows.agents))) turned
    ∙ ap (λ (as' : List AgentRow). turns (turn_at before i) (filter (λ a. a.active) (drop (i + 1) as'))) (sym same)
    ∙ turns-step before i there
    ∙ ap (λ (as' : List AgentRow). turns before (filter (λ a. a.active) (drop i as'))) same
    ∙ so_far

-- the drafts are the new offers
pub new_offers-drafts : (rows : Rows) (offers : List OfferRow) → with_offers rows offers ≡ turns_of rows → new_offers rows (turns_of rows) ≡ offers
new_offers-drafts rows offers turned =
    ap (λ (r : Rows). drop (length rows.offers) r.offers) (sym turned)
    ∙ ap (drop (length rows.offers)) (offers-with_offers rows offers)
    ∙ drop-append_seam rows.offers offers

-- ---- a cycle begins and ends

pub content_of-clock : (rows : Rows) (clock : ℕ) → content_of (record rows { clock = clock }) ≡ content_of rows
unfolding content_of
content_of-clock rows clock = refl

-- a cycle begins without drafts
pub drafting-begins : (content : Content) (limits : LimitNumbers) (rows tables : Rows) (clock : ℕ) (offers : List OfferRow) → IsSame content (content_of rows)
    → IsKept limits rows → clock ≤ LATEST_TIMESTAMP → tables ≡ record rows { clock = clock } → offers ≡ [] → IsDrafting content tables offers
drafting-begins content limits rows tables clock offers sorted kept timestamp same none =
    let events : rows.events ≤ 4294967295 = omega (arith, kept.few.events, kept.few.ceilings.events.1) in
    let numbered : rows.next_offer ≤ 1 + rows.events * 2 ^ 24 = kept.numbered in
    rw (same, none) (record {
      sorted = subst (IsSame content) (sym (content_of-clock rows clock)) sorted;
      consistent = consistent-clock rows clock kept.consistent timestamp;
      clients = tt;
      few_agents = omega (arith, kept.few.agents, kept.few.ceilings.agents.1);
      low_number = omega (arith, numbered, events);
    })

pub cycle-begins : (content : Content) (tables : Stored) (rows : Rows) (drafts : Drafts) → tables.rows ≡ rows → IsDrafting content rows drafts.offers.items
    → tables.settled ≡ true → drafts.offers.items ≡ [] → drafts.lefts.items ≡ [] → IsQuotaOf rows (quota_under rows.limits drafts.consumption) → IsCycleAt content tables drafts 0
cycle-begins content tables rows drafts same drafting settled none nothing counted = record {
  drafting = rw same drafting;
  settled = settled;
  left = rw (none, nothing) (record { frees = refl; past = tt });
  quota = rw (same, none) counted;
}

-- the rows after all turns are those after the cycle
pub turns_of-cycle : (rows tables : Rows) (at clock : ℕ) → clock ≡ max rows.clock at → tables ≡ record rows { clock = clock } → turns_of tables ≡ effect rows (Cycle at)
unfolding effect cycle
turns_of-cycle rows tables at clock timestamp same = ap turns_of same ∙ ap (λ n. turns_of (record rows { clock = n })) timestamp

pub new_offers-cycle : (rows tables : Rows) (clock : ℕ) (after : Rows) → tables ≡ record rows { clock = clock } → new_offers tables after ≡ new_offers rows after
new_offers-cycle rows tables clock after same = ap (λ (r : Rows). new_offers r after) same

-- ---- what roles consume with the drafts

pub counts_all : (rows : Rows) (limits : List LimitRow) (consumption : Option (List Usage)) → IsQuotaOf rows (quota_under limits consumption)
    → CountsAll rows consumption
counts_all rows limits None none = record { each = tt }
counts_all rows limits (Some used) is = record { each = is.used }

-- if any role has a limit, consumption is known
pub is_counting : (rows : Rows) (limits : List LimitRow) (consumption : Option (List Usage)) → IsQuotaOf rows (quota_under limits consumption)
    → rows.limits ≢ [] → is_some consumption ≡ true
is_counting rows limits None none some = absurd (some none)
is_counting rows limits (Some used) is some = refl

-- borrowed consumption is right; if there is none, no role has a limit
pub quota-borrowed : (rows : Rows) (consumption : Option (List Usage)) (counted : Bool) → CountsAll rows consumption → is_some consumption ≡ counted
    → (rows.limits ≢ [] → counted ≡ true) → IsQuotaOf rows (quota_under rows.limits consumption)
quota-borrowed rows (Some used) counted counts is reported = record { limits = refl; used = counts.each }
quota-borrowed rows None counted counts is reported = unlimited rows.limits reported
  where
    unlimited : (limits : List LimitRow) → (limits ≢ [] → counted ≡ true) → limits ≡ []
    unlimited [] so = refl
    unlimited (l ∷ ls) so = absurd (false≢true (is ∙ so (λ (same : l ∷ ls ≡ []). cc)))
