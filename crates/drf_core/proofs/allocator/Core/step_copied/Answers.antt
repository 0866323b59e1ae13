use Rattle.std.proofs.Common.{◌≡◌, ◌+◌, None, length, refl, ap, subst, ◌∙◌, sym, arith}
use Rattle.std.specs.Option.{IfSome}
use Rattle.drf_rows.specs.LimitNumbers.{LimitNumbers}
use Rattle.drf_rows.specs.Step.{live_rows, refusal_of, reply_to, rows_after}
use Rattle.drf_rows.specs.declared.rows.Rows.{Rows}
use Rattle.drf_core.specs.Cluster.{ClusterState}
use Rattle.drf_core.specs.Machine.{Engine, IsSafe}
use Rattle.drf_core.specs.refusal.Cases.{early_refusal_of}
use Rattle.drf_core.specs.Keeping.{IsStanding}
use Rattle.drf_core.proofs.stepping.Filters.{one_filter_more}
use Rattle.drf_core.proofs.stepping.Safe.{safe_kept}
use Rattle.drf_core.proofs.stepping.Saveable.{saveable_after}
use Rattle.drf_saved_laws.specs.SavedLaws.{IsSaveable}
use Rattle.drf_laws.proofs.theorems.Welcome.{room_for}
use Rattle.drf_core.proofs.stepping.Step.{on_err, early_none, rows_after-counted, events-applied, IsKept-counted}
use Rattle.drf_laws.proofs.theorems.SameLive.{refused_from, welcome_from, accepted_from}
use Rattle.drf_core.specs.Working.{allowance, allowed}
use Rattle.drf_core.proofs.stepping.Allowance.{allowance-accepted}
use Rattle.drf_sorter.specs.Work.{Spends}
use Rattle.drf_sorter.proofs.theorems.SpendLaws.{spends-at_ok, spends-both, spends-nothing, spends-on_ok, spends-within}
use Rattle.drf_core.proofs.allocator.Core.step_copied.Goals as goal

abbrev engine_of : LimitNumbers → ClusterState → Engine
engine_of limits cluster = record { limits = limits; rows = cluster.rows; work = cluster.work }

-- what callers see is decided by the borrowed cluster
seen : (limits : LimitNumbers) (borrowed inside : ClusterState) (engine : Engine) → borrowed ≡ inside → engine_of limits inside ≡ engine
    → engine_of limits borrowed ≡ engine
seen limits borrowed inside engine same view = ap (engine_of limits) same ∙ view

pub refusal-requires : goal.refusal-requires
refusal-requires g c =
    subst (λ (m : ClusterState). IsStanding c.self.inside.limits m.rows) (sym c.deref_mut-cluster.ensures.value) c.self.invariant

-- memory ran out in a test of refusal
pub returns-in_err-refusal-clause-not_refused : goal.returns-in_err-refusal-clause-not_refused
returns-in_err-refusal-clause-not_refused g c =
    let view = seen c.self.inside.limits c.deref_mut-cluster.result.now c.self.inside.cluster.value c.args.self.now c.deref_mut-cluster.ensures.value c.self.view_is in
    on_err c.from_residual.result
    (subst (λ (m : Engine). early_refusal_of m.limits m.rows c.args.event ≡ None) view c.in_err-refusal.ensures.early)

pub returns-in_err-refusal-clause-safe : goal.returns-in_err-refusal-clause-safe
returns-in_err-refusal-clause-safe g c = safe_kept c.self.inside.limits c.refusal.new.self.rows c.refusal.ensures.standing.kept

pub returns-in_err-refusal-clause-filters : goal.returns-in_err-refusal-clause-filters
returns-in_err-refusal-clause-filters g c = omega (arith, c.refusal.ensures.filters)

-- a refused event
pub returns-in-Some-clause-reply : goal.returns-in-Some-clause-reply
returns-in-Some-clause-reply g c =
    let limits = c.self.inside.limits in
    let view = seen limits c.deref_mut-cluster.result.now c.self.inside.cluster.value c.args.self.now c.deref_mut-cluster.ensures.value c.self.view_is in
    let case = sym c.in_ok-refusal.ensures.value ∙ c.in-Some.is in
    c.refused.ensures.reply
    ∙ (refused_from limits c.refusal.new.self.rows c.deref_mut-cluster.result.now.rows c.args.event c.refusal.ensures.live c.in-Some.refusal case).0
    ∙ ap (λ (m : Engine). reply_to m.limits m.rows c.args.event) view

pub returns-in-Some-clause-ok : goal.returns-in-Some-clause-ok
returns-in-Some-clause-ok g c =
    let limits = c.self.inside.limits in
    let view = seen limits c.deref_mut-cluster.result.now c.self.inside.cluster.value c.args.self.now c.deref_mut-cluster.ensures.value c.self.view_is in
    let case = sym c.in_ok-refusal.ensures.value ∙ c.in-Some.is in
    record {
      limits = ap (λ (m : Engine). m.limits) view;
      rows = (refused_from limits c.refusal.new.self.rows c.deref_mut-cluster.result.now.rows c.args.event c.refusal.ensures.live c.in-Some.refusal case).1
          ∙ ap (λ (m : Engine). live_rows (rows_after m.limits m.rows c.args.event)) view;
    }

pub returns-in-Some-clause-safe : goal.returns-in-Some-clause-safe
returns-in-Some-clause-safe g c = safe_kept c.self.inside.limits c.refusal.new.self.rows c.refusal.ensures.standing.kept

pub returns-in-Some-clause-filters : goal.returns-in-Some-clause-filters
returns-in-Some-clause-filters g c = omega (arith, c.refusal.ensures.filters)

pub returns-in-Some-clause-spends : goal.returns-in-Some-clause-spends
returns-in-Some-clause-spends g c =
    let limits = c.self.inside.limits in
    let view = seen limits c.deref_mut-cluster.result.now c.self.inside.cluster.value c.args.self.now c.deref_mut-cluster.ensures.value c.self.view_is in
    spends-on_ok _ (subst (λ (m : Engine). Spends g.S.Sorter.COUNTED m.work c.refusal.new.self.work (allowance m.limits m.rows c.args.event)) view
    (spends-within (spends-nothing c.refusal.ensures.work) (omega arith)))

-- an accepted event
pub count_event-requires : goal.count_event-requires
count_event-requires g c =
    let limits = c.self.inside.limits in
    let kept = c.refusal.ensures.standing.kept in
    let none = sym c.in_ok-refusal.ensures.value ∙ c.in_default.is in
    let room = room_for limits c.refusal.new.self.rows c.args.event none in
    let same = events-applied limits c.refusal.new.self.rows c.apply.new.self.rows (record c.apply.new.self.rows { events = c.apply.new.self.rows.events + 1 })
    c.args.event kept none c.in_ok-stepped.ensures.ok refl in
    omega (arith, same, room, kept.few.ceilings.events.1)

pub returns-clause-reply : goal.returns-clause-reply
returns-clause-reply g c =
    let limits = c.self.inside.limits in
    let view = seen limits c.deref_mut-cluster.result.now c.self.inside.cluster.value c.args.self.now c.deref_mut-cluster.ensures.value c.self.view_is in
    let none = sym c.in_ok-refusal.ensures.value ∙ c.in_default.is in
    c.in_ok-stepped.ensures.reply
    ∙ (accepted_from limits c.refusal.new.self.rows c.deref_mut-cluster.result.now.rows c.args.event c.refusal.ensures.live none).0
    ∙ ap (λ (m : Engine). reply_to m.limits m.rows c.args.event) view

pub returns-clause-ok : goal.returns-clause-ok
returns-clause-ok g c =
    let limits = c.self.inside.limits in
    let view = seen limits c.deref_mut-cluster.result.now c.self.inside.cluster.value c.args.self.now c.deref_mut-cluster.ensures.value c.self.view_is in
    let none = sym c.in_ok-refusal.ensures.value ∙ c.in_default.is in
    let stepped = rows_after-counted limits c.refusal.new.self.rows c.apply.new.self.rows c.count_event.new.self.rows c.args.event
    c.refusal.ensures.standing.kept none c.in_ok-stepped.ensures.ok c.count_event.ensures.counted in
    record {
      limits = ap (λ (m : Engine). m.limits) view;
      rows = ap live_rows stepped
          ∙ (accepted_from limits c.refusal.new.self.rows c.deref_mut-cluster.result.now.rows c.args.event c.refusal.ensures.live none).1
          ∙ ap (λ (m : Engine). live_rows (rows_after m.limits m.rows c.args.event)) view;
    }

pub returns-in_err-stepped-clause-not_refused : goal.returns-in_err-stepped-clause-not_refused
returns-in_err-stepped-clause-not_refused g c =
    let limits = c.self.inside.limits in
    let old : Rows = c.deref_mut-cluster.result.now.rows in
    let view = seen limits c.deref_mut-cluster.result.now c.self.inside.cluster.value c.args.self.now c.deref_mut-cluster.ensures.value c.self.view_is in
    let none = sym c.in_ok-refusal.ensures.value ∙ c.in_default.is in
    on_err c.from_residual-in_err-stepped.result
    (subst (λ (m : Engine). early_refusal_of m.limits m.rows c.args.event ≡ None) view
    (early_none limits old c.args.event (welcome_from limits c.refusal.new.self.rows old c.args.event c.refusal.ensures.live none)))

pub returns-in_err-stepped-clause-safe : goal.returns-in_err-stepped-clause-safe
returns-in_err-stepped-clause-safe g c =
    subst (λ (r : Rows). IsSafe (live_rows r)) (sym c.in_err-stepped.ensures.err)
    (safe_kept c.self.inside.limits c.refusal.new.self.rows c.refusal.ensures.standing.kept)

pub returns-in_err-stepped-clause-filters : goal.returns-in_err-stepped-clause-filters
returns-in_err-stepped-clause-filters g c =
    omega (arith, ap (λ (r : Rows). length r.filters) c.in_err-stepped.ensures.err, c.refusal.ensures.filters)

pub invariant_of-self-2 : goal.invariant_of-self-2
invariant_of-self-2 g c =
    let limits = c.self.inside.limits in
    let rows : Rows = c.refusal.new.self.rows in
    let standing = c.refusal.ensures.standing in
    let none = sym c.in_ok-refusal.ensures.value ∙ c.in_default.is in
    let stepped = rows_after-counted limits rows c.apply.new.self.rows c.count_event.new.self.rows c.args.event
    standing.kept none c.in_ok-stepped.ensures.ok c.count_event.ensures.counted in
    record {
      kept = IsKept-counted limits rows c.apply.new.self.rows c.count_event.new.self.rows c.args.event standing.kept none
          c.in_ok-stepped.ensures.ok c.count_event.ensures.counted c.count_event.ensures.consistent;
      saveable = subst (IsSaveable limits) (sym (ap live_rows stepped))
          (saveable_after limits rows c.args.event standing.kept.few.ceilings c.given_law.ensures standing.saveable);
    }

pub returns-clause-safe : goal.returns-clause-safe
returns-clause-safe g c =
    let limits = c.self.inside.limits in
    let none = sym c.in_ok-refusal.ensures.value ∙ c.in_default.is in
    safe_kept limits c.count_event.new.self.rows
    (IsKept-counted limits c.refusal.new.self.rows c.apply.new.self.rows c.count_event.new.self.rows c.args.event c.refusal.ensures.standing.kept none
    c.in_ok-stepped.ensures.ok c.count_event.ensures.counted c.count_event.ensures.consistent)

pub returns-clause-filters : goal.returns-clause-filters
returns-clause-filters g c =
    omega (
      arith,
      ap (λ (r : Rows). length r.filters) c.count_event.ensures.counted,
      ap (λ (r : Rows). length r.filters) c.in_ok-stepped.ensures.ok,
      one_filter_more c.refusal.new.self.rows c.args.event,
      c.refusal.ensures.filters,
    )

-- the work that the event adds
pub returns-clause-spends : goal.returns-clause-spends
returns-clause-spends g c =
    let limits = c.self.inside.limits in
    let old : Rows = c.deref_mut-cluster.result.now.rows in
    let view = seen limits c.deref_mut-cluster.result.now c.self.inside.cluster.value c.args.self.now c.deref_mut-cluster.ensures.value c.self.view_is in
    let none = sym c.in_ok-refusal.ensures.value ∙ c.in_default.is in
    let same : allowed c.refusal.new.self.rows c.args.event ≡ allowance limits old c.args.event
    = allowance-accepted limits c.refusal.new.self.rows old c.args.event c.refusal.ensures.live none in
    let applied = spends-both (spends-at_ok c.in_ok-stepped.ensures.spends) (spends-nothing c.count_event.ensures.work) in
    spends-on_ok _ (subst (λ (m : Engine). Spends g.S.Sorter.COUNTED m.work c.count_event.new.self.work (allowance m.limits m.rows c.args.event)) view
    (spends-within (spends-both (spends-nothing c.refusal.ensures.work) applied) (omega (arith, same))))

-- a refused event computes no key
pub returns-in_err-stepped-clause-refused : goal.returns-in_err-stepped-clause-refused
returns-in_err-stepped-clause-refused g c =
    let limits = c.self.inside.limits in
    let view = seen limits c.deref_mut-cluster.result.now c.self.inside.cluster.value c.args.self.now c.deref_mut-cluster.ensures.value c.self.view_is in
    let none = sym c.in_ok-refusal.ensures.value ∙ c.in_default.is in
    subst (λ (m : Engine). IfSome (refusal_of m.limits m.rows c.args.event) (λ refusal. c.apply.new.self.work.made ≡ m.work.made)) view
    (rw (welcome_from limits c.refusal.new.self.rows c.deref_mut-cluster.result.now.rows c.args.event c.refusal.ensures.live none) tt)

pub returns-clause-refused : goal.returns-clause-refused
returns-clause-refused g c =
    let limits = c.self.inside.limits in
    let view = seen limits c.deref_mut-cluster.result.now c.self.inside.cluster.value c.args.self.now c.deref_mut-cluster.ensures.value c.self.view_is in
    let none = sym c.in_ok-refusal.ensures.value ∙ c.in_default.is in
    subst (λ (m : Engine). IfSome (refusal_of m.limits m.rows c.args.event) (λ refusal. c.count_event.new.self.work.made ≡ m.work.made)) view
    (rw (welcome_from limits c.refusal.new.self.rows c.deref_mut-cluster.result.now.rows c.args.event c.refusal.ensures.live none) tt)
