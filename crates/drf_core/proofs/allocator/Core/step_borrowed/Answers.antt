use Rattle.std.proofs.Common.{◌≡◌, None, refl, ap, subst, ◌∙◌, sym, arith}
use Rattle.drf_rows.specs.Step.{reply_to}
use Rattle.drf_rows.specs.declared.event.Event.{Event}
use Rattle.drf_rows.specs.declared.rows.Rows.{Rows}
use Rattle.drf_laws.proofs.theorems.SameLive.{refused_from}
use Rattle.drf_sorter.proofs.theorems.SpendLaws.{spends-nothing, spends-on_ok, spends-within}
use Rattle.drf_core.specs.Machine.{Engine, IsAfter}
use Rattle.drf_core.specs.refusal.Cases.{early_refusal_of}
use Rattle.drf_core.proofs.refusing.Tests.{reported_early}
use Rattle.drf_core.proofs.stepping.Step.{on_err}
use Rattle.drf_core.proofs.allocator.Core.step_borrowed.Goals as goal

pub returns-in-Some-clause-reply : goal.returns-in-Some-clause-reply
returns-in-Some-clause-reply g c =
    let limits = c.self.inside.limits in
    let rows : Rows = c.self.inside.cluster.value.rows in
    let event : Event = c.args.event.now in
    let case = reported_early limits rows event c.in-Some.refusal (sym (rw c.deref.ensures at c.early_refusal.ensures) ∙ c.in-Some.is) in
    (refused_from limits rows rows event refl c.in-Some.refusal case).0 ∙ ap (λ (m : Engine). reply_to m.limits m.rows event) c.self.view_is

pub returns-in-Some-clause-ok : goal.returns-in-Some-clause-ok
returns-in-Some-clause-ok g c =
    let limits = c.self.inside.limits in
    let rows : Rows = c.self.inside.cluster.value.rows in
    let event : Event = c.args.event.now in
    let case = reported_early limits rows event c.in-Some.refusal (sym (rw c.deref.ensures at c.early_refusal.ensures) ∙ c.in-Some.is) in
    subst (λ (m : Engine). IsAfter m m event) c.self.view_is
    (record { limits = refl; rows = (refused_from limits rows rows event refl c.in-Some.refusal case).1 })

pub returns-in-Some-clause-spends : goal.returns-in-Some-clause-spends
returns-in-Some-clause-spends g c = spends-on_ok _ (spends-within (spends-nothing refl) (omega arith))

pub returns-in_err-event-clause-not_refused : goal.returns-in_err-event-clause-not_refused
returns-in_err-event-clause-not_refused g c =
    on_err c.from_residual.result
    (subst (λ (m : Engine). early_refusal_of m.limits m.rows c.args.event.now ≡ None) c.self.view_is
    (sym (rw c.deref.ensures at c.early_refusal.ensures) ∙ c.in_default.is))
