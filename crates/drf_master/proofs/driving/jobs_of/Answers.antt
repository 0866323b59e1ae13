use Rattle.std.proofs.Common.{◌≡◌, ◌⊎◌, inl, inr, List, ◌∷◌, length, sym, ap, subst, ◌∙◌, arith}
use Rattle.std.specs.Global.{Vec}
use Rattle.std.specs.Iterator.Adapters.{zip_first, zip_second}
use Rattle.std.specs.Vec.Iter.{into_iter_items}
use Rattle.drf_rows.specs.declared.event.Event.{Event}
use Rattle.drf_master.specs.Receipts.{Held}
use Rattle.drf_master.specs.declared.driving.Job.{Job}
use Rattle.drf_master.proofs.Scripts.{IsShared, shared-next, shared-end}
use Rattle.drf_master.proofs.driving.jobs_of.Goals as goal

pub loop-pass-preserved : goal.loop-pass-preserved
loop-pass-preserved c =
    let at = c.loop-pass in
    let passes = c.args.passes.items in
    let scripts = c.args.scripts.items in
    let ps : List Held = into_iter_items (zip_first at.pass-iterator) in
    let ss : List (Vec Event) = into_iter_items (zip_second at.pass-iterator) in
    let rest : List Held = into_iter_items (zip_first c.next.new.self) in
    let others : List (Vec Event) = into_iter_items (zip_second c.next.new.self) in
    let split : ps ≡ c.in-Some.pass ∷ rest = c.in-Some.ensures.steps.0.0 in
    let split_scripts : ss ≡ c.in-Some.script ∷ others = c.in-Some.ensures.steps.1.0 in
    let fewer = c.in-Some.ensures.steps.0.1 in
    let fewer_scripts = c.in-Some.ensures.steps.1.1 in
    let count = ap (λ (l : List Held). length l) split in
    let count_scripts = ap (λ (l : List (Vec Event)). length l) split_scripts in
    let job : Job = record { worker = c.len-worker.result; pass = c.in-Some.pass; script = c.in-Some.script } in (
      subst (λ (jobs : List Job). IsShared passes scripts jobs rest others) (sym c.in_ok-push.ensures.items)
          (shared-next passes scripts at.jobs.items ps rest ss others job at.invariant.0 split split_scripts (c.len-worker.ensures ∙ at.jobs.ok.0)),
      (
        omega (arith, count, fewer, at.invariant.1.0),
        omega (arith, count_scripts, fewer_scripts, at.invariant.1.1),
      ),
    )

pub returns-clause-passes : goal.returns-clause-passes
returns-clause-passes c =
    let at = c.loop-pass in
    let ps : List Held = into_iter_items (zip_first at.pass-iterator) in
    let ss : List (Vec Event) = into_iter_items (zip_second at.pass-iterator) in
    let ended : (length ps ≡ 0) ⊎ (length ss ≡ 0) = elim c.in-None.ensures.steps [
      | inl e ↦ inl (sym at.invariant.1.0 ∙ e.1.0)
      | inr e ↦ inr (sym at.invariant.1.1 ∙ e.1.0)
    ] in
    (shared-end c.args.passes.items c.args.scripts.items at.jobs.items ps ss at.invariant.0 c.requires ended).0

pub returns-clause-scripts : goal.returns-clause-scripts
returns-clause-scripts c =
    let at = c.loop-pass in
    let ps : List Held = into_iter_items (zip_first at.pass-iterator) in
    let ss : List (Vec Event) = into_iter_items (zip_second at.pass-iterator) in
    let ended : (length ps ≡ 0) ⊎ (length ss ≡ 0) = elim c.in-None.ensures.steps [
      | inl e ↦ inl (sym at.invariant.1.0 ∙ e.1.0)
      | inr e ↦ inr (sym at.invariant.1.1 ∙ e.1.0)
    ] in
    (shared-end c.args.passes.items c.args.scripts.items at.jobs.items ps ss at.invariant.0 c.requires ended).1
