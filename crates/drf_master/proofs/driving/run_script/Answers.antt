use Rattle.std.proofs.Common.{◌≡◌, ℕ, List, [], ◌∷◌, ◌++◌, rules, sym, subst, ◌∙◌, arith}
use Rattle.std.proofs.lemmas.Result.{err_from_is_err_and}
use Rattle.std.specs.Vec.Iter.{into_iter_items}
use Rattle.drf_rows.specs.declared.reply.Reply.{Reply}
use Rattle.drf_master.specs.Scripts.{IsAsked, IsCallStop, IsCutShort, IsThrough}
use Rattle.drf_master.specs.declared.driving.DriveFault.{DriveFault}
use Rattle.drf_master.proofs.Scripts.{cut-at, cut-before, less-of_split, through-starts, through-goes_on, through-count, whole-next}
use Rattle.drf_master.proofs.driving.run_script.Goals as goal

pub returns-in_err-reserve-clause-cut : goal.returns-in_err-reserve-clause-cut
returns-in_err-reserve-clause-cut g c =
    let asked = IsAsked (g.G.Gate.lets c.args.gate.now) (g.G.Gate.sees c.args.gate.now) c.args.worker in
    let stops = g.G.Gate.stops c.args.gate.now c.args.worker in
    let p = err_from_is_err_and c.from_residual.result c.from_residual.ensures.1 in
    rw (p.1, p.2) (cut-before asked stops c.args.pass.now c.reserve.new.self c.args.script.items c.reserve.ensures.same)

pub returns-in_err-replies-clause-cut : goal.returns-in_err-replies-clause-cut
returns-in_err-replies-clause-cut g c =
    let asked = IsAsked (g.G.Gate.lets c.args.gate.now) (g.G.Gate.sees c.args.gate.now) c.args.worker in
    let stops = g.G.Gate.stops c.args.gate.now c.args.worker in
    let p = err_from_is_err_and c.from_residual-in_err-replies.result c.from_residual-in_err-replies.ensures.1 in
    rw (p.1, p.2) (cut-before asked stops c.args.pass.now c.reserve.new.self c.args.script.items c.reserve.ensures.same)

pub returns-in_err-reply-clause-cut : goal.returns-in_err-reply-clause-cut
returns-in_err-reply-clause-cut g c =
    let at = c.loop-event in
    let asked = IsAsked (g.G.Gate.lets c.args.gate.now) (g.G.Gate.sees c.args.gate.now) c.args.worker in
    let stops = g.G.Gate.stops c.args.gate.now c.args.worker in
    let script = c.args.script.items in
    let fault : DriveFault = c.in_err-reply.field-0.0 in
    let own : c.args.pass.now.key ≡ c.args.master.now.key = search rules in
    let few = less-of_split script at.yielded (into_iter_items at.event-iterator) (into_iter_items c.next.new.self) c.in-Some.event at.invariant.0 c.in-Some.ensures.steps.0 in
    let cut : IsCutShort asked stops c.args.pass.now script c.run_call.new.pass fault =
    cut-at asked stops c.args.master.now.key c.args.pass.now at.pass c.run_call.new.pass script at.yielded (into_iter_items at.event-iterator) at.replies.items fault own
    at.invariant.0 at.invariant.1.0 c.in_err-reply.ensures.err few
    (subst (λ (n : ℕ). IsCallStop (stops n) c.args.master.now.key at.pass fault) (c.len-call.ensures ∙ at.replies.ok.0) c.in_err-reply.ensures.fault) in
    search rules

pub push_reserved-requires : goal.push_reserved-requires
push_reserved-requires g c =
    let at = c.loop-event in
    let asked = IsAsked (g.G.Gate.lets c.args.gate.now) (g.G.Gate.sees c.args.gate.now) c.args.worker in
    let few = less-of_split c.args.script.items at.yielded (into_iter_items at.event-iterator) (into_iter_items c.next.new.self) c.in-Some.event at.invariant.0 c.in-Some.ensures.steps.0 in
    let count = through-count asked c.args.pass.now at.pass at.yielded at.replies.items at.invariant.1.0 in
    omega (arith, few, count, at.replies.ok.0, at.invariant.1.1)

pub loop-event-init : goal.loop-event-init
loop-event-init g c =
    let asked = IsAsked (g.G.Gate.lets c.args.gate.now) (g.G.Gate.sees c.args.gate.now) c.args.worker in
    let starts = subst (λ (l : List Reply). IsThrough asked c.args.pass.now [] l c.reserve.new.self) (sym c.in_ok-replies.ensures.items)
    (through-starts asked c.args.pass.now c.reserve.new.self c.reserve.ensures.same) in
    search rules

pub loop-event-preserved : goal.loop-event-preserved
loop-event-preserved g c =
    let at = c.loop-event in
    let asked = IsAsked (g.G.Gate.lets c.args.gate.now) (g.G.Gate.sees c.args.gate.now) c.args.worker in (
      whole-next c.args.script.items at.yielded (into_iter_items at.event-iterator) (into_iter_items c.next.new.self) c.in-Some.event at.invariant.0 c.in-Some.ensures.steps.0,
      (
        subst (λ (l : List Reply). IsThrough asked c.args.pass.now (at.yielded ++ c.in-Some.event ∷ []) l c.run_call.new.pass)
            (sym c.push_reserved.ensures.items)
            (through-goes_on asked c.args.pass.now at.pass c.run_call.new.pass at.yielded at.replies.items c.in-Some.event
            c.in_ok-reply.reply at.invariant.1.0 c.in_ok-reply.ensures.called (subst asked (c.len-call.ensures ∙ at.replies.ok.0) c.in_ok-reply.ensures.asked)),
        grind arith,
      ),
    )
