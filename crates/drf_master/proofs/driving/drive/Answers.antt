use Rattle.std.proofs.Common.{◌≡◌, ℕ, List, Result, Ok, Err, IfOk, sym, subst}
use Rattle.std.proofs.lemmas.Result.{IfErr-weaker}
use Rattle.std.specs.Global.{Vec}
use Rattle.drf_rows.specs.LimitNumbers.{LimitNumbers}
use Rattle.drf_rows.specs.declared.event.Event.{Event}
use Rattle.drf_rows.specs.declared.reply.Reply.{Reply}
use Rattle.drf_rows.specs.declared.rows.Rows.{Rows}
use Rattle.drf_master.specs.Closing.{IsClosed}
use Rattle.drf_master.specs.Receipts.{Held}
use Rattle.drf_master.specs.Scripts.{HasDriven, HaveAllRun, IsAsked, IsRefused, IsUndriven}
use Rattle.drf_master.specs.declared.driving.Driven.{Driven}
use Rattle.drf_master.specs.declared.driving.Undriven.{Undriven}
use Rattle.drf_master.proofs.Scripts.{drive-refused, has-driven}
use Rattle.drf_master.proofs.driving.drive.Goals as goal

driven-of : {K : Type 0} (given : LimitNumbers) (start : Rows) (asked : ℕ → ℕ → Type 0) (key : ℕ) (own : List Held) (scripts : List (Vec Event)) (done : List Held)
    (replies : Vec (Vec Reply)) (r : Result (Driven K) (Undriven K)) → HaveAllRun asked key own scripts done replies.items
    → IfOk r (λ driven. IsClosed given start driven.book key done) → IfOk r (λ driven. driven.replies ≡ replies)
    → IfOk r (λ driven. HasDriven own scripts driven.replies.items driven.book.entries)
driven-of given start asked key own scripts done replies (Ok driven) all closed same =
    subst (λ (told : Vec (Vec Reply)). HasDriven own scripts told.items driven.book.entries) (sym same)
    (has-driven asked key own scripts done replies.items driven.book.entries all closed.shuffle)
driven-of given start asked key own scripts done replies (Err fault) all closed same = tt

pub returns-in-Ok-clause-driven : goal.returns-in-Ok-clause-driven
returns-in-Ok-clause-driven g c =
    let asked = IsAsked (g.G.Gate.lets c.args.gate.now) (g.G.Gate.sees c.args.gate.now) in
    driven-of g.K.Naming.slate.limits g.K.Naming.start asked c.args.master.key c.args.passes.items c.args.scripts.items c.in-Ok.passes.items c.in-Ok.replies
    c.close_driven.result c.in-Ok.ensures.run c.close_driven.ensures.closed c.close_driven.ensures.replies

pub returns-in-Ok-clause-undriven : goal.returns-in-Ok-clause-undriven
returns-in-Ok-clause-undriven g c =
    let given = g.K.Naming.slate.limits in
    let start = g.K.Naming.start in
    let key = c.args.master.key in
    let asked = IsAsked (g.G.Gate.lets c.args.gate.now) (g.G.Gate.sees c.args.gate.now) in
    let stops = g.G.Gate.stops c.args.gate.now in
    IfErr-weaker c.close_driven.result (IsRefused given start key c.in-Ok.passes.items) (IsUndriven given start asked stops key c.args.passes.items c.args.scripts.items)
    (λ refused is. drive-refused given start asked stops key c.args.passes.items c.args.scripts.items c.in-Ok.passes.items c.in-Ok.replies.items c.in-Ok.ensures.run refused is)
    c.close_driven.ensures.refused
