use Rattle.std.proofs.Common.{ℕ, List, refl, subst, inl, ◌∙◌}
use Rattle.drf_app.specs.Reported.{IsReported}
use Rattle.drf_app.proofs.unread.report_unread.Goals as goal

pub returns-in-Ok : goal.returns-in-Ok
returns-in-Ok g c =
    let before = g.E.Write.contents c.args.errors.now.inner in
    let after = g.E.Write.contents c.report_bytes.new.errors.inner in
    let reported = subst (λ (text : List ℕ). IsReported text before after c.report_bytes.new.errors.failed) (c.deref.ensures.value ∙ c.in-Ok.ensures) c.report_bytes.ensures in
    inl (refl, reported)
