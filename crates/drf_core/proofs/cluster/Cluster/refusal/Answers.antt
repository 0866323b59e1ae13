use Rattle.std.proofs.Common.{◌≡◌, ◌≤◌, None, length, subst, sym, ap, ◌∙◌}
use Rattle.std.proofs.lemmas.Result.{on_err_weaker}
use Rattle.drf_rows.specs.declared.rows.Rows.{Rows}
use Rattle.drf_sorter.specs.Content.{IsSame}
use Rattle.drf_content.specs.Content.{content_of}
use Rattle.drf_content.proofs.theorems.Changed.{content_of-filters}
use Rattle.drf_core.specs.Cluster.{ClusterState}
use Rattle.drf_core.specs.Keeping.{IsStanding}
use Rattle.drf_core.specs.refusal.Cases.{early_refusal_of}
use Rattle.drf_core.proofs.stepping.Filters.{few_filters}
use Rattle.drf_core.proofs.stepping.Saveable.{standing_forgot}
use Rattle.drf_core.proofs.stepping.Step.{early_from}
use Rattle.drf_core.proofs.cluster.Cluster.refusal.Goals as goal

pub refusal-requires-clause-few : goal.refusal-requires-clause-few
refusal-requires-clause-few g c =
    (standing_forgot c.args.limits.now c.self.inside.tables.rows c.forget_spent.new.self.rows
    (subst (λ (m : ClusterState). IsStanding c.args.limits.now m.rows) (sym c.self.view_is) c.requires)
    c.forget_spent.ensures.live c.forget_spent.ensures.others c.forget_spent.ensures.consistent).kept.few

pub invariant_of-self : goal.invariant_of-self
invariant_of-self g c =
    subst (IsSame _) (sym (ap content_of (c.refusal.ensures.same ∙ c.forget_spent.ensures.others)
    ∙ content_of-filters c.self.inside.tables.rows c.forget_spent.new.self.rows.filters)) c.self.invariant

pub returns-clause-standing : goal.returns-clause-standing
returns-clause-standing g c =
    subst (λ (r : Rows). IsStanding c.args.limits.now r) (sym c.refusal.ensures.same)
    (standing_forgot c.args.limits.now c.self.inside.tables.rows c.forget_spent.new.self.rows
    (subst (λ (m : ClusterState). IsStanding c.args.limits.now m.rows) (sym c.self.view_is) c.requires)
    c.forget_spent.ensures.live c.forget_spent.ensures.others c.forget_spent.ensures.consistent)

pub returns-clause-filters : goal.returns-clause-filters
returns-clause-filters g c =
    let standing =
    standing_forgot c.args.limits.now c.self.inside.tables.rows c.forget_spent.new.self.rows
    (subst (λ (m : ClusterState). IsStanding c.args.limits.now m.rows) (sym c.self.view_is) c.requires)
    c.forget_spent.ensures.live c.forget_spent.ensures.others c.forget_spent.ensures.consistent in
    subst (λ (r : Rows). length r.filters ≤ 65536) (sym c.refusal.ensures.same)
    (few_filters c.args.limits.now c.forget_spent.new.self.rows standing.kept.few.ceilings standing.saveable.within c.forget_spent.ensures.swept)

pub returns-clause-early : goal.returns-clause-early
returns-clause-early g c =
    on_err_weaker c.refusal.result
    (λ early. subst (λ (m : ClusterState). early_refusal_of c.args.limits.now m.rows c.args.event.now ≡ None) c.self.view_is
    (early_from c.args.limits.now c.forget_spent.new.self.rows c.self.inside.tables.rows c.args.event.now c.forget_spent.ensures.live early))
    c.refusal.ensures.early
