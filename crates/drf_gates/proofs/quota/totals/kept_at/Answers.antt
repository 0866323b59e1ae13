use Rattle.std.proofs.Common.{sym, ap, subst, ◌∙◌}
use Rattle.std.proofs.lemmas.Bool.{not-false}
use Rattle.drf_role.specs.Path.{Path, same_path}
use Rattle.drf_role.specs.PathLaws.{same_path-true}
use Rattle.drf_role.specs.Role.{IsRole}
use Rattle.drf_gates.specs.quota.Allowance.{used_at}
use Rattle.drf_gates.proofs.quota.Total.{kept_is}
use Rattle.drf_gates.proofs.quota.totals.kept_at.Goals as goal

pub returns : goal.returns
returns c = λ used exact.
    let outer = c.in_ok-outer.outer.now in
    let same = same_path-true outer c.args.role.now (not-false (same_path outer c.args.role.now) (sym c.ne.ensures ∙ c.if-ne.false)) in
    c.get.ensures
    ∙ kept_is used c.args.totals.now.entries outer c.in_ok-outer.total.now c.args.label.now (subst IsRole (sym same) c.recall.ensures.right) c.in_ok-outer.ensures.value c.if-not-total.false exact.exact
    ∙ ap (λ (r : Path). used_at used r c.args.label.now) same
