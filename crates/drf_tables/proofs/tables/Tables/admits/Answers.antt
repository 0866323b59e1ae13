use Rattle.std.proofs.Common.{◌≡◌, Some, None, sym, ap, subst, ◌∙◌}
use Rattle.drf_tables.proofs.tables.Names.{Rows, quota_under, CountsAll, Stored}
use Rattle.drf_tables.proofs.limits.Counts.{admits-unlimited, allowance-counted, none-unlimited}
use Rattle.drf_tables.proofs.tables.Tables.admits.Goals as goal

pub returns-in-Some : goal.returns-in-Some
returns-in-Some c =
    let rows : Rows = c.args.self.now.rows in
    let counts : CountsAll rows c.self.inside.consumption = subst (λ (s : Stored). CountsAll s.rows c.self.inside.consumption) c.self.view_is c.self.invariant.consumed in
    let is : quota_under rows.limits c.self.inside.consumption ≡ Some c.in-Some.quota =
    ap (quota_under rows.limits) (sym c.as_ref.ensures.value) ∙ sym c.quota_under.ensures ∙ c.in-Some.is in
    c.admits.ensures.of_rows rows (allowance-counted rows c.self.inside.consumption c.in-Some.quota counts is)

pub returns-in-None : goal.returns-in-None
returns-in-None c =
    let rows : Rows = c.args.self.now.rows in
    let none : quota_under rows.limits c.self.inside.consumption ≡ None =
    ap (quota_under rows.limits) (sym c.as_ref.ensures.value) ∙ sym c.quota_under.ensures ∙ c.in-None.is in
    admits-unlimited rows c.args.role.now c.args.amounts.now
    (none-unlimited rows.limits c.self.inside.consumption c.args.self.now.counted none (ap (λ (s : Stored). s.counted) c.self.view_is) c.requires)
