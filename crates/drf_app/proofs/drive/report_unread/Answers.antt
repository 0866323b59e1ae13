use Rattle.std.proofs.Common.{ℕ, List, subst}
use Rattle.drf_app.specs.Reported.{HasReportedUnread}
use Rattle.drf_app.proofs.drive.report_unread.Goals as goal

pub returns : goal.returns
returns g c =
    let before = g.E.Write.contents c.args.errors.now.inner in
    let after = g.E.Write.contents c.report_file.new.errors.inner in
    subst (λ (file : List ℕ). HasReportedUnread file c.report_file.result before after c.report_file.new.errors.failed) c.name_at.ensures c.report_file.ensures
