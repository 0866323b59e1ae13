use Rattle.std.proofs.Common.{sym, ap, ◌∙◌}
use Rattle.std.specs.Borrow.{Bor}
use Rattle.std.specs.Prelude.{not}
use Rattle.drf_explain.specs.declared.finding.Finding.{Finding}
use Rattle.drf_rows.specs.Offers.{is_empty}
use Rattle.drf_why.specs.Passers.{taker_in}
use Rattle.drf_why.proofs.PassersFound.{borrowed-takers}
use Rattle.drf_why.proofs.Passed.{any_client}
use Rattle.drf_why.proofs.taking.has_taker.Goals as goal

pub returns : goal.returns
returns c =
    c.any_taker.ensures
    ∙ any_client (λ (f : Bor Finding). taker_in c.args.bundle.now f.now) c.args.findings.now
    ∙ ap (λ paths. not (is_empty paths)) (sym (borrowed-takers c.args.bundle.now c.args.findings.now))
