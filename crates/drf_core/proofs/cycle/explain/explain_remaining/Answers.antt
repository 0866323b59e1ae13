use Rattle.std.proofs.Common.{◌++◌, List, sym, ap, ◌∙◌}
use Rattle.std.proofs.lemmas.Result.{on_ok_weaker}
use Rattle.drf_explain.specs.declared.finding.Finding.{Finding}
use Rattle.drf_core.specs.cycle.Explaining.{left_reported, reported_by}
use Rattle.drf_core.proofs.drafting.Told.{behind-counted, behind-each}
use Rattle.drf_core.proofs.cycle.explain.explain_remaining.Goals as goal

pub returns-then-each-clause-reported : goal.returns-then-each-clause-reported
returns-then-each-clause-reported g c =
    let old : List Finding = c.args.findings.now.items in
    let queue = g.S.Sorter.queue c.args.sorter.now in
    on_ok_weaker c.explain_queue.result
    (λ reported clients rows a queued gates counted is_free named over.
    reported clients rows a queued gates counted is_free named
    ∙ ap (λ (fs : List Finding). old ++ fs) (behind-each rows a queue c.args.free.now over is_free clients queued)
    ∙ ap (λ b. old ++ reported_by b rows a clients) (sym c.if-each.true))
    c.explain_queue.ensures.reported

pub returns-clause-reported : goal.returns-clause-reported
returns-clause-reported g c =
    let old : List Finding = c.args.findings.now.items in
    let queue = g.S.Sorter.queue c.args.sorter.now in
    on_ok_weaker c.count_untried.result
    (λ reported clients rows a queued gates counted is_free named over.
    reported
    ∙ ap (λ n. old ++ left_reported n c.args.free.now c.args.waiting) named
    ∙ ap (λ (fs : List Finding). old ++ fs) (behind-counted rows a queue c.args.free.now over is_free clients c.args.waiting queued c.requires)
    ∙ ap (λ b. old ++ reported_by b rows a clients) (sym c.if-each.false))
    c.count_untried.ensures
