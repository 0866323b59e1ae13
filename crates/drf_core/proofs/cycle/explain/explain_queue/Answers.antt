use Rattle.std.proofs.Common.{length, refl, sym, ap, ◌∙◌, arith}
use Rattle.drf_core.proofs.drafting.Told.{next_behind, none_behind, some_first}
use Rattle.drf_core.proofs.drafting.Turn.{queue_begins}
use Rattle.drf_core.proofs.cycle.explain.explain_queue.Goals as goal

pub loop-sorter-init : goal.loop-sorter-init
loop-sorter-init g c = record { content = refl; reported = λ clients rows a queued gates counted is_free named. (clients, queued, refl) }

pub loop-sorter-preserved : goal.loop-sorter-preserved
loop-sorter-preserved g c = record {
  content = c.pass.ensures.content ∙ c.loop-sorter.invariant.content;
  reported = λ clients rows a queued gates counted is_free named.
      let first = some_first (g.S.Sorter.queue c.loop-sorter.sorter) (sym c.has_next.ensures ∙ c.loop-sorter-test.true) in
      next_behind rows a clients _ _ _ _ _ first.0 first.1
      (c.in_ok-explain_first.ensures first.0 rows a first.1 gates counted is_free named) c.pass.ensures.queue
      (c.loop-sorter.invariant.reported clients rows a queued gates counted is_free named);
}

pub loop-sorter-smaller : goal.loop-sorter-smaller
loop-sorter-smaller g c =
    let queue = g.S.Sorter.queue c.loop-sorter.sorter in
    let first = some_first queue (sym c.has_next.ensures ∙ c.loop-sorter-test.true) in
    omega (arith, ap length (queue_begins queue first.0 first.1), ap length c.pass.ensures.queue)

pub returns-clause-reported : goal.returns-clause-reported
returns-clause-reported g c = λ clients rows a queued gates counted is_free named.
    none_behind rows a clients (g.S.Sorter.queue c.loop-sorter.sorter) _ _ (sym c.has_next.ensures ∙ c.loop-sorter-test.false)
    (c.loop-sorter.invariant.reported clients rows a queued gates counted is_free named)
