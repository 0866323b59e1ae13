use Rattle.std.proofs.Common.{◌+◌, length, drop, refl, sym, ap, subst, ◌∙◌, arith}
use Rattle.std.proofs.lemmas.Option.{slice_get_read}
use Rattle.drf_sorter.specs.Content.{Content}
use Rattle.drf_content.specs.Registering.{AreKnown, without_all}
use Rattle.drf_core.proofs.effects.Known.{first_known}
use Rattle.drf_core.proofs.stepping.Work.{sum_at}
use Rattle.drf_core.proofs.events.frameworks.remove_clients.Goals as goal

pub remove-requires : goal.remove-requires
remove-requires g c =
    let paths = c.args.paths.now in
    let i = c.loop-path.path-index in
    let at = slice_get_read paths (length paths) i c.path-item.result refl c.loop-path-test.true c.path-item.is in
    (first_known (g.S.Sorter.content c.loop-path.sorter) paths i c.path-item.result c.loop-path-test.true at c.loop-path.invariant.known).known

pub loop-path-preserved : goal.loop-path-preserved
loop-path-preserved g c =
    let paths = c.args.paths.now in
    let i = c.loop-path.path-index in
    let at = slice_get_read paths (length paths) i c.path-item.result refl c.loop-path-test.true c.path-item.is in
    let first = first_known (g.S.Sorter.content c.loop-path.sorter) paths i c.path-item.result c.loop-path-test.true at c.loop-path.invariant.known in
    record {
      known = subst (λ (k : Content). AreKnown k (drop (i + 1) paths)) (sym c.remove.ensures.content) first.later;
      work = λ counted. omega (arith, sum_at length paths i c.path-item.result c.loop-path-test.true at, c.remove.ensures.spends.work counted, c.loop-path.invariant.work counted);
      removed = ap (λ (k : Content). without_all k (drop (i + 1) paths)) c.remove.ensures.content ∙ sym first.same ∙ c.loop-path.invariant.removed;
      made = c.remove.ensures.spends.made ∙ c.loop-path.invariant.made;
    }

pub returns-clause-spends : goal.returns-clause-spends
returns-clause-spends g c = record { made = c.loop-path.invariant.made; work = λ counted. omega (arith, c.loop-path.invariant.work counted) }
