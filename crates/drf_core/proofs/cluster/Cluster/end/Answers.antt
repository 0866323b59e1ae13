use Rattle.std.proofs.Common.{sym, ap, ◌∙◌, length, arith}
use Rattle.drf_sorter.specs.Content.{with_change, refunded}
use Rattle.drf_rows.specs.Ended.{release_of}
use Rattle.drf_core.proofs.effects.Ended.{known-ended, held-ended, sorted-ended}
use Rattle.drf_core.proofs.effects.Once.{all_ended}
use Rattle.drf_core.proofs.stepping.Work.{losers-ended}
use Rattle.drf_core.proofs.cluster.Cluster.end.Goals as goal

pub refund-requires-clause-known : goal.refund-requires-clause-known
refund-requires-clause-known g c =
    rw c.from_parts-client.ensures
    (known-ended c.loop-taken.self-inside.tables.rows c.end.new.self.rows (release_of c.args.release) c.in-Some.taken c.in-Some.ensures.some
    (g.S.Sorter.content c.loop-taken.self-inside.sorter) c.loop-taken.invariant.sorted)

pub refund-requires-clause-held : goal.refund-requires-clause-held
refund-requires-clause-held g c =
    rw (c.from_parts-client.ensures, c.quantities.ensures.value)
    (held-ended c.loop-taken.self-inside.tables.rows c.end.new.self.rows (release_of c.args.release) c.in-Some.taken c.in-Some.ensures.some
    (g.S.Sorter.content c.loop-taken.self-inside.sorter) c.loop-taken.invariant.sorted)

pub loop-taken-preserved : goal.loop-taken-preserved
loop-taken-preserved g c =
    let content = g.S.Sorter.content c.loop-taken.self-inside.sorter in
    record {
      sorted =
          sorted-ended c.loop-taken.self-inside.tables.rows c.end.new.self.rows (release_of c.args.release) c.in-Some.taken c.in-Some.ensures.some
          content c.loop-taken.invariant.sorted (g.S.Sorter.content c.refund.new.self)
          (c.refund.ensures.content ∙ (λ i. with_change content (c.from_parts-client.ensures i) (refunded (c.quantities.ensures.value i))));
      work = λ counted. omega (
        arith,
        c.refund.ensures.spends.work counted,
        ap length c.from_parts-client.ensures,
        c.loop-taken.invariant.work counted,
        losers-ended c.loop-taken.self-inside.tables.rows c.end.new.self.rows (release_of c.args.release) c.in-Some.taken c.in-Some.ensures.some,
      );
      later = c.in-Some.ensures.some.later ∙ c.loop-taken.invariant.later;
      consistent = c.end.ensures.consistent;
      made = c.refund.ensures.spends.made ∙ c.loop-taken.invariant.made;
    }

-- one offer or task ended, and at most one is selected

pub invariant_of-self : goal.invariant_of-self
invariant_of-self g c =
    let content = g.S.Sorter.content c.loop-taken.self-inside.sorter in
    sorted-ended c.loop-taken.self-inside.tables.rows c.end.new.self.rows (release_of c.args.release) c.in-Some.taken c.in-Some.ensures.some
    content c.loop-taken.invariant.sorted (g.S.Sorter.content c.refund.new.self)
    (c.refund.ensures.content ∙ (λ i. with_change content (c.from_parts-client.ensures i) (refunded (c.quantities.ensures.value i))))

pub returns-then-is_one-clause-rows : goal.returns-then-is_one-clause-rows
returns-then-is_one-clause-rows g c =
    let once = c.is_one.ensures c.if-is_one.true c.loop-taken.self-inside.tables.rows c.loop-taken.invariant.consistent in
    rw (← c.self.view_is)
    (sym (all_ended c.loop-taken.self-inside.tables.rows c.end.new.self.rows (release_of c.args.release) c.in-Some.taken c.in-Some.ensures.some once)
    ∙ c.in-Some.ensures.some.later ∙ c.loop-taken.invariant.later)

pub returns-then-is_one-clause-spends : goal.returns-then-is_one-clause-spends
returns-then-is_one-clause-spends g c =
    rw (← c.self.view_is) (record {
      made = c.refund.ensures.spends.made ∙ c.loop-taken.invariant.made;
      work = λ counted. omega (
        arith,
        c.refund.ensures.spends.work counted,
        ap length c.from_parts-client.ensures,
        c.loop-taken.invariant.work counted,
        losers-ended c.loop-taken.self-inside.tables.rows c.end.new.self.rows (release_of c.args.release) c.in-Some.taken c.in-Some.ensures.some,
      );
    })

-- no selected offer or task is left

pub returns-clause-spends : goal.returns-clause-spends
returns-clause-spends g c =
    rw (← c.self.view_is) (record { made = c.loop-taken.invariant.made; work = λ counted. omega (arith, c.loop-taken.invariant.work counted) })
