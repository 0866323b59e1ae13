use Rattle.std.proofs.Common.{◌≡◌, ap, ◌∙◌, length, arith}
use Rattle.drf_role.specs.Path.{client_path}
use Rattle.drf_bundle.specs.Bundle.{quantities_of}
use Rattle.drf_rows.specs.Offers.{left_of_offer}
use Rattle.drf_rows.specs.declared.rows.Rows.{Rows}
use Rattle.drf_holdings.specs.declared.holdings.Taken.{Taken}
use Rattle.drf_sorter.proofs.theorems.SpendLaws.{defers-on_ok, defers-within}
use Rattle.drf_core.proofs.effects.Accepted.{known-accepted, held-accepted, sorted-accepted, effect-accept}
use Rattle.drf_core.proofs.stepping.Work.{nodes_of-offer}
use Rattle.drf_core.proofs.cluster.Cluster.accept.Goals as goal

pub accept-requires-clause-can : goal.accept-requires-clause-can
accept-requires-clause-can g c = rw (← c.self.view_is) at c.requires.can

pub refund-requires-clause-known : goal.refund-requires-clause-known
refund-requires-clause-known g c =
    let rows : Rows = c.self.inside.tables.rows in
    let a = c.args.accept in
    let may = rw (← c.self.view_is) at c.requires.can in
    let same = c.in_ok-taken.ensures.taken may.offer may.at in
    let path = c.from_parts-client.ensures ∙ ap (λ (t : Taken). client_path t.role t.framework) same in
    let quantities : c.quantities.result.now ≡ quantities_of (left_of_offer may.offer a.tasks) = c.quantities.ensures.value ∙ ap (λ (t : Taken). quantities_of t.bundle) same in
    known-accepted rows a.offer may.offer a.tasks a.at a.refuse_ms (g.S.Sorter.content c.self.inside.sorter) c.from_parts-client.result c.quantities.result.now
    (rw (← c.self.view_is) at c.requires.consistent) c.self.invariant may.at c.in_ok-taken.ensures.bundles may.can path quantities

pub refund-requires-clause-held : goal.refund-requires-clause-held
refund-requires-clause-held g c =
    let rows : Rows = c.self.inside.tables.rows in
    let a = c.args.accept in
    let may = rw (← c.self.view_is) at c.requires.can in
    let same = c.in_ok-taken.ensures.taken may.offer may.at in
    let path = c.from_parts-client.ensures ∙ ap (λ (t : Taken). client_path t.role t.framework) same in
    let quantities : c.quantities.result.now ≡ quantities_of (left_of_offer may.offer a.tasks) = c.quantities.ensures.value ∙ ap (λ (t : Taken). quantities_of t.bundle) same in
    held-accepted rows a.offer may.offer a.tasks a.at a.refuse_ms (g.S.Sorter.content c.self.inside.sorter) c.from_parts-client.result c.quantities.result.now
    (rw (← c.self.view_is) at c.requires.consistent) c.self.invariant may.at c.in_ok-taken.ensures.bundles may.can path quantities

pub invariant_of-self-2 : goal.invariant_of-self-2
invariant_of-self-2 g c =
    let rows : Rows = c.self.inside.tables.rows in
    let a = c.args.accept in
    let may = rw (← c.self.view_is) at c.requires.can in
    let same = c.in_ok-taken.ensures.taken may.offer may.at in
    let path = c.from_parts-client.ensures ∙ ap (λ (t : Taken). client_path t.role t.framework) same in
    let quantities : c.quantities.result.now ≡ quantities_of (left_of_offer may.offer a.tasks) = c.quantities.ensures.value ∙ ap (λ (t : Taken). quantities_of t.bundle) same in
    sorted-accepted rows a.offer may.offer a.tasks a.at a.refuse_ms (g.S.Sorter.content c.self.inside.sorter) c.from_parts-client.result c.quantities.result.now
    (rw (← c.self.view_is) at c.requires.consistent) c.self.invariant may.at c.in_ok-taken.ensures.bundles may.can path quantities
    c.accept.new.self.rows (g.S.Sorter.content c.refund.new.self) (c.in_ok-taken.ensures.ok may.offer may.at) c.refund.ensures.content

pub returns-clause-ok : goal.returns-clause-ok
returns-clause-ok g c = rw (← c.self.view_is) (
    let may = rw (← c.self.view_is) at c.requires.can in
    effect-accept c.self.inside.tables.rows c.accept.new.self.rows c.args.accept may.offer may.at (c.in_ok-taken.ensures.ok may.offer may.at))

pub returns-clause-spends : goal.returns-clause-spends
returns-clause-spends g c =
    let may = rw (← c.self.view_is) at c.requires.can in
    rw (← c.self.view_is) (defers-on_ok _ (defers-within c.refund.ensures.spends
    (omega (
      arith,
      ap length c.from_parts-client.ensures,
      ap (λ (t : Taken). length (client_path t.role t.framework)) (c.in_ok-taken.ensures.taken may.offer may.at),
      nodes_of-offer c.self.inside.tables.rows c.args.accept.offer may.offer may.at,
    ))))
