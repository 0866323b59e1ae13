use Rattle.std.proofs.Common.{List, Option, map, ap, ◌∙◌, arith}
use Rattle.std.proofs.lemmas.List.{take_all}
use Rattle.drf_rows.specs.declared.rows.FilterRow.{FilterRow}
use Rattle.drf_gates.specs.filters.Index.{slot_hash}
use Rattle.drf_gates.proofs.filters.Held.{indexed-anew}
use Rattle.drf_gates.proofs.filters.index.Index.rebuild_if_less.Goals as goal

pub returns : goal.returns
returns c =
    let index = c.args.self.now in
    let inv = c.loop-slot.invariant in
    indexed-anew index.start c.args.key c.args.rows.now c.loop-slot.self inv.tidy
    (inv.hashes ∙ ap (λ (rows : List (Option FilterRow)). map (slot_hash index.start c.args.key) rows) (take_all c.loop-slot.slot-index c.args.rows.now c.loop-slot-test.false))
    inv.start (omega (arith, inv.heads, c.requires.at_most, c.requires.indexed.marked.enough))
