use Rattle.std.proofs.Common.{get_or, length, ap, ◌∙◌, arith}
use Rattle.indexmap.specs.IndexMap.{set_value_at}
use Rattle.drf_hash.proofs.FreeSlotLaws.{length-moved, moved-all, moved-more}
use Rattle.drf_hash.proofs.free_slots.move_all.Goals as goal

pub index-requires : goal.index-requires
index-requires g c =
    let old = c.args.places.now.entries in
    let many = ap length c.loop-at.invariant ∙ length-moved (λ i. get_or c.args.ranks.now i 0) c.loop-at.at old in
    let all = c.len-at-end.ensures.len in
    let below = c.loop-at-test.true in
    omega (arith, many, all, below)

pub index_mut-requires : goal.index_mut-requires
index_mut-requires g c =
    let old = c.args.places.now.entries in
    let many = ap length c.loop-at.invariant ∙ length-moved (λ i. get_or c.args.ranks.now i 0) c.loop-at.at old in
    let all = c.len-at-end.ensures.len in
    let below = c.loop-at-test.true in
    omega (arith, many, all, below)

pub loop-at-preserved : goal.loop-at-preserved
loop-at-preserved g c =
    ap (set_value_at c.loop-at.places.entries c.loop-at.at) c.moved-place.ensures
    ∙ moved-more (λ i. get_or c.args.ranks.now i 0) c.loop-at.at c.args.places.now.entries c.loop-at.places.entries c.index.result.now c.loop-at.invariant c.index.ensures

pub returns : goal.returns
returns g c =
    let old = c.args.places.now.entries in
    let all = c.len-at-end.ensures.len in
    let end = c.loop-at-test.false in
    c.loop-at.invariant ∙ moved-all (λ i. get_or c.args.ranks.now i 0) c.loop-at.at old (omega (arith, all, end))
