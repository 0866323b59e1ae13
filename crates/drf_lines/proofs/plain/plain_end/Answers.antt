use Rattle.std.proofs.Common.{◌≡◌, ◌+◌, ◌<◌, map, sym, ap, subst, arith}
use lib.Count.{count_trailing_zeros}
use lib.Lanes.{chunk, mask_l}
use Rattle.json.specs.Run.{is_stop}
use Rattle.drf_lines.specs.Written.{ArePlainFrom}
use Rattle.drf_lines.proofs.Lanes.{none_between, more_between, bit_within, plain_before_bit, plain_where_none}
use Rattle.drf_lines.proofs.plain.plain_end.Goals as goal

pub loop-i-init : goal.loop-i-init
loop-i-init c = (omega arith, omega arith, none_between _ c.args.from)

pub returns-then-found-ne0-clause-bound : goal.returns-then-found-ne0-clause-bound
returns-then-found-ne0-clause-bound c =
    let d = c.args.bytes.now in
    let l = c.loop-i in
    let some : 0 < mask_l (map is_stop (chunk l.i 16 d)) = omega (arith, c.stops_16-found.ensures) in
    let count = ap (count_trailing_zeros 64) c.stops_16-found.ensures in
    let few = bit_within d l.i 16 (omega arith) (omega arith) some in
    (omega (arith, l.invariant.0), omega (arith, count, few))

pub returns-then-found-ne0-clause-plain : goal.returns-then-found-ne0-clause-plain
returns-then-found-ne0-clause-plain c =
    let d = c.args.bytes.now in
    let l = c.loop-i in
    let some : 0 < mask_l (map is_stop (chunk l.i 16 d)) = omega (arith, c.stops_16-found.ensures) in
    let count = ap (count_trailing_zeros 64) c.stops_16-found.ensures in
    subst (λ n. ArePlainFrom d c.args.from (l.i + n)) (sym count) (more_between _ c.args.from l.i _ l.invariant.2 (plain_before_bit d l.i 16 (omega arith) (omega arith) some))

pub loop-i-preserved : goal.loop-i-preserved
loop-i-preserved c =
    let d = c.args.bytes.now in
    let l = c.loop-i in
    let none : mask_l (map is_stop (chunk l.i 16 d)) ≡ 0 = omega (arith, c.stops_16-found.ensures) in
    (omega (arith, l.invariant.0), omega arith, more_between _ c.args.from l.i (l.i + 16) l.invariant.2 (plain_where_none d l.i 16 (omega arith) none))

pub returns-clause-bound : goal.returns-clause-bound
returns-clause-bound c = (omega (arith, c.loop-i.invariant.0), omega arith)

pub returns-clause-plain : goal.returns-clause-plain
returns-clause-plain c = more_between _ c.args.from c.loop-i.i _ c.loop-i.invariant.2 c.plain_end_slowly.ensures.plain
