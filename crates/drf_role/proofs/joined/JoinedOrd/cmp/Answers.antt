use Rattle.std.proofs.Common.{◌≤◌, ◌⊎◌, length, sym, refl, ◌∙◌, ap, arith, nat_cmp}
use Rattle.std.specs.Ordering.{is_ne}
use Rattle.std.specs.Cmp.Lexicographic.{slice_cmp}
use Rattle.drf_role.proofs.OrderLemmas.{differ, path_cmp_differs, path_cmp_more, path_cmp_end}
use Rattle.drf_role.proofs.joined.JoinedOrd.cmp.Goals as goal

pub returns-then-ne : goal.returns-then-ne
returns-then-ne c =
    let part = c.part-part.result.now in
    let its = c.part-its.result.now in
    path_cmp_differs c.args.self.now c.args.other.now c.loop-i.i part its c.cmp.result c.part-part.ensures c.part-its.ensures c.cmp.ensures (ap is_ne c.cmp.ensures ∙ differ part its ∙ sym c.if-ne.ensures)
    ∙ c.loop-i.invariant

pub loop-i-preserved : goal.loop-i-preserved
loop-i-preserved c =
    let part = c.part-part.result.now in
    let its = c.part-its.result.now in
    path_cmp_more c.args.self.now c.args.other.now c.loop-i.i part its (slice_cmp nat_cmp part its) c.part-part.ensures c.part-its.ensures refl (differ part its ∙ sym c.if-ne.ensures)
    ∙ c.loop-i.invariant

pub returns : goal.returns
returns c =
    let ended : (length c.args.self.now ≤ c.loop-i.i) ⊎ (length c.args.other.now ≤ c.loop-i.i) = grind arith in
    c.cmp-2.ensures
    ∙ ap (λ n. nat_cmp n c.len-4.result) c.len-3.ensures
    ∙ ap (nat_cmp (length c.args.self.now)) c.len-4.ensures
    ∙ path_cmp_end c.args.self.now c.args.other.now c.loop-i.i (omega arith) (omega arith) ended
    ∙ c.loop-i.invariant
