use Rattle.std.proofs.Common.{◌≡◌, length, refl, sym, ap, ◌∙◌, arith, true}
use Rattle.std.specs.Bool.{◌==◌}
use Rattle.std.proofs.lemmas.Option.{slice_get_read}
use Rattle.drf_tree.proofs.Names.{Family, Sum}
use Rattle.drf_tree.proofs.shape.Node.{live_within}
use Rattle.drf_tree.proofs.shape.Name.{bare_is, bare_out, bare_then}
use Rattle.drf_tree.proofs.tree.Tree.is_bare.Goals as goal

pub returns-then-index-eq0 : goal.returns-then-index-eq0
returns-then-index-eq0 c =
    let t = c.args.self.now in
    let s : Sum = c.index.result.now in
    let f : Family = c.index-then-index-eq0.result.now in
    let within = live_within t.places.items c.args.node c.requires.node in
    let none : (s.clients == 0) ≡ true = ap (λ n. n == 0) c.if-index-eq0.true in
    c.is_empty.ensures
    ∙ ap (λ cs. length cs == 0) c.children.ensures
    ∙ sym (bare_then (s.clients == 0) (length f.children.items == 0) none)
    ∙ sym (bare_is t c.args.node s f
    (slice_get_read t.sums.items (length t.sums.items) c.args.node s refl (omega (arith, within, c.requires.shape.sums_long)) c.index.ensures)
    (slice_get_read t.families.items (length t.families.items) c.args.node f refl (omega (arith, within, c.requires.shape.families_long)) c.index-then-index-eq0.ensures))

pub returns-else-index-eq0 : goal.returns-else-index-eq0
returns-else-index-eq0 c =
    let t = c.args.self.now in
    let s : Sum = c.index.result.now in
    let within = live_within t.places.items c.args.node c.requires.node in
    bare_out t c.args.node s
    (slice_get_read t.sums.items (length t.sums.items) c.args.node s refl (omega (arith, within, c.requires.shape.sums_long)) c.index.ensures)
    c.if-index-eq0.false
