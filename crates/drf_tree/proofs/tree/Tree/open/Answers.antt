use Rattle.std.proofs.Common.{◌++◌, ◌∷◌, [], List, Option, None, false, length, length-append, ap, ◌∙◌, arith}
use Rattle.drf_tree.proofs.Names.{Family, Place, Sum, children_at}
use Rattle.drf_tree.proofs.shape.Root.{opened, opened_tidy}
use Rattle.drf_tree.proofs.tree.Tree.open.Goals as goal

pub returns-clause-tree : goal.returns-clause-tree
returns-clause-tree c =
    let e = c.in_ok-push.ensures in
    opened c.push.new.self
    (e.places ∙ ap (λ (ps : List (Option Place)). ps ++ None ∷ []) c.new.ensures)
    (λ i. e.families i ∙ ap (λ (fs : List Family). children_at fs i) c.new-3.ensures.items)
    (omega (arith, e.families_long, ap length c.new-3.ensures.items))
    ((λ i. (e.marks i).stale) ∙ (λ i. (c.new-4.ensures i).stale ++ false ∷ []))
    (omega (arith, ap (λ (ss : List Sum). length ss) e.sums, length-append {A = Sum}, ap (λ (ss : List Sum). length ss) c.new-2.ensures.items))

pub returns-clause-tidy : goal.returns-clause-tidy
returns-clause-tidy c =
    let e = c.in_ok-push.ensures in
    opened_tidy c.push.new.self
    (e.places ∙ ap (λ (ps : List (Option Place)). ps ++ None ∷ []) c.new.ensures)
    (λ i. e.families i ∙ ap (λ (fs : List Family). children_at fs i) c.new-3.ensures.items)
    (omega (arith, e.families_long, ap length c.new-3.ensures.items))
    ((λ i. (e.marks i).stale) ∙ (λ i. (c.new-4.ensures i).stale ++ false ∷ []))
    (omega (arith, ap (λ (ss : List Sum). length ss) e.sums, length-append {A = Sum}, ap (λ (ss : List Sum). length ss) c.new-2.ensures.items))
