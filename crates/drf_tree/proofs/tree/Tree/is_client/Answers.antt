use Rattle.std.proofs.Common.{Some, ap, sym, ◌∙◌}
use Rattle.drf_tree.proofs.Names.{Path, same_path-true}
use Rattle.drf_tree.proofs.tree.Tree.is_client.Goals as goal

pub returns-in-Some : goal.returns-in-Some
returns-in-Some c same =
    sym c.in-Some.ensures
    ∙ ap (λ (p : Path). Some p) (same_path-true c.in-Some.client.now c.args.path.now (sym c.eq.ensures ∙ same))
