use Rattle.std.proofs.Common.{◌≡◌, ◌==◌, ◌∙◌, ℕ, ap, arith, inl, inr, subst, sym, true, take_all}
use Rattle.std.specs.List.{list_any}
use Rattle.drf_tree.proofs.Names.{Path, has_node, ledger_content, is_live, path_at}
use Rattle.drf_sorter.specs.Lines.{AreLinesOf, has_line}
use Rattle.drf_tree.proofs.lines.Nodes.{node_of}
use Rattle.drf_tree.proofs.lines.Numbers.{prefix_parts}
use Rattle.drf_tree.proofs.shape.Node.{live_within}
use Rattle.drf_tree.proofs.tree.Tree.lines.Goals as goal

pub loop-node-preserved : goal.loop-node-preserved
loop-node-preserved c =
    let content = ledger_content c.args.ledger.now in
    let places = c.args.self.now.places.items in
    record {
      each = c.in_ok-put_line.ensures.each;
      every = λ i some live has.
          elim (prefix_parts c.deref-node-items.result.now c.loop-node.node-index i c.loop-node-test.true some) [
            | inl before ↦
                c.in_ok-put_line.ensures.stay (path_at places i) (c.loop-node.invariant.every i before live has)
            | inr last ↦
                subst (λ (n : ℕ). has_line c.put_line.new.lines (path_at places n) ≡ true) last
                (c.in_ok-put_line.ensures.put (subst (λ (n : ℕ). is_live places n ≡ true) (sym last) live)
                (subst (λ (n : ℕ). has_node content (path_at places n) ≡ true) (sym last) has))
          ];
    }

pub returns : goal.returns
returns c =
    let content = ledger_content c.args.ledger.now in
    let tree = c.args.self.now in
    let items = c.deref-node-items.result.now in
    subst (AreLinesOf content) (sym c.into_vec.ensures.lines) (record {
      each = c.loop-node.invariant.each;
      every = λ path some has.
          let node = node_of content tree c.requires.tree path has some in
          subst (λ (p : Path). has_line c.loop-node.lines p ≡ true) node.2
          (c.loop-node.invariant.every node.0
          (ap (list_any (λ n. n == node.0)) (take_all c.loop-node.node-index items (omega (arith, c.loop-node-test.false))
          ∙ c.deref-node-items.ensures.value)
          ∙ c.in_ok-order.ensures node.0 (live_within tree.places.items node.0 node.1))
          node.1 (subst (λ (p : Path). has_node content p ≡ true) (sym node.2) has));
      in_order = c.into_vec.ensures.in_order;
    })
