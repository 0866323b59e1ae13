use Rattle.std.proofs.Common.{refl, ap, arith, inl, inr, sym, ◌∙◌, ◌≡◌, ◌+◌, ℕ, Bool, false, true, List, ◌⊎◌, length, slice_index_or, slice_set, get_or-set_other, length-set}
use Rattle.std.proofs.lemmas.Bool.{cases_eq, false≢true}
use Rattle.drf_tree.proofs.Names.{each_from, Content, ledger_content, Tree, Flags, marked_in, children_at, IsMarkedOrRight, IsTreeBut, IsTreeOf}
use Rattle.drf_tree.proofs.change.Tree.{shape_again}
use Rattle.drf_tree.proofs.marks.Flags.{down_at, marked_less, renewed_one, spends-both}
use Rattle.drf_tree.proofs.shape.Node.{live_within}
use Rattle.drf_tree.proofs.tree.Tree.repair.Goals as goal

module _ (content : Content) (tree : Tree) (of : IsTreeOf content tree) (marks : Flags) where
  abbrev stale : List Bool
  stale = tree.marks.stale

  -- the dirty flag of a node is cleared before its key is right
  one_down : (node : ℕ) → marks.stale ≡ slice_set stale node false → IsTreeBut node content (record tree { marks = marks })
  one_down node taken = record {
    paths = of.paths;
    distinct = of.distinct;
    shape = shape_again tree.places.items tree.families.items stale marks.stale tree.sums.items tree.sums.items of.shape (ap length taken ∙ length-set stale node false) refl
        (λ i up. elim (cases_eq i node) [
          | inl same ↦
              absurd (false≢true (sym (down_at stale node i same) ∙ ap (λ (fs : List Bool). slice_index_or fs i false) (sym taken) ∙ up))
          | inr other ↦
              of.shape.unmarked i (sym (get_or-set_other stale node i false false other)
              ∙ ap (λ (fs : List Bool). slice_index_or fs i false) (sym taken) ∙ up)
        ]);
    sums = of.sums;
    complete = of.complete;
    right = λ i.
        each_from (IsMarkedOrRight content tree.places.items stale i)
        (λ c. (c.node ≡ node) ⊎ IsMarkedOrRight content tree.places.items marks.stale i c)
        (children_at tree.families.items i)
        (λ c either. elim (cases_eq c.node node) [
          | inl same ↦ inl same
          | inr other ↦ inr (elim either [
            | inl up ↦
                inl (ap (λ (fs : List Bool). slice_index_or fs c.node false) taken
                ∙ get_or-set_other stale node c.node false false other ∙ up)
            | inr right ↦ inr right
          ])
        ]) (of.right i);
  }

  -- one flag fewer is set
  one_less : (node : ℕ) → slice_index_or stale node false ≡ true → marks.stale ≡ slice_set stale node false
      → marked_in marks.stale + 1 ≡ marked_in stale
  one_less node up taken =
      omega (
        arith,
        ap marked_in taken,
        marked_less stale node
            (omega (arith, live_within tree.places.items node (of.shape.unmarked node up), of.shape.stale_long)) up,
      )

pub renew-requires-clause-live : goal.renew-requires-clause-live
renew-requires-clause-live c = c.loop-node.invariant.tree.shape.unmarked c.in-Some.node c.in-Some.ensures.found

pub renew-requires-clause-tree : goal.renew-requires-clause-tree
renew-requires-clause-tree c =
    one_down (ledger_content c.args.ledger.now) c.loop-node.self c.loop-node.invariant.tree c.take.new.self c.in-Some.node
    (λ i. (c.in-Some.ensures.taken i).stale)

pub loop-node-smaller : goal.loop-node-smaller
loop-node-smaller c =
    omega (
      arith,
      one_less (ledger_content c.args.ledger.now) c.loop-node.self c.loop-node.invariant.tree c.take.new.self c.in-Some.node
          c.in-Some.ensures.found (λ i. (c.in-Some.ensures.taken i).stale),
      ap marked_in c.renew.ensures.stale,
    )

pub loop-node-preserved : goal.loop-node-preserved
loop-node-preserved c = record {
  tree = c.renew.ensures.tree;
  places = c.renew.ensures.places ∙ c.loop-node.invariant.places;
  spends = spends-both c.loop-node.invariant.spends
      (renewed_one c.loop-node.self.marks c.take.new.self c.renew.new.self.marks (λ i. (c.in-Some.ensures.taken i).made)
      (one_less (ledger_content c.args.ledger.now) c.loop-node.self c.loop-node.invariant.tree c.take.new.self c.in-Some.node
      c.in-Some.ensures.found (λ i. (c.in-Some.ensures.taken i).stale))
      c.renew.ensures.made c.renew.ensures.no_less c.renew.ensures.stale);
}
