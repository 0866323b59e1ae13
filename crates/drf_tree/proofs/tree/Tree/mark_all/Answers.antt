use Rattle.std.specs.Option.{option_map_or}
use Rattle.std.proofs.Common.{refl, subst, sym, ◌∙◌, inl, inr, ◌≡◌, List, false, slice_get}
use Rattle.std.proofs.lemmas.Bool.{and_parts, cases_Bool}
use Rattle.drf_tree.proofs.Names.{Entry, Path, each_from_both, key_by, Sum, child_name, children_at, holds_any, is_holding, is_live, path_at, IsChildOf, IsMarkedOrRight, IsSumOf}
use Rattle.drf_sorter.specs.Content.{Content, standing_in}
use Rattle.drf_tree.proofs.change.Tree.{shape_again}
use Rattle.drf_tree.proofs.keys.Nothing.{key_of_none}
use Rattle.drf_tree.proofs.keys.Repair.{sum_there}
use Rattle.drf_tree.proofs.tree.Tree.mark_all.Goals as goal

-- the sums do not depend on the total
sum_stays : (content : Content) (total : List Entry) (path : Path) (sum : Sum) → IsSumOf content path sum
    → IsSumOf (record content { total = total }) path sum
unfolding standing_in
sum_stays content total path sum of = record {
  held = of.held;
  count = of.count;
  clients = of.clients;
  active = of.active;
  weight = of.weight;
}

pub returns-clause-tree : goal.returns-clause-tree
returns-clause-tree c content total weighs of =
    let tree = c.args.self.now in
    let places = tree.places.items in
    let stale = c.mark_all.new.self.stale in
    let all = rw (c.as_slice.ensures, c.deref.ensures.value) at c.mark_all.ensures.all in
    let others = rw (c.as_slice.ensures, c.deref.ensures.value) at c.mark_all.ensures.others in
    let sums = tree.sums.items in
    record {
      paths = of.paths;
      distinct = of.distinct;
      shape = shape_again tree.places.items tree.families.items tree.marks.stale stale tree.sums.items tree.sums.items of.shape c.mark_all.ensures.long refl
          (λ i up. elim (cases_Bool (is_holding places sums i)) [
            | inl holding ↦ (and_parts (is_live places i) (option_map_or holds_any (slice_get sums i) false) holding).0
            | inr nothing ↦ of.shape.unmarked i (sym (others i nothing) ∙ up)
          ]);
      sums = λ i sum live at. sum_stays content total _ sum (of.sums i sum live at);
      complete = of.complete;
      right = λ i.
          each_from_both (IsChildOf places i) (IsMarkedOrRight content places tree.marks.stale i)
          (IsMarkedOrRight (record content { total = total }) places stale i) (children_at tree.families.items i)
          (λ x child either. elim (cases_Bool (is_holding places sums x.node)) [
            | inl holding ↦ inl (all x.node holding)
            | inr nothing ↦ elim either [
              | inl marked ↦ inl (others x.node nothing ∙ marked)
              | inr right ↦
                  let sum = sum_there tree of.shape x.node child.live in
                  let none : holds_any sum.0 ≡ false =
                  sym (rw (child.live, sum.1) refl) ∙ nothing in
                  inr (key_of_none content total weighs (path_at places i) (child_name x) sum.0
                  (subst (λ (p : Path). IsSumOf content p sum.0) child.path (of.sums x.node sum.0 child.live sum.1)) none (key_by x.key) right)
            ]
          ]) (of.shape.children i) (of.right i);
    }
