use Rattle.std.proofs.Common.{◌≡◌, ◌+◌, ◌-◌, ◌<◌, ℕ, true, not, List, ap, ◌∙◌, sym, subst, arith, drop, length, slice_index_or, take}
use Rattle.std.specs.List.{list_all}
use Rattle.std.proofs.lemmas.List.{get_or_default, length-drop, length-take-le, take_all}
use Rattle.drf_tree.proofs.Names.{Child, are_sorted, is_before, without_place}
use Rattle.drf_tree.proofs.keys.Turned.{rank-back_after, rank-back_before, rank-prefix_after, rank-prefix_before, sorted_back, sorted_prefix}
use Rattle.drf_tree.proofs.family.rank_of.Goals as goal

-- what holds of the key that was read holds of the child at the position
of_key : (children : List Child) (at : ℕ) (child : Child) (P : Child → Type 0) → at < length children → P (slice_index_or children at child)
    → (d : Child) → P (slice_index_or children at d)
of_key children at child P small holds d = subst P (get_or_default children at child d small) holds

-- the children after the position, up to the end
behind_it : (children : List Child) (at : ℕ) → take (length children - (at + 1)) (drop (at + 1) children) ≡ drop (at + 1) children
behind_it children at = take_all (length children - (at + 1)) (drop (at + 1) children) (omega (arith, length-drop (at + 1) children))

pub place_for-prefix-requires : goal.place_for-prefix-requires
place_for-prefix-requires c = sorted_prefix (take c.args.at c.args.children.now) (drop (c.args.at + 1) c.args.children.now) c.requires.sorted

pub returns-then-prefix-at-clause-before : goal.returns-then-prefix-at-clause-before
returns-then-prefix-at-clause-before c =
    of_key c.args.children.now c.args.at c.index-children-at.result
    (λ x. list_all (λ (o : Child). is_before o.key x.key) (take c.place_for-prefix.result (without_place c.args.at c.args.children.now)) ≡ true)
    c.requires.within
    (rank-prefix_before c.args.children.now c.args.at (slice_index_or c.args.children.now c.args.at c.index-children-at.result).key c.requires.within c.requires.sorted c.place_for-prefix.result
    c.if-prefix-at.true c.place_for-prefix.ensures.before)

pub returns-then-prefix-at-clause-after : goal.returns-then-prefix-at-clause-after
returns-then-prefix-at-clause-after c =
    of_key c.args.children.now c.args.at c.index-children-at.result
    (λ x. list_all (λ (o : Child). not (is_before o.key x.key)) (drop c.place_for-prefix.result (without_place c.args.at c.args.children.now)) ≡ true)
    c.requires.within
    (rank-prefix_after c.args.children.now c.args.at (slice_index_or c.args.children.now c.args.at c.index-children-at.result).key c.requires.within c.requires.sorted c.place_for-prefix.result
    c.if-prefix-at.true c.place_for-prefix.ensures.after)

pub place_for-requires : goal.place_for-requires
place_for-requires c =
    ap are_sorted (behind_it c.args.children.now c.args.at)
    ∙ sorted_back (take c.args.at c.args.children.now) (drop (c.args.at + 1) c.args.children.now) c.requires.sorted

pub returns-clause-before : goal.returns-clause-before
returns-clause-before c =
    let children = c.args.children.now in
    let at = c.args.at in
    let test = λ (o : Child). is_before o.key (slice_index_or children at c.index-children-at.result).key in
    let prefixes : list_all test (take at children) ≡ true =
    ap (list_all test) (sym (take_all c.place_for-prefix.result (take at children) (omega (arith, length-take-le at children (omega (arith, c.requires.within)), c.if-prefix-at.false))))
    ∙ c.place_for-prefix.ensures.before
    in
    of_key children at c.index-children-at.result
    (λ x. list_all (λ (o : Child). is_before o.key x.key) (take (at + c.place_for.result) (without_place at children)) ≡ true)
    c.requires.within
    (rank-back_before children at (slice_index_or children at c.index-children-at.result).key c.requires.within c.requires.sorted c.place_for.result prefixes
    (ap (λ (cs : List Child). list_all test (take c.place_for.result cs)) (sym (behind_it children at)) ∙ c.place_for.ensures.before))

pub returns-clause-after : goal.returns-clause-after
returns-clause-after c =
    let children = c.args.children.now in
    let at = c.args.at in
    of_key children at c.index-children-at.result
    (λ x. list_all (λ (o : Child). not (is_before o.key x.key)) (drop (at + c.place_for.result) (without_place at children)) ≡ true)
    c.requires.within
    (rank-back_after children at (slice_index_or children at c.index-children-at.result).key c.requires.within c.requires.sorted c.place_for.result
    (ap (λ (cs : List Child). list_all (λ (o : Child). not (is_before o.key (slice_index_or children at c.index-children-at.result).key)) (drop c.place_for.result cs)) (sym (behind_it children at))
    ∙ c.place_for.ensures.after))
