use Rattle.std.proofs.Common.{◌≡◌, ◌==◌, ◌<◌, ◌++◌, List, ap, ◌∙◌, sym, subst, arith, drop, length, set, slice_index_or, take}
use Rattle.std.specs.List.{position}
use Rattle.std.proofs.Math.Seq.{take-append_seam}
use Rattle.std.proofs.lemmas.List.{get_or-set_same}
use Rattle.std.proofs.lemmas.List.Quantifiers.{position-Some}
use Rattle.drf_tree.proofs.Names.{Child, IsWith, are_sorted, without_place}
use Rattle.drf_tree.proofs.keys.Siblings.{child_found, found_place, sorted_remove, without_child}
use Rattle.drf_tree.proofs.keys.Turned.{put-long, without-next, without-set}
use Rattle.drf_tree.proofs.family.Family.renew.Goals as goal

pub unwrap-at-requires : goal.unwrap-at-requires
unwrap-at-requires c =
    found_place c.args.node c.args.self.now.children.items c.requires.known c.place_of.result
    (c.place_of.ensures ∙ ap (position (λ (x : Child). x.node == c.args.node)) c.deref.ensures.value)

pub turn_to_place-requires-clause-sorted : goal.turn_to_place-requires-clause-sorted
turn_to_place-requires-clause-sorted c =
    let children = c.args.self.now.children.items in
    let found =
    child_found c.args.node children c.place_of.result c.unwrap-at.result c.index_mut.result.now
    (c.place_of.ensures ∙ ap (position (λ (x : Child). x.node == c.args.node)) c.deref.ensures.value)
    c.unwrap-at.ensures c.index_mut.ensures.value in
    ap (λ cs. are_sorted (without_place c.unwrap-at.result cs)) c.deref_mut.ensures.value
    ∙ ap are_sorted (without-set children c.unwrap-at.result _ ∙ sym (without-next children c.unwrap-at.result))
    ∙ sorted_remove children c.index_mut.result.now c.unwrap-at.result found.0 c.args.self.now.sorted

pub returns-clause-renewed : goal.returns-clause-renewed
returns-clause-renewed c =
    let children = c.args.self.now.children in
    let at = c.unwrap-at.result in
    let child : Child = record { key = c.renew.new.key; node = c.index_mut.result.now.node } in
    let new = c.turn_to_place.new.children in
    let found =
    child_found c.args.node children.items c.place_of.result at c.index_mut.result.now
    (c.place_of.ensures ∙ ap (position (λ (x : Child). x.node == c.args.node)) c.deref.ensures.value)
    c.unwrap-at.ensures c.index_mut.ensures.value in
    let small : at < length children.items =
    (position-Some (λ (x : Child). x.node == c.args.node) children.items at child
    (sym (c.place_of.ensures ∙ ap (position (λ (x : Child). x.node == c.args.node)) c.deref.ensures.value) ∙ c.unwrap-at.ensures)).0
    in
    let put : IsWith child (without_place at children.items) new =
    subst (λ (q : Child × List Child). IsWith q.0 q.1 new)
    (λ i. (
      (ap (λ cs. slice_index_or cs at child) c.deref_mut.ensures.value ∙ get_or-set_same children.items at child child small) i,
      (ap (without_place at) c.deref_mut.ensures.value ∙ without-set children.items at child) i,
    ))
    (c.turn_to_place.ensures.put child)
    in
    let all : children.len ≡ length new = omega (arith, put-long children.items new at child small put, children.ok.0) in
    record {
      was = c.index_mut.result.now;
      now = child;
      rest = without_place at children.items;
      was_is = found.1;
      now_is = found.1;
      gone = subst (λ (cs : List Child). IsWith c.index_mut.result.now cs children.items) (without-next children.items at)
          (without_child children.items c.index_mut.result.now at found.0);
      put = subst (λ (cs : List Child). IsWith child (without_place at children.items) cs)
          (sym ((λ i. take (all i) (new ++ drop (length new) (set children.items at child))) ∙ take-append_seam new (drop (length new) (set children.items at child)))) put;
      key = c.renew.ensures.key;
    }
