use Rattle.std.proofs.Common.{◌≡◌, ◌++◌, ◌∙◌, ap, arith, drop, length, map, subst, take, List, ℕ}
use Rattle.std.specs.List.Sorted.{IsPermutation}
use Rattle.std.proofs.Math.Seq.{take-append_seam}
use Rattle.std.proofs.lemmas.List.{length-map}
use Rattle.std.proofs.lemmas.List.Sorted.{IsPermutation-map}
use Rattle.drf_tree.proofs.Names.{Text, Child, IsFresh, known}
use Rattle.drf_tree.proofs.shape.SameFamily.{each_moved}
use Rattle.drf_tree.proofs.family.Family.renew_all.Goals as goal

-- the sorted list has the children whose keys were computed, and these are as many as before
sorted_is : (old mid new : List Child) (n : ℕ) → n ≡ length old → map known mid ≡ map known old
    → IsPermutation (take n (mid ++ drop (length mid) old)) new → IsPermutation mid new
sorted_is old mid new n long same moved =
    let as_long : n ≡ length mid = omega (arith, long, ap length same, length-map mid known, length-map old known) in
    subst (λ (cs : List Child). IsPermutation cs new)
    (ap (λ (k : ℕ). take k (mid ++ drop (length mid) old)) as_long ∙ take-append_seam mid (drop (length mid) old)) moved

pub invariant_of-self : goal.invariant_of-self
invariant_of-self c = record { sorted = c.sort.ensures.sorted }

pub returns-clause-same : goal.returns-clause-same
returns-clause-same c =
    let self = c.args.self.now.children in
    let mid = c.renew_keys.new.children in
    let new = c.sort.new.children.items in
    let same : map known mid ≡ map known self.items = c.renew_keys.ensures.same ∙ ap (map known) c.deref_mut.ensures.value in
    subst (λ (ks : List (ℕ × Text)). IsPermutation ks (map known new)) same
    (IsPermutation-map known mid new
    (sorted_is self.items mid new self.len (omega (arith, self.ok.0)) same c.sort.ensures.same))

pub returns-clause-renewed : goal.returns-clause-renewed
returns-clause-renewed c =
    let self = c.args.self.now.children in
    let mid = c.renew_keys.new.children in
    let new = c.sort.new.children.items in
    let same : map known mid ≡ map known self.items = c.renew_keys.ensures.same ∙ ap (map known) c.deref_mut.ensures.value in
    each_moved (IsFresh c.args.total.now c.args.sums.now c.args.marks.now.stale self.items) mid new
    (sorted_is self.items mid new self.len (omega (arith, self.ok.0)) same c.sort.ensures.same)
    (rw c.deref_mut.ensures.value at c.renew_keys.ensures.renewed)
