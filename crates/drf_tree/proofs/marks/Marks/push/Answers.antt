use Rattle.std.specs.Vec.{vec_capacity}
use Rattle.std.proofs.Common.{ap, arith, subst, sym, ◌∙◌, ◌≡◌, ◌≤◌, ◌+◌, ◌++◌, ◌∷◌, [], Bool, ℕ, List, false, length}
use Rattle.drf_tree.specs.Marks.{AreWaiting}
use Rattle.drf_tree.proofs.marks.Waiting.{few_wait, one_number_more}
use Rattle.drf_tree.proofs.marks.Marks.push.Goals as goal

pub invariant_of-self-2 : goal.invariant_of-self-2
invariant_of-self-2 c =
    let m = c.self.inside in
    let room = vec_capacity c.reserve.new.self in
    let few = few_wait m.stale.items m.listed.items m.waiting.items (vec_capacity m.waiting) c.self.invariant in
    let enough = c.in_ok-reserve.ensures in
    let wide : length m.stale.items + 1 ≤ room =
    omega (arith, few, enough.ok, enough.len, c.len.ensures, c.len-2.ensures, m.stale.ok.0, m.waiting.ok.0) in
    let are = one_number_more m.stale.items m.listed.items m.waiting.items (vec_capacity m.waiting) c.self.invariant room wide in
    let stale : c.push.new.self.items ≡ m.stale.items ++ false ∷ [] = c.in_ok-push.ensures.items in
    let listed : c.push_reserved.new.self.items ≡ m.listed.items ++ false ∷ [] =
    c.push_reserved.ensures.items ∙ ap (λ (fs : List Bool). fs ++ false ∷ []) c.in_ok-reserve-2.ensures.items in
    subst (λ (fs : List Bool). AreWaiting fs c.push_reserved.new.self.items c.reserve.new.self.items room) (sym stale)
    (subst (λ (fs : List Bool). AreWaiting (m.stale.items ++ false ∷ []) fs c.reserve.new.self.items room) (sym listed)
    (subst (λ (ns : List ℕ). AreWaiting (m.stale.items ++ false ∷ []) (m.listed.items ++ false ∷ []) ns room)
    (sym c.in_ok-reserve.ensures.items) are))
