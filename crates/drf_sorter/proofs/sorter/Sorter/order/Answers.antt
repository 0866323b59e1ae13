use Rattle.std.proofs.Common.{◌≡◌, ◌++◌, List, [], ◌∷◌, None, slice_get, refl, sym, ap, subst, ◌∙◌}
use Rattle.std.proofs.lemmas.List.{append-nil}
use Rattle.drf_role.specs.Path.{Path}
use Rattle.drf_sorter.specs.Content.{IsOrderOf}
use Rattle.drf_sorter.proofs.sorter.Sorter.order.Goals as goal

none_left : (paths : List Path) → None ≡ slice_get paths 0 → paths ≡ []
none_left [] none = refl
none_left (path ∷ paths) none = absurd cc

pub returns-clause-order : goal.returns-clause-order
returns-clause-order g c =
    let listed = c.loop-client.paths.items in
    let left = g.Self.Sorter.queue c.loop-client.self in
    let none : left ≡ [] = none_left left (rw c.in_default.is at c.first.ensures) in
    let all : g.Self.Sorter.queue c.fix_order.new.self ≡ listed =
    sym c.loop-client.invariant.listed ∙ ap (λ paths. listed ++ paths) none ∙ append-nil listed in
    subst (IsOrderOf (g.Self.Sorter.content c.args.self.now)) all c.in_ok-fix_order.ensures.order
