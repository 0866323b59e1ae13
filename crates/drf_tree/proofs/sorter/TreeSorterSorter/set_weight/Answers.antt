use Rattle.std.specs.Prelude.{List}
use Rattle.std.proofs.Common.{refl, subst}
use Rattle.drf_role.specs.Path.{Path}
use Rattle.drf_bundle.specs.declared.quantities.Entry.{Entry}
use Rattle.drf_sorter.specs.Content.{Content, with_weight}
use Rattle.drf_tree.specs.Ledger.{ledger_content}
use Rattle.drf_tree.specs.Tree.{IsTreeOf}
use Rattle.drf_tree.proofs.walk.Kept.{kept_along, kept_by}
use Rattle.drf_tree.proofs.change.Weigh.{unweighed_tree}
use Rattle.drf_tree.proofs.sorter.TreeSorterSorter.set_weight.Goals as goal

pub invariant_of-self : goal.invariant_of-self
invariant_of-self c =
    kept_by c.set_weight.new.self (ledger_content c.self.inside.ledger) c.in_err-set_weight.ensures.err c.self.inside.tree c.self.inside.tree
    c.self.inside.walk c.self.inside.is_total_free c.self.invariant.of_ledger c.self.invariant.free c.self.invariant.tidy refl refl c.self.invariant.frames
    c.self.invariant.settled

pub invariant_of-self-in_default : goal.invariant_of-self-in_default
invariant_of-self-in_default c =
    let content = ledger_content c.self.inside.ledger in
    let tree = c.self.inside.tree in
    let role = c.args.role.now in
    let now : Content = with_weight content role c.args.weight in
    let along : (total : List Entry) → IsTreeOf (record content { total = total }) tree → IsTreeOf (record now { total = total }) tree =
    λ total of. unweighed_tree (record content { total = total }) role c.args.weight tree of (c.in_default.ensures.missing refl) in
    kept_along c.set_weight.new.self content now c.in_ok-set_weight.ensures.ok refl tree tree c.self.inside.walk
    c.self.inside.is_total_free (along content.total c.self.invariant.of_ledger) (λ on total. along total (c.self.invariant.free on total))
    c.self.invariant.tidy refl refl c.self.invariant.frames c.self.invariant.settled

pub invariant_of-self-2 : goal.invariant_of-self-2
invariant_of-self-2 c =
    let content = ledger_content c.self.inside.ledger in
    let tree = c.self.inside.tree in
    let role = c.args.role.now in
    let now : Content = with_weight content role c.args.weight in
    let along : (total : List Entry) → IsTreeOf (record content { total = total }) tree
    → IsTreeOf (record now { total = total }) c.weigh.new.self =
    λ total of.
    let before : Content = record content { total = total } in
    subst (λ (p : Path). IsTreeOf (with_weight before p c.args.weight) c.weigh.new.self) c.in-Some.ensures.found.1
    (c.weigh.ensures.tree before of) in
    kept_along c.set_weight.new.self content now c.in_ok-set_weight.ensures.ok refl tree c.weigh.new.self c.self.inside.walk
    c.self.inside.is_total_free (along content.total c.self.invariant.of_ledger) (λ on total. along total (c.self.invariant.free on total))
    c.self.invariant.tidy c.weigh.ensures.places c.weigh.ensures.families c.self.invariant.frames c.self.invariant.settled
