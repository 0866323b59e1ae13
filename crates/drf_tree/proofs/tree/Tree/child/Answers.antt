use Rattle.std.proofs.Common.{◌≡◌, ◌<◌, Bool, length, ap, sym, subst, ◌∙◌, arith}
use Rattle.std.specs.List.{AllByRecursion, position}
use Rattle.drf_tree.proofs.Names.{Child, same_text, child_name, children_at, IsChildOf}
use Rattle.drf_tree.proofs.shape.Node.{family_read, node_within}
use Rattle.drf_tree.proofs.shape.Name.{none_named, one_named}
use Rattle.drf_tree.proofs.tree.Tree.child.Goals as goal

pub returns-in_err-place-clause-missing : goal.returns-in_err-place-clause-missing
returns-in_err-place-clause-missing c none =
    let t = c.args.self.now in
    let within : c.args.node < length t.families.items =
    omega (arith, node_within t c.requires.shape c.args.node c.requires.node, c.requires.shape.families_long) in
    let same : children_at t.families.items c.args.node ≡ c.children-family.result.now =
    family_read t.families.items c.args.node c.index.result.now within c.index.ensures ∙ sym c.children-family.ensures in
    let test : Child → Bool = λ x. same_text c.args.name.now (child_name x) in
    none_named c.args.name.now (children_at t.families.items c.args.node) (ap (position test) same ∙ sym c.in_err-place.ensures)

pub returns-clause-found : goal.returns-clause-found
returns-clause-found c =
    let t = c.args.self.now in
    let within : c.args.node < length t.families.items =
    omega (arith, node_within t c.requires.shape c.args.node c.requires.node, c.requires.shape.families_long) in
    let same : children_at t.families.items c.args.node ≡ c.children-family.result.now =
    family_read t.families.items c.args.node c.index.result.now within c.index.ensures ∙ sym c.children-family.ensures in
    rw (sym c.index-family-place.is) (one_named c.args.name.now t.places.items c.args.node c.children-family.result.now
    (subst (AllByRecursion (IsChildOf t.places.items c.args.node)) same (c.requires.shape.children c.args.node))
    c.in_ok-place.place c.index-family-place.result (sym c.in_ok-place.ensures) c.index-family-place.is)
