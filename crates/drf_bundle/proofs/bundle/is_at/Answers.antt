use Rattle.std.proofs.Common.{sym, ◌∙◌}
use Rattle.drf_bundle.proofs.SearchLemmas.{key_here}
use Rattle.drf_bundle.proofs.bundle.is_at.Goals as goal

pub returns-then-eq : goal.returns-then-eq
returns-then-eq c same_role =
    let there = c.in-Some.ensures.lookup.3 in
    key_here c.args.resources.now c.args.at c.in-Some.resource.now c.args.label.now c.args.role.now there.0 there.1 (sym c.if-eq.ensures) (sym c.is_same_role.ensures ∙ same_role)
