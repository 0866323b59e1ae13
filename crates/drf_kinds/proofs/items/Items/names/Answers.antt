use Rattle.std.proofs.Common.{All, sym, subst}
use Rattle.drf_role.specs.Name.{IsLabel}
use Rattle.drf_kinds.proofs.Names.{contains-view, labels_of}
use Rattle.drf_kinds.proofs.items.Items.names.Goals as goal

pub returns-clause-labels : goal.returns-clause-labels
returns-clause-labels c = subst (All IsLabel) (sym c.as_slice.ensures.value) (labels_of _ c.self.invariant.given)

pub returns-clause-members : goal.returns-clause-members
returns-clause-members c = contains-view _ _ _ c.as_slice.ensures.value c.self.view_is
