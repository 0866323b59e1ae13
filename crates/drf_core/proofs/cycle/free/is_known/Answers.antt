use Rattle.std.proofs.Common.{Some, sym, ap, ◌∙◌}
use Rattle.drf_role.specs.PathLaws.{same_path-true}
use Rattle.drf_core.specs.cycle.Entitling.{known_role}
use Rattle.drf_core.proofs.cycle.free.is_known.Goals as goal

pub returns-in-Part : goal.returns-in-Part
returns-in-Part c = λ same. ap known_role c.in-Part.is ∙ ap Some (same_path-true c.in-Part.known c.args.role.now (sym c.eq.ensures ∙ same))

pub returns-in-Barred : goal.returns-in-Barred
returns-in-Barred c = λ same. ap known_role c.in-Barred.is ∙ ap Some (same_path-true c.in-Barred.known c.args.role.now (sym c.eq-in-Barred.ensures ∙ same))
