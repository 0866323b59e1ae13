use Rattle.std.proofs.Common.{ap, sym, ◌∙◌, subst, refl}
use Rattle.drf_role.specs.Role.{IsRole}
use Rattle.drf_role.specs.Parts.{text_of}
use Rattle.drf_role.proofs.PartLaws.{text_of-parts_of}
use Rattle.drf_role.proofs.RoleLaws.{role_from_text, role_text_ascii}
use Rattle.drf_role.proofs.role.Role.read.Goals as goal

pub from_text-requires : goal.from_text-requires
from_text-requires c = role_text_ascii c.args.text.now (c.if-not-is_role.ensures.0 refl)

pub invariant_of-result : goal.invariant_of-result
invariant_of-result c =
    subst IsRole (sym c.in-Ok.ensures) (role_from_text c.args.text.now (c.if-not-is_role.ensures.0 refl))

pub returns-in-Ok-clause-right : goal.returns-in-Ok-clause-right
returns-in-Ok-clause-right c =
    subst IsRole (sym c.in-Ok.ensures) (role_from_text c.args.text.now (c.if-not-is_role.ensures.0 refl))

pub returns-in-Ok-clause-text : goal.returns-in-Ok-clause-text
returns-in-Ok-clause-text c = ap text_of c.in-Ok.ensures ∙ text_of-parts_of c.args.text.now
