-- The error that a reader returns for an invalid name or role.
use Rattle.std.proofs.Common.{◌≡◌, Bool, false, cond, Option, Some, None, Result, Ok, Err, refl}
use Rattle.std.specs.Option.{ok_or}
use Rattle.drf_role.specs.declared.name.NameFault.{NameFault}
use Rattle.drf_role.specs.declared.name.NameFault.TheVariants as name_faults
use Rattle.drf_role.specs.declared.role.RoleFault.{RoleFault}
use Rattle.drf_role.specs.declared.role.RoleFault.TheVariants as role_faults
use Rattle.drf_lines.specs.declared.fault.LineFault.{LineFault}
use Rattle.drf_lines.specs.declared.fault.LineFault.TheVariants.{BadText}
use Rattle.drf_lines.specs.Fault.{IsReadOf, name_error, role_error}

pub name_refused : {A : Type 0} (fault : NameFault) (b : Bool) (x : A) → (fault ≡ name_faults.BadName → b ≡ false)
    → IsReadOf (Err (name_error fault)) (cond b (Ok x) (Err BadText))
name_refused name_faults.BadName b x h = rw (h refl)
name_refused name_faults.Memory b x h = tt

pub role_refused : {A : Type 0} (fault : RoleFault) (b : Bool) (x : A) → (fault ≡ role_faults.BadRole → b ≡ false)
    → IsReadOf (Err (role_error fault)) (cond b (Ok x) (Err BadText))
role_refused role_faults.BadRole b x h = rw (h refl)
role_refused role_faults.Memory b x h = tt

-- the error after a failed `ok_or`
pub fault_of_none : {T : Type 0} (o : Option T) (fault other : LineFault) → o ≡ None
    → ◌≡◌ {A = Result T LineFault} (Err fault) (ok_or o other) → fault ≡ other
fault_of_none None fault other e h = cc
fault_of_none (Some x) fault other e h = cc
