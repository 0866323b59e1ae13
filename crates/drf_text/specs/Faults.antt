-- How the results of the reader relate to the meaning of a text, and how errors of its parts become errors of a text.
use Rattle.std.specs.Prelude.{◌≡◌, ◌≢◌, Result, Ok, Err}
use Rattle.drf_role.specs.declared.name.NameFault.{NameFault}
use Rattle.drf_role.specs.declared.name.NameFault.TheVariants as name
use Rattle.drf_role.specs.declared.role.RoleFault.{RoleFault}
use Rattle.drf_role.specs.declared.role.RoleFault.TheVariants as role
use Rattle.drf_kinds.specs.declared.ranges.RangesFault.{RangesFault}
use Rattle.drf_kinds.specs.declared.ranges.RangesFault.TheVariants as ranges
use Rattle.drf_text.specs.declared.fault.TextFault.{TextFault}
use Rattle.drf_text.specs.declared.fault.TextFault.TheVariants.{Syntax, BadName, BadRole, BadNumber, Memory}

-- a reader returned the error that the text has; if memory ran out, nothing is claimed
abbrev pub IsReported : {A : Type 0} → Result A TextFault → TextFault → Type 0
IsReported meaning fault = fault ≢ Memory → meaning ≡ Err fault

-- a reader returned the meaning of a text, seen by `view`, or an error
abbrev pub IsReadAs : {A B : Type 0} → (A → B) → Result A TextFault → Result B TextFault → Type 0
IsReadAs view (Ok x) meaning = meaning ≡ Ok (view x)
IsReadAs view (Err fault) meaning = IsReported meaning fault

abbrev pub IsMeaning : {A : Type 0} → Result A TextFault → Result A TextFault → Type 0
IsMeaning = IsReadAs (λ x. x)

-- a text was cut as the definition says, seen by `view`, or cannot be cut; cutting allocates nothing
abbrev pub IsCutAs : {A B : Type 0} → (A → B) → Result A TextFault → Result B TextFault → Type 0
IsCutAs view (Ok x) meaning = meaning ≡ Ok (view x)
IsCutAs view (Err fault) meaning = (fault ≡ Syntax) × (meaning ≡ Err Syntax)

abbrev pub fault_of_name : NameFault → TextFault
fault_of_name name.BadName = BadName
fault_of_name name.Memory = Memory

abbrev pub fault_of_role : RoleFault → TextFault
fault_of_role role.BadRole = BadRole
fault_of_role role.Memory = Memory

abbrev pub fault_of_ranges : RangesFault → TextFault
fault_of_ranges ranges.Backwards = BadNumber
fault_of_ranges ranges.Memory = Memory
