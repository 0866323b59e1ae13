-- The errors of lines, and how the results of a reader relate to the meaning of a line.
use Rattle.std.specs.Prelude.{◌≡◌, ℕ, List, Result, Ok, Err, codes}
use Rattle.drf_lines.specs.declared.fault.LineFault.{LineFault}
use Rattle.drf_lines.specs.declared.fault.LineFault.TheVariants.{LineTooLong, NotJson, BadShape, BadText}
use Rattle.drf_lines.specs.declared.fault.LineError.{LineError}
use Rattle.drf_lines.specs.declared.fault.LineError.TheVariants.{Fault, Memory}
use Rattle.drf_role.specs.declared.name.NameFault.{NameFault}
use Rattle.drf_role.specs.declared.name.NameFault.TheVariants as name_faults
use Rattle.drf_role.specs.declared.role.RoleFault.{RoleFault}
use Rattle.drf_role.specs.declared.role.RoleFault.TheVariants as role_faults

-- the number with which an error is reported
abbrev pub fault_number : LineFault → ℕ
fault_number LineTooLong = 34
fault_number NotJson = 31
fault_number BadShape = 32
fault_number BadText = 33

-- the name with which an error is reported
abbrev pub fault_name : LineFault → List ℕ
fault_name LineTooLong = codes "LineTooLong"
fault_name NotJson = codes "NotJson"
fault_name BadShape = codes "BadShape"
fault_name BadText = codes "BadText"

-- the text that `Display` writes
abbrev pub fault_text : LineFault → List ℕ
fault_text LineTooLong = codes "too long"
fault_text NotJson = codes "not JSON"
fault_text BadShape = codes "not the shape of an event"
fault_text BadText = codes "a text is not what its key asks for"

abbrev pub error_text : LineError → List ℕ
error_text (Fault fault) = fault_text fault
error_text Memory = codes "out of memory"

infixr 10 ◌>>=◌
-- a step, and then the next step with its result; the first error is the result
abbrev pub ◌>>=◌ : {A B : Type 0} → Result A LineFault → (A → Result B LineFault) → Result B LineFault
◌>>=◌ (Ok x) next = next x
◌>>=◌ (Err fault) next = Err fault

-- a step returned the meaning, seen by `view`, or the error
abbrev pub IsFoundAs : {A B : Type 0} → (A → B) → Result A LineFault → Result B LineFault → Type 0
IsFoundAs view (Ok x) meaning = meaning ≡ Ok (view x)
IsFoundAs view (Err fault) meaning = meaning ≡ Err fault

-- a reader returned the meaning, seen by `view`, or the error, or memory ran out
abbrev pub IsReadAs : {A B : Type 0} → (A → B) → Result A LineError → Result B LineFault → Type 0
IsReadAs view (Ok x) meaning = meaning ≡ Ok (view x)
IsReadAs view (Err (Fault fault)) meaning = meaning ≡ Err fault
IsReadAs view (Err Memory) meaning = Unit {0}

abbrev pub IsReadOf : {A : Type 0} → Result A LineError → Result A LineFault → Type 0
IsReadOf = IsReadAs (λ x. x)

-- a text that is not a name is `BadText`
abbrev pub name_error : NameFault → LineError
name_error name_faults.BadName = Fault BadText
name_error name_faults.Memory = Memory

-- a text that is not a role is `BadText`
abbrev pub role_error : RoleFault → LineError
role_error role_faults.BadRole = Fault BadText
role_error role_faults.Memory = Memory
