-- The numbers and names of the errors of rows.
use Rattle.std.specs.Prelude.{ℕ, codes}
use Rattle.drf_role.specs.Text.{Text}
use Rattle.drf_rows.specs.Refusal.{refusal_number, refusal_name}
use Rattle.drf_saved.specs.declared.fault.RowFault.{RowFault}
use Rattle.drf_saved.specs.declared.fault.RowFault.TheVariants.{Refused, OutOfOrder, KnownRole, BadNumber}

abbrev pub row_fault_number : RowFault → ℕ
row_fault_number (Refused refusal) = refusal_number refusal
row_fault_number OutOfOrder = 36
row_fault_number KnownRole = 37
row_fault_number BadNumber = 38

abbrev pub row_fault_name : RowFault → Text
row_fault_name (Refused refusal) = refusal_name refusal
row_fault_name OutOfOrder = codes "OutOfOrder"
row_fault_name KnownRole = codes "KnownRole"
row_fault_name BadNumber = codes "BadNumber"
