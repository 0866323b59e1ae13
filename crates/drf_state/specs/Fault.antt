-- The numbers and names with which errors of a state's lines are reported.
use Rattle.std.specs.Prelude.{ℕ, codes}
use Rattle.drf_role.specs.Text.{Text}
use Rattle.drf_lines.specs.Fault.{fault_number, fault_name}
use Rattle.drf_saved.specs.Fault.{row_fault_number, row_fault_name}
use Rattle.drf_lines.specs.declared.fault.LineError.{LineError}
use Rattle.drf_lines.specs.declared.fault.LineError.TheVariants as line_error
use Rattle.drf_state.specs.declared.fault.LineStop.{LineStop}
use Rattle.drf_state.specs.declared.fault.LineStop.TheVariants as stop
use Rattle.drf_state.specs.declared.fault.RestoreError.{RestoreError}
use Rattle.drf_state.specs.declared.fault.RestoreError.TheVariants as restore_error
use Rattle.drf_state.specs.declared.fault.StateError.{StateError}
use Rattle.drf_state.specs.declared.fault.StateError.TheVariants as error
use Rattle.drf_state.specs.declared.fault.StateFault.{StateFault}
use Rattle.drf_state.specs.declared.fault.StateFault.TheVariants.{Line, NotWritten, Row, BadEnd}

abbrev pub state_fault_number : StateFault → ℕ
state_fault_number (Line fault) = fault_number fault
state_fault_number NotWritten = 35
state_fault_number (Row fault) = row_fault_number fault
state_fault_number BadEnd = 39

abbrev pub state_fault_name : StateFault → Text
state_fault_name (Line fault) = fault_name fault
state_fault_name NotWritten = codes "NotWritten"
state_fault_name (Row fault) = row_fault_name fault
state_fault_name BadEnd = codes "BadEnd"

-- why a line was not taken, given why it was not read
abbrev pub stop_of_line : LineError → LineStop
stop_of_line (line_error.Fault fault) = stop.Fault (Line fault)
stop_of_line line_error.Memory = stop.Memory

-- why a line was not taken, given why its row was not added
abbrev pub stop_of_row : RestoreError → LineStop
stop_of_row (restore_error.Fault fault) = stop.Fault (Row fault)
stop_of_row restore_error.Memory = stop.Memory

-- the error of reading, given why the line with this number was not taken
abbrev pub stopped_at : ℕ → LineStop → StateError
stopped_at number (stop.Fault fault) = error.Line number fault
stopped_at number stop.Memory = error.Memory
