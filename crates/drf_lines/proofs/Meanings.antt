-- The meaning of lines.
use Rattle.std.proofs.Common.{◌≡◌, ℕ, true, false, nat_lt, length, List, Result, Ok, Err, Global, ap}
use Rattle.serde_json.specs.Data.{Data}
use Rattle.json.specs.declared.value.Value.{Value}
use Rattle.drf_lines.specs.declared.fault.LineFault.{LineFault}
use Rattle.drf_lines.specs.declared.fault.LineFault.TheVariants.{LineTooLong}
use Rattle.drf_lines.specs.declared.fault.LineError.{LineError}
use Rattle.drf_lines.specs.declared.fault.LineError.TheVariants.{Fault, Memory}
use Rattle.drf_lines.specs.Fault.{◌>>=◌, IsReadAs, IsReadOf}
use Rattle.drf_lines.specs.LineValue.{line_view}
use Rattle.drf_lines.specs.Meaning.{value_in, event_in, longest_line, meaning_of}
use Rattle.drf_lines.specs.StateMeaning.{state_line_in, state_line_meaning}

refused_at : {A : Type 0} (next : Data → Result A LineFault) (error : LineError) (r : Result Data LineFault)
    → IsReadAs {A = Value Global} line_view (Err error) r → IsReadOf (Err error) (r >>= next)
refused_at next (Fault fault) r h = ap (λ r. r >>= next) h
refused_at next Memory r h = tt

-- a line that is not JSON has this error
pub meaning_refused : (error : LineError) (line : List ℕ) → nat_lt longest_line (length line) ≡ false
    → IsReadAs {A = Value Global} line_view (Err error) (value_in line)
    → IsReadOf (Err error) (meaning_of line)
unfolding meaning_of
meaning_refused error line short h = rw short (refused_at event_in error (value_in line) h)

-- any other line means what its value means
pub meaning_read : (line : List ℕ) (value : Data) → nat_lt longest_line (length line) ≡ false → value_in line ≡ Ok value
    → meaning_of line ≡ event_in value
unfolding meaning_of
meaning_read line value short e = rw (short, e)

pub meaning_long : (line : List ℕ) → nat_lt longest_line (length line) ≡ true → meaning_of line ≡ Err LineTooLong
unfolding meaning_of
meaning_long line long = rw long

pub state_refused : (error : LineError) (line : List ℕ) → IsReadAs {A = Value Global} line_view (Err error) (value_in line)
    → IsReadOf (Err error) (state_line_meaning line)
unfolding state_line_meaning
state_refused error line h = refused_at state_line_in error (value_in line) h
