-- Reading the lines of a text.
use Rattle.std.proofs.Common.{◌≡◌, ℕ, Bool, List, Result, Ok, Err, sym, ap, subst, ◌∙◌}
use Rattle.std.specs.Prelude.{IsErrAnd, MatchResult, if◌then◌else◌}
use Rattle.drf_saved.specs.declared.saved.StateLine.{StateLine}
use Rattle.drf_lines.specs.Fault.{IsReadOf}
use Rattle.drf_lines.specs.StateMeaning.{state_line_meaning}
use Rattle.drf_lines.specs.declared.fault.LineError.{LineError}
use Rattle.drf_lines.specs.declared.fault.LineError.TheVariants.{Fault, Memory}
use Rattle.drf_state.specs.Fault.{stop_of_line}
use Rattle.drf_state.specs.Reading.{IsStop}
use Rattle.drf_state.specs.State.{is_written, said_by, said_or}
use Rattle.drf_state.specs.declared.fault.LineStop.{LineStop}
use Rattle.drf_state.specs.declared.fault.StateFault.TheVariants.{NotWritten}

-- the content of a line, given whether it is in normal form
pub said_as : (line : List ℕ) (said : StateLine) (is : Bool) → state_line_meaning line ≡ Ok said → is ≡ is_written line said
    → said_by line ≡ (if is then Ok said else Err NotWritten)
unfolding said_by
said_as line said is meaning test = ap (said_or line) meaning ∙ ap (λ b. if b then Ok said else Err NotWritten) (sym test)

stop_of : (line : List ℕ) (error : LineError) → IsReadOf (Err error) (state_line_meaning line) → IsStop (said_by line) (stop_of_line error)
unfolding said_by
stop_of line (Fault fault) meaning = ap (said_or line) meaning
stop_of line Memory meaning = tt

-- a line that was not read
pub stopped_as : (line : List ℕ) (error : LineError) (r : Result StateLine LineStop) → IsReadOf (Err error) (state_line_meaning line)
    → IsErrAnd r (λ stop. stop ≡ stop_of_line error)
    → MatchResult r (λ said. said_by line ≡ Ok said) (IsStop (said_by line))
stopped_as line error (Ok said) read is = absurd is
stopped_as line error (Err stop) read is = subst (IsStop (said_by line)) (sym is) (stop_of line error read)
