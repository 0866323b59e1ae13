-- The text for lines, line by line.
use Rattle.std.proofs.Common.{◌≡◌, ℕ, Bool, List, [], ◌∷◌, ◌++◌, Result, Ok, Err, refl, sym, ap, ◌∙◌, append_assoc}
use Rattle.drf_core.specs.Machine.{Machine, after}
use Rattle.drf_rows.specs.LimitNumbers.{LimitNumbers}
use Rattle.drf_rows.specs.Step.{live_rows, rows_after}
use Rattle.drf_row_laws.proofs.LiveLaws.{reply_to-same_live, rows_after-same_live, live_rows-twice}
use Rattle.drf_rows.specs.declared.rows.Rows.{Rows}
use Rattle.drf_rows.specs.declared.event.Event.{Event}
use Rattle.drf_lines.specs.declared.fault.LineFault.{LineFault}
use Rattle.drf_lines.specs.Meaning.{meaning_of}
use Rattle.drf_lines.specs.ReplyLine.{reply_line, fault_line}
use Rattle.drf_journal.specs.Output.{echo_of, reply_line_after, rows_after_line, output_from, output_of}
use Rattle.drf_journal.specs.State.{machine_after, machine_after_lines, answer_to}
use Rattle.drf_journal.proofs.Pieces.{answers_from}

-- rows with the same current state give the same text
pub text-same_live : (limits : LimitNumbers) (echo : Bool) (a b : Rows) (lines : List (List ℕ)) → live_rows a ≡ live_rows b
    → output_from limits echo a lines ≡ output_from limits echo b lines
text-same_live limits echo a b [] same = refl
text-same_live limits echo a b (line ∷ lines) same =
    by_meaning (meaning_of line) (λ a b same. text-same_live limits echo a b lines same)
  where
    by_meaning : (meaning : Result Event LineFault)
        → ((a b : Rows) → live_rows a ≡ live_rows b → output_from limits echo a lines ≡ output_from limits echo b lines)
        → echo_of echo line ++ (reply_line_after limits a meaning ++ output_from limits echo (rows_after_line limits a meaning) lines)
        ≡ echo_of echo line ++ (reply_line_after limits b meaning ++ output_from limits echo (rows_after_line limits b meaning) lines)
    by_meaning (Ok event) rest =
        let reply = reply_to-same_live limits a b same event in
        let text = rest (rows_after limits a event) (rows_after limits b event) (rows_after-same_live limits a b same event) in
        λ i. echo_of echo line ++ (reply_line (reply i) ++ text i)
    by_meaning (Err fault) rest = ap (λ l. echo_of echo line ++ (fault_line fault ++ l)) (rest a b same)

output_from-lines : (echo : Bool) (machine : Machine) (lines : List (List ℕ))
    → output_from machine.limits echo machine.rows lines ≡ answers_from echo machine lines
unfolding after
output_from-lines echo machine [] = refl
output_from-lines echo machine (line ∷ lines) = by_meaning (meaning_of line) (λ machine. output_from-lines echo machine lines)
  where
    by_meaning : (meaning : Result Event LineFault)
        → ((machine : Machine) → output_from machine.limits echo machine.rows lines ≡ answers_from echo machine lines)
        → echo_of echo line ++ (reply_line_after machine.limits machine.rows meaning
        ++ output_from machine.limits echo (rows_after_line machine.limits machine.rows meaning) lines)
        ≡ (echo_of echo line ++ reply_line_after machine.limits machine.rows meaning)
        ++ answers_from echo (machine_after machine meaning) lines
    by_meaning (Ok event) rest =
        let next : Rows = rows_after machine.limits machine.rows event in
        ap (λ l. echo_of echo line ++ (reply_line_after machine.limits machine.rows (Ok event) ++ l))
        (text-same_live machine.limits echo next (live_rows next) lines (sym (live_rows-twice next))
        ∙ rest (machine_after machine (Ok event)))
        ∙ sym (append_assoc (echo_of echo line) (reply_line_after machine.limits machine.rows (Ok event)) _)
    by_meaning (Err fault) rest =
        ap (λ l. echo_of echo line ++ (fault_line fault ++ l)) (rest machine)
        ∙ sym (append_assoc (echo_of echo line) (fault_line fault) _)

pub text-lines : (machine : Machine) (echo : Bool) (lines : List (List ℕ)) → output_of machine echo lines ≡ answers_from echo machine lines
unfolding output_of
text-lines machine echo lines = output_from-lines echo machine lines

pub answers-append : (echo : Bool) (machine : Machine) (prefix more : List (List ℕ))
    → answers_from echo machine (prefix ++ more) ≡ answers_from echo machine prefix ++ answers_from echo (machine_after_lines machine prefix) more
answers-append echo machine [] more = refl
answers-append echo machine (line ∷ prefix) more =
    ap (λ l. answer_to echo machine line ++ l) (answers-append echo (machine_after machine (meaning_of line)) prefix more)
    ∙ sym (append_assoc (answer_to echo machine line) _ _)

-- the text begins with that for the first lines
pub text-append : (machine : Machine) (echo : Bool) (prefix more : List (List ℕ))
    → output_of machine echo (prefix ++ more) ≡ output_of machine echo prefix ++ answers_from echo (machine_after_lines machine prefix) more
text-append machine echo prefix more =
    text-lines machine echo (prefix ++ more) ∙ answers-append echo machine prefix more
    ∙ ap (λ l. l ++ answers_from echo (machine_after_lines machine prefix) more) (sym (text-lines machine echo prefix))
