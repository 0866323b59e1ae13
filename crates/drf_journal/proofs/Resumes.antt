-- Runs that are cut in two: the results of some lines and then of others.
use Rattle.std.proofs.Common.{◌≡◌, ℕ, Bool, List, [], ◌∷◌, ◌++◌, length, Result, Ok, Err, ⊎_elim, refl, sym, ap, ◌∙◌, append_assoc}
use Rattle.drf_core.specs.Machine.{Machine, after}
use Rattle.drf_lines.specs.Meaning.{meaning_of}
use Rattle.drf_lines.specs.declared.fault.LineFault.{LineFault}
use Rattle.drf_rows.specs.LimitNumbers.{LimitNumbers}
use Rattle.drf_rows.specs.Step.{live_rows, rows_after}
use Rattle.drf_row_laws.proofs.LiveLaws.{rows_after-same_live, live_rows-twice}
use Rattle.drf_rows.specs.declared.event.Event.{Event}
use Rattle.drf_rows.specs.declared.rows.Rows.{Rows}
use Rattle.drf_journal.specs.Audited.{rows_after_lines, reported_of_lines}
use Rattle.drf_journal.specs.JournalLaws.{LinesInTwo, OutputInTwo, AllocatorInTwo, StepsLeaveLiveRows}
use Rattle.drf_journal.specs.Lines.{open_line_of, lines_of}
use Rattle.drf_journal.specs.Output.{echo_of, reply_line_after, rows_after_line, output_from, output_of}
use Rattle.drf_journal.specs.Resumed.{resumed, IsCutBehindLine}
use Rattle.drf_journal.specs.State.{machine_after, machine_after_lines}
use Rattle.drf_journal.proofs.Cuts.{within-nil, open-within, open-feed, goes_on, lines-goes_on, lines-none}
use Rattle.drf_journal.proofs.Texts.{text-same_live}

-- ---- the rows after lines

-- an allocator with the same current state has it after lines too
pub rows-stand : (machine : Machine) (rows : Rows) (lines : List (List ℕ)) → live_rows machine.rows ≡ live_rows rows
    → live_rows (machine_after_lines machine lines).rows ≡ live_rows (rows_after_lines machine.limits rows lines)
unfolding after
rows-stand machine rows [] same = same
rows-stand machine rows (line ∷ lines) same = by_meaning (meaning_of line) (λ machine rows same. rows-stand machine rows lines same)
  where
    by_meaning : (meaning : Result Event LineFault)
        → ((machine : Machine) (rows : Rows) → live_rows machine.rows ≡ live_rows rows
        → live_rows (machine_after_lines machine lines).rows ≡ live_rows (rows_after_lines machine.limits rows lines))
        → live_rows (machine_after_lines (machine_after machine meaning) lines).rows
        ≡ live_rows (rows_after_lines machine.limits (rows_after_line machine.limits rows meaning) lines)
    by_meaning (Ok event) rest =
        rest (after machine event) (rows_after machine.limits rows event)
        (live_rows-twice (rows_after machine.limits machine.rows event) ∙ rows_after-same_live machine.limits machine.rows rows same event)
    by_meaning (Err fault) rest = rest machine rows same

-- an allocator that removes expired filters keeps doing so, with the same capacities
steps-live : (machine : Machine) (lines : List (List ℕ)) → machine.rows ≡ live_rows machine.rows
    → ((machine_after_lines machine lines).limits ≡ machine.limits)
    × ((machine_after_lines machine lines).rows ≡ live_rows (machine_after_lines machine lines).rows)
unfolding after
steps-live machine [] is = (refl, is)
steps-live machine (line ∷ lines) is = by_meaning (meaning_of line) (λ machine is. steps-live machine lines is)
  where
    by_meaning : (meaning : Result Event LineFault)
        → ((machine : Machine) → machine.rows ≡ live_rows machine.rows
        → ((machine_after_lines machine lines).limits ≡ machine.limits)
        × ((machine_after_lines machine lines).rows ≡ live_rows (machine_after_lines machine lines).rows))
        → ((machine_after_lines (machine_after machine meaning) lines).limits ≡ machine.limits)
        × ((machine_after_lines (machine_after machine meaning) lines).rows ≡ live_rows (machine_after_lines (machine_after machine meaning) lines).rows)
    by_meaning (Ok event) rest = rest (after machine event) (sym (live_rows-twice (rows_after machine.limits machine.rows event)))
    by_meaning (Err fault) rest = rest machine is

pub steps-leave : StepsLeaveLiveRows
steps-leave machine lines is =
    let live = steps-live machine lines is in
    let rows : (machine_after_lines machine lines).rows ≡ live_rows (rows_after_lines machine.limits machine.rows lines) =
    live.1 ∙ rows-stand machine machine.rows lines refl in
    λ i. record { limits = live.0 i; rows = rows i }

-- rows with the same current state have the same one after lines
pub rows-same_live : (limits : LimitNumbers) (a b : Rows) (lines : List (List ℕ)) → live_rows a ≡ live_rows b
    → live_rows (rows_after_lines limits a lines) ≡ live_rows (rows_after_lines limits b lines)
rows-same_live limits a b lines same =
    let machine : Machine = record { limits = limits; rows = a } in
    sym (rows-stand machine a lines refl) ∙ rows-stand machine b lines same

-- ---- lines in two parts

pub rows-append : (limits : LimitNumbers) (rows : Rows) (prefix more : List (List ℕ))
    → rows_after_lines limits rows (prefix ++ more) ≡ rows_after_lines limits (rows_after_lines limits rows prefix) more
rows-append limits rows [] more = refl
rows-append limits rows (line ∷ prefix) more = rows-append limits (rows_after_line limits rows (meaning_of line)) prefix more

output-append : (limits : LimitNumbers) (echo : Bool) (rows : Rows) (prefix more : List (List ℕ))
    → output_from limits echo rows (prefix ++ more)
    ≡ output_from limits echo rows prefix ++ output_from limits echo (rows_after_lines limits rows prefix) more
output-append limits echo rows [] more = refl
output-append limits echo rows (line ∷ prefix) more =
    let reported = reply_line_after limits rows (meaning_of line) in
    let next = rows_after_line limits rows (meaning_of line) in
    ap (λ l. echo_of echo line ++ (reported ++ l)) (output-append limits echo next prefix more)
    ∙ sym (append_assoc (echo_of echo line) (reported ++ output_from limits echo next prefix) _
    ∙ ap (λ l. echo_of echo line ++ l) (append_assoc reported (output_from limits echo next prefix) _))

-- ---- an input that is cut after a line

nothing_open : (bytes : List ℕ) → IsCutBehindLine bytes → open_line_of bytes ≡ []
nothing_open bytes cut =
    ⊎_elim (λ (none : bytes ≡ []). ap open_line_of none ∙ open-within [] within-nil)
    (λ (some : (prefix : List ℕ) × (bytes ≡ prefix ++ 10 ∷ [])).
    let on = goes_on some.0 (10 ∷ []) in
    ap open_line_of some.1 ∙ on.line ∙ open-feed (open_line_of some.0) 10 [] on.within refl ∙ open-within [] within-nil)
    cut

pub lines-in-two : LinesInTwo
lines-in-two a b cut =
    let none = nothing_open a cut in
    lines-goes_on a b
    ∙ (λ i. sym (lines-none a (ap length none)) i ++ lines_of (none i ++ b))

pub output-in-two : OutputInTwo
unfolding output_of
output-in-two machine echo a b cut =
    let rows = rows_after_lines machine.limits machine.rows (lines_of a) in
    ap (output_from machine.limits echo machine.rows) (lines-in-two a b cut)
    ∙ output-append machine.limits echo machine.rows (lines_of a) (lines_of b)
    ∙ ap (λ l. output_from machine.limits echo machine.rows (lines_of a) ++ l)
    (text-same_live machine.limits echo rows (live_rows rows) (lines_of b) (sym (live_rows-twice rows)))

-- the current state after the whole input
rows-in-two : (machine : Machine) (a b : List ℕ) → IsCutBehindLine a
    → live_rows (rows_after_lines machine.limits machine.rows (lines_of (a ++ b)))
    ≡ live_rows (rows_after_lines machine.limits (live_rows (rows_after_lines machine.limits machine.rows (lines_of a))) (lines_of b))
rows-in-two machine a b cut =
    let rows = rows_after_lines machine.limits machine.rows (lines_of a) in
    ap (λ lines. live_rows (rows_after_lines machine.limits machine.rows lines)) (lines-in-two a b cut)
    ∙ ap live_rows (rows-append machine.limits machine.rows (lines_of a) (lines_of b))
    ∙ rows-same_live machine.limits rows (live_rows rows) (lines_of b) (sym (live_rows-twice rows))

pub allocator-in-two : AllocatorInTwo
allocator-in-two machine a b cut =
    ap (λ (rows : Rows). record { limits = machine.limits; rows = rows }) (rows-in-two machine a b cut)

-- a text that depends only on the current state
pub reported-in-two : (tell : Rows → List ℕ) → ((rows : Rows) → tell (live_rows rows) ≡ tell rows)
    → (machine : Machine) (a b : List ℕ) → IsCutBehindLine a
    → reported_of_lines tell machine (lines_of (a ++ b)) ≡ reported_of_lines tell (resumed machine (lines_of a)) (lines_of b)
unfolding reported_of_lines
reported-in-two tell live machine a b cut = sym (live _) ∙ ap tell (rows-in-two machine a b cut) ∙ live _
