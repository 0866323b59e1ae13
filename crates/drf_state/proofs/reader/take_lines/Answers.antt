use Rattle.std.proofs.Common.{◌≡◌, ◌+◌, ◌-◌, ◌<◌, Bool, false, length, take, drop, Ok, Err, sym, ap, subst, ◌∙◌, arith}
use Rattle.std.proofs.lemmas.List.{length-drop}
use Rattle.drf_rows.specs.LimitNumbers.{LimitNumbers}
use Rattle.drf_rows.specs.declared.rows.Rows.{Rows}
use Rattle.drf_saved.specs.declared.fault.RowFault.TheVariants.{OutOfOrder}
use Rattle.drf_state.specs.Reading.{IsFaultOf}
use Rattle.drf_state.specs.State.{Said, is_at_end, rest_says, rows_behind, said_by, says_behind, whole_if}
use Rattle.drf_state.specs.declared.fault.StateFault.TheVariants.{Row}
use Rattle.drf_state.specs.laws.Parts.{parts_of_text}
use Rattle.drf_state.proofs.Going.{ends_there, goes_further, says_next, stopped_behind}
use Rattle.drf_state.proofs.reader.take_lines.Given as given
use Rattle.drf_state.proofs.reader.take_lines.Goals.{After-prefix-text}
use Rattle.drf_state.proofs.reader.take_lines.Goals as goal

-- the meaning of all bytes, that of the rest after the rows of a line, and whether there is a rest
abbrev whole_of : (g : given.Over) → After-prefix-text g → Said
whole_of g c = rest_says c.args.begun.limits (take c.args.start c.args.bytes.now) 1 c.args.begun.rows (parts_of_text (drop c.args.start c.args.bytes.now))

abbrev more_of : (g : given.Over) → After-prefix-text g → Rows → Said
more_of g c new =
    let next = c.loop-at.read + (c.in-Some.at + 1) in
    rest_says c.loop-at.restoring.limits (take next c.args.bytes.now) (c.loop-at.lines + 1) new (parts_of_text (drop next c.args.bytes.now))

abbrev last_of : (g : given.Over) → After-prefix-text g → Bool
last_of g c = is_at_end (parts_of_text (drop (c.loop-at.read + (c.in-Some.at + 1)) c.args.bytes.now))

says_at : (g : given.Over) (c : After-prefix-text g)
    → whole_of g c
    ≡ says_behind (c.loop-at.lines + 1) c.loop-at.restoring.rows (last_of g c) (more_of g c)
    (rows_behind c.loop-at.restoring.limits c.prefix-text.result.now c.loop-at.lines c.loop-at.restoring.rows c.prefix-line.result.now (said_by c.prefix-line.result.now))
says_at g c =
    let at = c.in-Some.at in
    c.loop-at.invariant.4
    ∙ says_next c.loop-at.restoring.limits c.args.bytes.now c.behind.result.now c.loop-at.read at c.loop-at.lines c.loop-at.restoring.rows c.prefix-text.result.now c.prefix-line.result.now
    (record {
      rest_is = c.behind.ensures;
      text_is = c.prefix-text.ensures;
      line_is = c.prefix-line.ensures ∙ ap (take at) (c.behind-rest.ensures ∙ sym c.behind.ensures);
      within = c.loop-at.invariant.2;
      parted = c.in-Some.ensures.found.1;
      with_feed = c.in-Some.ensures.one;
    })

pub returns-in-Err-clause-err : goal.returns-in-Err-clause-err
returns-in-Err-clause-err g c =
    let b = (goal.at.returns-in-Err-clause-err g c).After-prefix-text in
    subst (IsFaultOf (whole_of g b)) (sym c.stopped_at.ensures)
    (stopped_behind (whole_of g b) (c.loop-at.lines + 1) c.loop-at.restoring.rows (last_of g b) (more_of g b) _ c.in-Err.stop (says_at g b) c.in-Err.ensures.err)

pub returns-then-read-bytes-clause-err : goal.returns-then-read-bytes-clause-err
returns-then-read-bytes-clause-err g c =
    let b = (goal.at.returns-then-read-bytes-clause-err g c).After-prefix-text in
    let rest = drop (c.loop-at.read + (c.in-Some.at + 1)) c.args.bytes.now in
    let within : c.loop-at.read + (c.in-Some.at + 1) < length c.args.bytes.now = c.if-read-bytes.true in
    let further : last_of g b ≡ false = goes_further rest (omega (arith, length-drop (c.loop-at.read + (c.in-Some.at + 1)) c.args.bytes.now, within)) in
    let fault : whole_of g b ≡ Err (c.loop-at.lines + 1 + 1, Row OutOfOrder) =
    says_at g b ∙ ap (says_behind (c.loop-at.lines + 1) c.loop-at.restoring.rows (last_of g b) (more_of g b)) (c.in-Ok.ensures.ok.end c.if-is_last.true).0
    ∙ ap (λ (b : Bool). whole_if b (c.loop-at.lines + 1) c.loop-at.restoring.rows) further in
    subst (IsFaultOf (whole_of g b)) (sym c.out_of_order.ensures) fault

pub returns-then-is_last-clause-rows : goal.returns-then-is_last-clause-rows
returns-then-is_last-clause-rows g c =
    let b = (goal.at.returns-then-is_last-clause-rows g c).After-prefix-text in
    let ended = c.in-Ok.ensures.ok.end c.if-is_last.true in
    says_at g b ∙ ap (says_behind (c.loop-at.lines + 1) c.loop-at.restoring.rows (last_of g b) (more_of g b)) ended.0
    ∙ ap (λ (b : Bool). whole_if b (c.loop-at.lines + 1) c.loop-at.restoring.rows)
    (ends_there c.args.bytes.now (c.loop-at.read + (c.in-Some.at + 1)) c.if-read-bytes.false)
    ∙ ap Ok (sym ended.1)

pub loop-at-preserved : goal.loop-at-preserved
loop-at-preserved g c =
    let b = (goal.at.loop-at-preserved g c).After-prefix-text in
    let bytes = c.args.bytes.now in
    let read = c.loop-at.read in
    let at = c.in-Some.at in
    let taken = c.in-Ok.ensures.ok in
    let long : at < length bytes - read = omega (arith, c.in-Some.ensures.found.0, ap length c.behind.ensures, length-drop read bytes) in (
      omega arith,
      omega (arith, c.loop-at.invariant.1),
      omega (arith, long, c.loop-at.invariant.2),
      taken.limits ∙ c.loop-at.invariant.3,
      says_at g b ∙ ap (says_behind (c.loop-at.lines + 1) c.loop-at.restoring.rows (last_of g b) (more_of g b)) (taken.more c.if-is_last.false)
          ∙ ap (λ (limits : LimitNumbers). rest_says limits (take (read + (at + 1)) bytes) (c.loop-at.lines + 1) c.in-Ok.taken.0.rows (parts_of_text (drop (read + (at + 1)) bytes))) (sym taken.limits),
    )
