use Rattle.std.proofs.Common.{◌≡◌, ◌+◌, Ok, take, drop, sym, ap, subst, ◌∙◌}
use Rattle.drf_rows.specs.LimitNumbers.{LimitNumbers}
use Rattle.drf_rows.specs.declared.rows.Rows.{Rows}
use Rattle.drf_saved_laws.specs.SavedLaws.{IsSaveable}
use Rattle.drf_state.specs.Reading.{IsFaultOf}
use Rattle.drf_state.specs.State.{Said, rest_says, rows_begun, said_by, says_first, state_in}
use Rattle.drf_state.specs.laws.Parts.{parts_of_text}
use Rattle.drf_state.proofs.theorems.Texts.{what_is_said_is_the_text}
use Rattle.drf_state.proofs.Going.{passed_on, says_begun, says_nothing, stopped_first}
use Rattle.drf_state.proofs.reader.read_state.Goals as goal

pub returns-in_default-clause-err : goal.returns-in_default-clause-err
returns-in_default-clause-err g c =
    let bytes = c.args.bytes.now in
    subst (IsFaultOf (state_in c.args.limits bytes)) (sym c.out_of_order.ensures) (says_nothing c.args.limits bytes c.in_default.ensures.none)

pub returns-in-Err-clause-err : goal.returns-in-Err-clause-err
returns-in-Err-clause-err g c =
    let limits = c.args.limits in
    let bytes = c.args.bytes.now in
    let at = c.in-Some.at in
    let found = c.in-Some.ensures.found in
    let more : Rows → Said = λ rows. rest_says limits (take (at + 1) bytes) 1 rows (parts_of_text (drop (at + 1) bytes)) in
    let says : state_in limits bytes ≡ says_first more (rows_begun limits (said_by c.prefix.result.now)) =
    says_begun limits bytes at found.1 c.in-Some.ensures.one ∙ ap (λ line. says_first more (rows_begun limits (said_by line))) (sym c.prefix.ensures) in
    subst (IsFaultOf (state_in limits bytes)) (sym c.stopped_at.ensures)
    (stopped_first (state_in limits bytes) more (rows_begun limits (said_by c.prefix.result.now)) c.in-Err.stop says c.in-Err.ensures.err)

pub returns-in_err-whole-clause-err : goal.returns-in_err-whole-clause-err
returns-in_err-whole-clause-err g c =
    let limits = c.args.limits in
    let bytes = c.args.bytes.now in
    let at = c.in-Some.at in
    let found = c.in-Some.ensures.found in
    let begun = c.in-Ok.begun in
    let more : Rows → Said = λ rows. rest_says limits (take (at + 1) bytes) 1 rows (parts_of_text (drop (at + 1) bytes)) in
    let says : state_in limits bytes ≡ says_first more (rows_begun limits (said_by c.prefix.result.now)) =
    says_begun limits bytes at found.1 c.in-Some.ensures.one ∙ ap (λ line. says_first more (rows_begun limits (said_by line))) (sym c.prefix.ensures) in
    let first : state_in limits bytes ≡ more begun.rows = says ∙ ap (says_first more) c.in-Ok.ensures.rows in
    let rest : Said = rest_says begun.limits (take (at + 1) bytes) 1 begun.rows (parts_of_text (drop (at + 1) bytes)) in
    let whole : state_in limits bytes ≡ rest =
    first ∙ ap (λ (l : LimitNumbers). rest_says l (take (at + 1) bytes) 1 begun.rows (parts_of_text (drop (at + 1) bytes))) (sym c.in-Ok.ensures.limits) in
    let reported : IsFaultOf (state_in limits bytes) c.in_err-whole.field-0.0 =
    subst (λ (said : Said). IsFaultOf said c.in_err-whole.field-0.0) (sym whole) c.in_err-whole.ensures.err in
    passed_on (state_in limits bytes) c.in_err-whole.field-0.0 c.from_residual.result reported c.from_residual.ensures.1

pub returns-clause-ok : goal.returns-clause-ok
returns-clause-ok g c =
    let limits = c.args.limits in
    let bytes = c.args.bytes.now in
    let at = c.in-Some.at in
    let found = c.in-Some.ensures.found in
    let begun = c.in-Ok.begun in
    let more : Rows → Said = λ rows. rest_says limits (take (at + 1) bytes) 1 rows (parts_of_text (drop (at + 1) bytes)) in
    let says : state_in limits bytes ≡ says_first more (rows_begun limits (said_by c.prefix.result.now)) =
    says_begun limits bytes at found.1 c.in-Some.ensures.one ∙ ap (λ line. says_first more (rows_begun limits (said_by line))) (sym c.prefix.ensures) in
    let first : state_in limits bytes ≡ more begun.rows = says ∙ ap (says_first more) c.in-Ok.ensures.rows in
    let rest : rest_says begun.limits (take (at + 1) bytes) 1 begun.rows (parts_of_text (drop (at + 1) bytes)) ≡ Ok c.in_ok-whole.whole.rows = c.in_ok-whole.ensures.rows in
    let whole : state_in limits bytes ≡ Ok c.in_ok-core.core.rows =
    first
    ∙ ap (λ (l : LimitNumbers). rest_says l (take (at + 1) bytes) 1 begun.rows (parts_of_text (drop (at + 1) bytes))) (sym c.in-Ok.ensures.limits)
    ∙ rest ∙ ap Ok (sym c.in_ok-core.ensures.rows) in
    let same = c.in_ok-core.ensures.limits ∙ c.in_ok-whole.ensures.limits ∙ c.in-Ok.ensures.limits in
    record {
      said = whole;
      text = what_is_said_is_the_text limits bytes c.in_ok-core.core.rows whole;
      saveable = subst (λ l. IsSaveable l c.in_ok-core.core.rows) same c.in_ok-core.ensures.saveable;
      live = c.in_ok-core.ensures.live;
      limits = same;
    }
