use Rattle.std.proofs.Common.{ap, ◌∙◌, sym, Ok, Err, Some, true≢false}
use Rattle.std.specs.Option.{option_map_or}
use Rattle.std.specs.Prelude.{Result, Option}
use Rattle.drf_rows.specs.declared.rows.Rows.{Rows}
use Rattle.drf_saved.specs.Saved.{with_row}
use Rattle.drf_saved.specs.declared.fault.RowFault.{RowFault}
use Rattle.drf_state.specs.State.{rows_behind}
use Rattle.drf_state.specs.declared.fault.StateFault.{StateFault}
use Rattle.drf_state.specs.declared.fault.StateFault.TheVariants.{Row}
use Rattle.drf_state.proofs.reader.take_line.Goals as goal

pub returns-in_ok-put-in-Row-clause-ok : goal.returns-in_ok-put-in-Row-clause-ok
returns-in_ok-put-in-Row-clause-ok g c =
    let old = c.args.restoring in
    let put = c.in_ok-put-in-Row.ensures in
    let said = c.in_ok-said_by.ensures ∙ ap Ok c.in-Row.is in
    let reported : Option RowFault → Result (Option Rows) StateFault = λ fault. option_map_or (λ f. Err (Row f)) fault (Ok (Some (with_row old.rows c.in-Row.row))) in
    record {
      limits = put.limits;
      more = λ goes. ap (rows_behind old.limits c.args.text.now c.args.lines old.rows c.args.line.now) said
          ∙ ap reported put.fits ∙ ap (λ r. Ok (Some r)) (sym put.rows);
      end = λ last. absurd (true≢false (sym last));
    }
