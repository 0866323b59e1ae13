use Rattle.std.proofs.Common.{Ok, ap, ◌∙◌}
use Rattle.drf_rows.specs.Step.{live_rows}
use Rattle.drf_rows.specs.declared.rows.Rows.{Rows}
use Rattle.drf_state.specs.State.{state_text}
use Rattle.drf_app.proofs.Live.{saved_is_live}
use Rattle.drf_app.proofs.saving.state_text.Goals as goal

pub returns : goal.returns
returns c =
    let rows = c.in_ok-rows.ensures.rows in
    record {
      text = c.in_ok-text.ensures.text ∙ ap state_text rows;
      said = c.in_ok-text.ensures.said c.args.core.now.limits c.in_ok-rows.ensures.saveable
          ∙ ap (λ (r : Rows). Ok (live_rows r)) rows ∙ ap Ok (saved_is_live c.args.epoch c.args.core.now.rows);
    }
