use Rattle.std.proofs.Common.{ℕ, List, sym, subst, ◌∙◌}
use Rattle.drf_rows.specs.Step.{live_rows}
use Rattle.drf_why.specs.Written.{HasWritten, output_of}
use Rattle.drf_why.proofs.Due.{asked_none, asked_some}
use Rattle.drf_why.proofs.explanations.write_asked.Goals as goal

pub returns-in_default : goal.returns-in_default
returns-in_default g c =
    let bytes = g.W.Write.contents in
    let wrote = c.write_absent in
    subst (λ (text : List ℕ). HasWritten text (output_of bytes c.args.writer.now) (output_of bytes wrote.new.writer) wrote.result)
    (asked_none c.args.whom c.args.at c.in_ok-rows.rows (live_rows c.args.core.now.rows) c.in_ok-rows.ensures.rows (sym c.in_ok-pick.ensures ∙ c.in_default.is))
    wrote.ensures

pub returns : goal.returns
returns g c =
    let bytes = g.W.Write.contents in
    let wrote = c.write_cycle in
    subst (λ (text : List ℕ). HasWritten text (output_of bytes c.args.writer.now) (output_of bytes wrote.new.writer) wrote.result)
    (asked_some c.args.whom c.args.at c.in_ok-rows.rows (live_rows c.args.core.now.rows) c.in_ok-rows.ensures.rows c.in-Some.pick
    (sym c.in_ok-pick.ensures ∙ c.in-Some.is))
    wrote.ensures
