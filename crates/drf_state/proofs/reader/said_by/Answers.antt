use Rattle.std.proofs.Common.{false, true, sym, ◌∙◌}
use Rattle.drf_state.proofs.Spoken.{said_as, stopped_as}
use Rattle.drf_state.proofs.reader.said_by.Goals as goal

pub returns-in_err-said : goal.returns-in_err-said
returns-in_err-said c =
    stopped_as c.args.line.now c.in_err-said.field-0.0 c.from_residual.result c.in_err-said.ensures.read c.from_residual.ensures.1

pub returns-then-not-branch : goal.returns-then-not-branch
returns-then-not-branch c = said_as c.args.line.now c.in_ok-said.said false c.in_ok-said.ensures.read (sym c.if-not-branch.true ∙ c.in_ok-is_written.ensures)

pub returns : goal.returns
returns c = said_as c.args.line.now c.in_ok-said.said true c.in_ok-said.ensures.read (sym c.if-not-branch.false ∙ c.in_ok-is_written.ensures)
