use Rattle.std.proofs.Common.{◌≡◌, Result, ap, ◌∙◌, arith}
use Rattle.std.proofs.lemmas.Bool.Decides.{nat_tests}
use Rattle.std.proofs.lemmas.Result.{err_from_is_err_and, on_ok_weaker, IfErr-weaker}
use Rattle.drf_text.proofs.Names.{IsReported, TextFault}
use Rattle.drf_text.specs.Steps.{◌>>=◌, put_counted, quantities_step}
use Rattle.drf_text.specs.declared.said.Counted.{Counted}
use Rattle.drf_text.proofs.Named.{counted_named}
use Rattle.drf_text.proofs.Together.{quantities_step_blank, quantities_step_piece}
use Rattle.drf_text.proofs.read.count_piece.Goals as goal
use Rattle.drf_text.proofs.read.count_piece.Goals.{In_ok-said}

pub returns-then-is_empty-clause-ok : goal.returns-then-is_empty-clause-ok
returns-then-is_empty-clause-ok c =
    quantities_step_blank c.args.text.now c.trim-piece.result.now c.args.quantities.now c.trim-piece.ensures (grind (arith, nat_tests))

pub returns-in_err-said-clause-fault : goal.returns-in_err-said-clause-fault
returns-in_err-said-clause-fault c =
    let p = err_from_is_err_and c.from_residual.result c.from_residual.ensures.1 in
    rw (p.1, p.2) (λ known.
    quantities_step_piece c.args.text.now c.trim-piece.result.now c.args.quantities.now c.trim-piece.ensures (grind (arith, nat_tests))
    ∙ ap (λ (r : Result Counted TextFault). r >>= put_counted c.args.quantities.now) (c.in_err-said.ensures.read known))

-- the content of the piece is added to the quantities so far
step : (c : In_ok-said) → quantities_step c.args.text.now c.args.quantities.now ≡ put_counted c.args.quantities.now c.in_ok-said.said
step c =
    quantities_step_piece c.args.text.now c.trim-piece.result.now c.args.quantities.now c.trim-piece.ensures (grind (arith, nat_tests))
    ∙ ap (λ (r : Result Counted TextFault). r >>= put_counted c.args.quantities.now) c.in_ok-said.ensures.read

pub returns-clause-ok : goal.returns-clause-ok
returns-clause-ok c = on_ok_weaker c.put_counted.result (λ put. step (goal.at.returns-clause-ok c).In_ok-said ∙ put) c.put_counted.ensures.ok

pub returns-clause-fault : goal.returns-clause-fault
returns-clause-fault c =
    IfErr-weaker c.put_counted.result (IsReported (put_counted c.args.quantities.now c.in_ok-said.said)) (IsReported (quantities_step c.args.text.now c.args.quantities.now))
    (λ fault reported known. step (goal.at.returns-clause-fault c).In_ok-said ∙ reported known) c.put_counted.ensures.fault

pub returns-clause-memory : goal.returns-clause-memory
returns-clause-memory c = λ _. rw (← c.trim-piece.ensures) (counted_named c.trim-piece.result.now c.in_ok-said.said c.in_ok-said.ensures.read)
