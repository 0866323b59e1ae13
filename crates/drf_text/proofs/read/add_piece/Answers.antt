use Rattle.std.proofs.Common.{◌≡◌, Result, ap, ◌∙◌, arith}
use Rattle.std.proofs.lemmas.Bool.Decides.{nat_tests}
use Rattle.std.proofs.lemmas.Result.{err_from_is_err_and, on_ok_weaker, IfErr-weaker}
use Rattle.drf_text.proofs.Names.{IsReported, TextFault}
use Rattle.drf_text.specs.Steps.{◌>>=◌, put_said, bundle_step}
use Rattle.drf_text.specs.declared.said.Said.{Said}
use Rattle.drf_text.proofs.Named.{said_named}
use Rattle.drf_text.proofs.Together.{bundle_step_blank, bundle_step_piece}
use Rattle.drf_text.proofs.read.add_piece.Goals as goal
use Rattle.drf_text.proofs.read.add_piece.Goals.{In_ok-said}

pub returns-then-is_empty-clause-ok : goal.returns-then-is_empty-clause-ok
returns-then-is_empty-clause-ok c =
    bundle_step_blank c.args.text.now c.trim-piece.result.now c.args.bundle.now c.trim-piece.ensures (grind (arith, nat_tests))

pub returns-in_err-said-clause-fault : goal.returns-in_err-said-clause-fault
returns-in_err-said-clause-fault c =
    let p = err_from_is_err_and c.from_residual.result c.from_residual.ensures.1 in
    rw (p.1, p.2) (λ known.
    bundle_step_piece c.args.text.now c.trim-piece.result.now c.args.bundle.now c.trim-piece.ensures (grind (arith, nat_tests))
    ∙ ap (λ (r : Result Said TextFault). r >>= put_said c.args.bundle.now) (c.in_err-said.ensures.read known))

-- the content of the piece is added to the resources so far
step : (c : In_ok-said) → bundle_step c.args.text.now c.args.bundle.now ≡ put_said c.args.bundle.now c.in_ok-said.said
step c =
    bundle_step_piece c.args.text.now c.trim-piece.result.now c.args.bundle.now c.trim-piece.ensures (grind (arith, nat_tests))
    ∙ ap (λ (r : Result Said TextFault). r >>= put_said c.args.bundle.now) c.in_ok-said.ensures.read

pub returns-clause-ok : goal.returns-clause-ok
returns-clause-ok c = on_ok_weaker c.put_said.result (λ put. step (goal.at.returns-clause-ok c).In_ok-said ∙ put) c.put_said.ensures.ok

pub returns-clause-fault : goal.returns-clause-fault
returns-clause-fault c =
    IfErr-weaker c.put_said.result (IsReported (put_said c.args.bundle.now c.in_ok-said.said)) (IsReported (bundle_step c.args.text.now c.args.bundle.now))
    (λ fault reported known. step (goal.at.returns-clause-fault c).In_ok-said ∙ reported known) c.put_said.ensures.fault

pub returns-clause-memory : goal.returns-clause-memory
returns-clause-memory c = λ _. rw (← c.trim-piece.ensures) (said_named c.trim-piece.result.now c.in_ok-said.said c.in_ok-said.ensures.read)
