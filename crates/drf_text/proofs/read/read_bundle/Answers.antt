use Rattle.std.proofs.Common.{◌≡◌, ◌<◌, [], eqb, length, get_or, lit<, arith, List, Ok, ap, sym, ◌≤◌, ◌∙◌}
use Rattle.std.specs.List.{slice_split}
use Rattle.std.proofs.lemmas.Iterator.Consumers.{YieldsList-turn, YieldsList-end}
use Rattle.std.proofs.lemmas.Iterator.Splits.{YieldsList-from_str_split}
use Rattle.std.proofs.lemmas.List.{length_push}
use Rattle.std.proofs.lemmas.Result.{err_from_is_err_and}
use Rattle.drf_bundle.specs.declared.resource.Resource.{Resource}
use Rattle.drf_text.specs.Steps.{bundle_step}
use Rattle.drf_text.proofs.Named.{bundle_steps_named}
use Rattle.drf_text.proofs.Reading.{read_none, read_more, read_fault, read_first, read_all, first_of_all}
use Rattle.drf_text.proofs.Together.{bundle_by_steps}
use Rattle.drf_text.proofs.read.read_bundle.Goals as goal
use Rattle.drf_text.proofs.read.read_bundle.Goals.{In-Some, In-None}

-- the piece is the one at its index
here : (c : In-Some) → let pieces = slice_split (λ b. eqb b 59) c.args.text.now in
    (length c.loop-piece.yielded < length pieces) × (c.in-Some.piece.now ≡ get_or pieces (length c.loop-piece.yielded) c.in-Some.piece.now)
here c =
    YieldsList-turn (YieldsList-from_str_split 59 c.args.text.now (lit< tt) (cc) (cc)
    (cc)) c.loop-piece.yielded _ c.loop-piece.yielded_by _ _ c.in-Some.piece c.in-Some.is c.next.ensures.steps

-- all pieces were read
over : (c : In-None) → length (slice_split (λ b. eqb b 59) c.args.text.now) ≤ length c.loop-piece.yielded
over c =
    let t = YieldsList-end (YieldsList-from_str_split 59 c.args.text.now (lit< tt) (cc) (cc)
    (cc)) c.loop-piece.yielded _ c.loop-piece.yielded_by _ _ c.in-None.is c.next.ensures.steps in
    omega (arith, t.1)

pub loop-piece-init : goal.loop-piece-init
loop-piece-init c = rw c.empty-bundle.ensures (read_none bundle_step [] (slice_split (λ b. eqb b 59) c.args.text.now))

pub loop-piece-preserved : goal.loop-piece-preserved
loop-piece-preserved c =
    let t = here (goal.at.loop-piece-preserved c).In-Some in
    rw length_push (read_more bundle_step [] (slice_split (λ b. eqb b 59) c.args.text.now) _ _ c.in-Some.piece.now t.0 t.1 c.loop-piece.invariant
    _ bundle_steps_named c.in_ok-add_piece.ensures.ok)

pub returns-in_err-add_piece-clause-read : goal.returns-in_err-add_piece-clause-read
returns-in_err-add_piece-clause-read c =
    let p = err_from_is_err_and c.from_residual.result c.from_residual.ensures.1 in
    let pieces = slice_split (λ b. eqb b 59) c.args.text.now in
    let t = here (goal.at.returns-in_err-add_piece-clause-read c).In-Some in
    rw (p.1, p.2) (λ known.
    bundle_by_steps pieces ∙ read_fault bundle_step [] pieces _ _ c.in-Some.piece.now t.0 t.1 c.loop-piece.invariant _ (c.in_err-add_piece.ensures.fault known))

pub returns-in_err-add_piece-clause-memory : goal.returns-in_err-add_piece-clause-memory
returns-in_err-add_piece-clause-memory c =
    let p = err_from_is_err_and c.from_residual.result c.from_residual.ensures.1 in
    let t = here (goal.at.returns-in_err-add_piece-clause-memory c).In-Some in
    λ is. read_first bundle_step [] (slice_split (λ b. eqb b 59) c.args.text.now) _ _ c.in-Some.piece.now t.0 t.1 c.loop-piece.invariant
    (c.in_err-add_piece.ensures.memory (cc))

pub returns-clause-read : goal.returns-clause-read
returns-clause-read c =
    let pieces = slice_split (λ b. eqb b 59) c.args.text.now in
    bundle_by_steps pieces ∙ read_all bundle_step [] pieces _ _ (over (goal.at.returns-clause-read c).In-None) c.loop-piece.invariant ∙ ap (λ (bundle : List Resource). Ok bundle) (sym c.in_ok-from_parts.ensures.bundle)

pub returns-in_err-from_parts-clause-memory : goal.returns-in_err-from_parts-clause-memory
returns-in_err-from_parts-clause-memory c =
    λ _. first_of_all bundle_step [] (slice_split (λ b. eqb b 59) c.args.text.now) _ _
    (over (goal.at.returns-in_err-from_parts-clause-memory c).In-None) c.loop-piece.invariant
