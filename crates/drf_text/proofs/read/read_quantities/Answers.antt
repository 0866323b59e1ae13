use Rattle.std.proofs.Common.{◌≡◌, ◌<◌, [], eqb, length, get_or, lit<, arith, ◌≤◌, ◌∙◌}
use Rattle.std.specs.List.{slice_split}
use Rattle.std.proofs.lemmas.Iterator.Consumers.{YieldsList-turn, YieldsList-end}
use Rattle.std.proofs.lemmas.Iterator.Splits.{YieldsList-from_str_split}
use Rattle.std.proofs.lemmas.List.{length_push}
use Rattle.std.proofs.lemmas.Result.{err_from_is_err_and}
use Rattle.drf_text.specs.Steps.{quantities_step}
use Rattle.drf_text.proofs.Named.{quantities_steps_named}
use Rattle.drf_text.proofs.Reading.{read_none, read_more, read_fault, read_first, read_all}
use Rattle.drf_text.proofs.Together.{quantities_by_steps}
use Rattle.drf_text.proofs.read.read_quantities.Goals as goal
use Rattle.drf_text.proofs.read.read_quantities.Goals.{In-Some, In-None}

-- the entry is the one at its index
here : (c : In-Some) → let pieces = slice_split (λ b. eqb b 59) c.args.text.now in
    (length c.loop-entry.yielded < length pieces) × (c.in-Some.entry.now ≡ get_or pieces (length c.loop-entry.yielded) c.in-Some.entry.now)
here c =
    YieldsList-turn (YieldsList-from_str_split 59 c.args.text.now (lit< tt) (cc) (cc)
    (cc)) c.loop-entry.yielded _ c.loop-entry.yielded_by _ _ c.in-Some.entry c.in-Some.is c.next.ensures.steps

-- all entries were read
over : (c : In-None) → length (slice_split (λ b. eqb b 59) c.args.text.now) ≤ length c.loop-entry.yielded
over c =
    let t = YieldsList-end (YieldsList-from_str_split 59 c.args.text.now (lit< tt) (cc) (cc)
    (cc)) c.loop-entry.yielded _ c.loop-entry.yielded_by _ _ c.in-None.is c.next.ensures.steps in
    omega (arith, t.1)

pub loop-entry-init : goal.loop-entry-init
loop-entry-init c = rw c.empty-quantities.ensures (read_none quantities_step [] (slice_split (λ b. eqb b 59) c.args.text.now))

pub loop-entry-preserved : goal.loop-entry-preserved
loop-entry-preserved c =
    let t = here (goal.at.loop-entry-preserved c).In-Some in
    rw length_push (read_more quantities_step [] (slice_split (λ b. eqb b 59) c.args.text.now) _ _ c.in-Some.entry.now t.0 t.1 c.loop-entry.invariant
    _ quantities_steps_named c.in_ok-count_piece.ensures.ok)

pub returns-in_err-count_piece-clause-read : goal.returns-in_err-count_piece-clause-read
returns-in_err-count_piece-clause-read c =
    let p = err_from_is_err_and c.from_residual.result c.from_residual.ensures.1 in
    let pieces = slice_split (λ b. eqb b 59) c.args.text.now in
    let t = here (goal.at.returns-in_err-count_piece-clause-read c).In-Some in
    rw (p.1, p.2) (λ known.
    quantities_by_steps pieces ∙ read_fault quantities_step [] pieces _ _ c.in-Some.entry.now t.0 t.1 c.loop-entry.invariant _ (c.in_err-count_piece.ensures.fault known))

pub returns-in_err-count_piece-clause-memory : goal.returns-in_err-count_piece-clause-memory
returns-in_err-count_piece-clause-memory c =
    let p = err_from_is_err_and c.from_residual.result c.from_residual.ensures.1 in
    let t = here (goal.at.returns-in_err-count_piece-clause-memory c).In-Some in
    λ is. read_first quantities_step [] (slice_split (λ b. eqb b 59) c.args.text.now) _ _ c.in-Some.entry.now t.0 t.1 c.loop-entry.invariant
    (c.in_err-count_piece.ensures.memory (cc))

pub returns-clause-read : goal.returns-clause-read
returns-clause-read c =
    let pieces = slice_split (λ b. eqb b 59) c.args.text.now in
    quantities_by_steps pieces ∙ read_all quantities_step [] pieces _ _ (over (goal.at.returns-clause-read c).In-None) c.loop-entry.invariant
