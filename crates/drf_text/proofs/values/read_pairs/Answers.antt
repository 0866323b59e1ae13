use Rattle.std.proofs.Common.{◌≡◌, ◌+◌, ◌∙◌, ◌∷◌, false, eqb, ℕ, Result, length, drop, lit<, sym, ap, arith}
use Rattle.std.specs.List.{list_all, slice_split}
use Rattle.std.proofs.lemmas.Iterator.Consumers.{YieldsList-turn, YieldsList-end}
use Rattle.std.proofs.lemmas.Iterator.Splits.{YieldsList-from_str_split}
use Rattle.std.proofs.lemmas.List.{at_drop_more, at_drop_all, length_push}
use Rattle.std.proofs.lemmas.Result.{err_from_is_err_and}
use Rattle.drf_text.proofs.Names.{Text, is_blank, trimmed, TextFault}
use Rattle.drf_text.specs.Steps.{each_of, pair_in}
use Rattle.drf_text.proofs.Parts.{each_of-map, each_after, each_after-end, each_after-more, each_after-fault}
use Rattle.drf_text.proofs.values.read_pairs.Goals as goal
use Rattle.drf_text.proofs.values.read_pairs.Goals.{In-Some}

abbrev step : Text → Result (ℕ × ℕ) TextFault
step part = pair_in (trimmed part)

-- this part and those after it remain
left : (c : In-Some) → each_after step c.loop-part.pairs.items
    (c.in-Some.part.now ∷ drop (length c.loop-part.yielded + 1) (slice_split (λ b. eqb b 44) c.args.text.now))
    ≡ each_of step (slice_split (λ b. eqb b 44) c.args.text.now)
left c =
    let parts = slice_split (λ b. eqb b 44) c.args.text.now in
    let found = c.loop-part.pairs.items in
    let n = length c.loop-part.yielded in
    let t = YieldsList-turn (YieldsList-from_str_split 44 c.args.text.now (lit< tt) (cc) (cc)
    (cc)) c.loop-part.yielded _ c.loop-part.yielded_by _ _ c.in-Some.part c.in-Some.is c.next.ensures.steps in
    ap (λ (part : Text). each_after step found (part ∷ drop (n + 1) parts)) t.1
    ∙ sym (at_drop_more (each_after step found) parts n c.in-Some.part.now t.0) ∙ c.loop-part.invariant

pub returns-in_err-read_pair : goal.returns-in_err-read_pair
returns-in_err-read_pair c =
    let p = err_from_is_err_and c.from_residual.result c.from_residual.ensures.1 in
    let some : list_all is_blank c.args.text.now ≡ false = sym c.is_blank.ensures ∙ c.if-is_blank.false in
    rw (p.1, p.2, some, each_of-map) (λ known.
    sym (left (goal.at.returns-in_err-read_pair c).In-Some) ∙ each_after-fault step c.loop-part.pairs.items c.in-Some.part.now (drop (length c.loop-part.yielded + 1) (slice_split (λ b. eqb b 44) c.args.text.now)) c.in_err-read_pair.field-0.0 (sym (rw c.trim.ensures at c.in_err-read_pair.ensures)))

pub loop-part-preserved : goal.loop-part-preserved
loop-part-preserved c =
    rw (c.in_ok-push.ensures.items, length_push)
    (sym (each_after-more step c.loop-part.pairs.items c.in-Some.part.now (drop (length c.loop-part.yielded + 1) (slice_split (λ b. eqb b 44) c.args.text.now)) c.in_ok-read_pair.field-0 (sym (rw c.trim.ensures at c.in_ok-read_pair.ensures))) ∙ left (goal.at.loop-part-preserved c).In-Some)

pub returns : goal.returns
returns c =
    let parts = slice_split (λ b. eqb b 44) c.args.text.now in
    let found = c.loop-part.pairs.items in
    let n = length c.loop-part.yielded in
    let t = YieldsList-end (YieldsList-from_str_split 44 c.args.text.now (lit< tt) (cc) (cc)
    (cc)) c.loop-part.yielded _ c.loop-part.yielded_by _ _ c.in-None.is c.next.ensures.steps in
    let some : list_all is_blank c.args.text.now ≡ false = sym c.is_blank.ensures ∙ c.if-is_blank.false in
    rw (some, each_of-map)
    (sym c.loop-part.invariant ∙ at_drop_all (each_after step found) parts n (omega (arith, t.1)) ∙ each_after-end step found)
