use Rattle.std.proofs.Common.{◌≡◌, ℕ, List, ◌++◌, ◌∙◌, ap, ⊎_elim, inl, inr, Result, Ok, Err}
use Rattle.std.specs.Prelude.{OnOk}
use Rattle.drf_core.specs.Machine.{Machine, live}
use Rattle.drf_lines.specs.Meaning.{meaning_of}
use Rattle.drf_journal.specs.State.{answer_to, machine_after}
use Rattle.drf_journal.proofs.Kept.{answer-kept, meaning-kept}
use Rattle.drf_journal.proofs.answer.reply_to_parted_line.Goals as goal

-- a consequence of what holds at `Ok`
at_ok : {T E A B : Type 0} (r : Result T E) → (A → B) → OnOk r A → OnOk r B
at_ok (Ok x) f h = f h
at_ok (Err e) f h = h

pub returns-clause-reported : goal.returns-clause-reported
returns-clause-reported g c =
    let machine : Machine = live c.args.core.now in
    let line = c.args.prefix.now ++ c.args.end.now in
    let kept : answer_to c.args.echo machine c.bytes.result.now ≡ answer_to c.args.echo machine line =
    ap (answer_to c.args.echo machine) (c.bytes.ensures ∙ c.in_ok-keep.ensures) ∙ answer-kept c.args.echo machine line in
    at_ok c.answer-2.result (λ is. is ∙ ap (λ (reported : List ℕ). c.args.text.now.items ++ reported) kept) c.answer-2.ensures.reported

pub returns-clause-ok : goal.returns-clause-ok
returns-clause-ok g c =
    let machine : Machine = live c.args.core.now in
    let line = c.args.prefix.now ++ c.args.end.now in
    let kept = ap (λ (l : List ℕ). machine_after machine (meaning_of l)) (c.bytes.ensures ∙ c.in_ok-keep.ensures) ∙ ap (machine_after machine) (meaning-kept line) in
    at_ok c.answer-2.result (λ is. is ∙ kept) c.answer-2.ensures.ok

pub returns-clause-taken : goal.returns-clause-taken
returns-clause-taken g c =
    let machine : Machine = live c.args.core.now in
    let line = c.args.prefix.now ++ c.args.end.now in
    let kept : machine_after machine (meaning_of c.bytes.result.now) ≡ machine_after machine (meaning_of line) =
    ap (λ (l : List ℕ). machine_after machine (meaning_of l)) (c.bytes.ensures ∙ c.in_ok-keep.ensures) ∙ ap (machine_after machine) (meaning-kept line) in
    ⊎_elim (λ (same : live c.answer-2.new.core ≡ machine). inl same)
    (λ (more : live c.answer-2.new.core ≡ machine_after machine (meaning_of c.bytes.result.now)). inr (more ∙ kept))
    c.answer-2.ensures.taken
