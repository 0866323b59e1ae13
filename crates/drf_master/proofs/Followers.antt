-- Lemmas about a second core that takes the entries that it lacks, and then an event.
use Rattle.std.proofs.Common.{◌≡◌, ℕ, ◌+◌, ◌<◌, ◌≤◌, List, [], ◌∷◌, ◌++◌, length, take, get_or, Option, None, sym, ap, subst, ◌∙◌, take_all, arith}
use Rattle.std.proofs.lemmas.List.{take_more}
use Rattle.drf_board.specs.History.{IsLegal, entry}
use Rattle.drf_board.proofs.HistoryLaws.{legal-nil}
use Rattle.drf_board.specs.declared.entry.Entry.{Entry}
use Rattle.drf_core.specs.Machine.{Engine, IsAfter}
use Rattle.drf_rows.specs.LimitNumbers.{LimitNumbers}
use Rattle.drf_rows.specs.Step.{reply_to}
use Rattle.drf_rows.specs.declared.event.Event.{Event}
use Rattle.drf_rows.specs.declared.reply.Reply.{Reply}
use Rattle.drf_rows.specs.declared.rows.Rows.{Rows}
use Rattle.drf_master.specs.Journal.{Begins, IsRunOf, IsNext, HasTaken, IsBook}
use Rattle.drf_master.proofs.Runs.{is_next, run-begun, taken-more}

pub taken-at : (given : LimitNumbers) (start : Rows) (entries : List Entry) (engine : Engine) (taken place : ℕ) → taken ≡ place → HasTaken given start entries engine place
    → HasTaken given start entries engine taken
taken-at given start entries engine taken place is has = subst (λ (k : ℕ). HasTaken given start entries engine k) (sym is) has

-- after it has taken one more entry
pub taken-next : (given : LimitNumbers) (start : Rows) (entries : List Entry) (old new : Engine) (place : ℕ) (at : Entry) (event : Event) → HasTaken given start entries old place
    → place < length entries → at ≡ get_or entries place at → event ≡ (get_or entries place at).event → IsAfter old new event → HasTaken given start entries new (place + 1)
taken-next given start entries old new place at event has less here copied after =
    taken-more given start entries at old new place has less
    (take_more entries place at less ∙ ap (λ (e : Entry). take place entries ++ e ∷ []) (sym here))
    (subst (λ (e : Event). IsAfter old new e) (copied ∙ ap (λ (e : Entry). e.event) (sym here)) after)

pub caught-up : (given : LimitNumbers) (start : Rows) (entries : List Entry) (engine : Engine) (taken : ℕ) → HasTaken given start entries engine taken → length entries ≤ taken
    → IsRunOf given start entries engine
caught-up given start entries engine taken has past = subst (λ (l : List Entry). IsRunOf given start l engine) (take_all taken entries past) has.run

-- after it has taken the event that follows all entries
pub next-asked : (given : LimitNumbers) (start : Rows) (entries : List Entry) (old new : Engine) (taken : ℕ) (event asked : Event) (reply : Reply) → IsLegal given start entries
    → HasTaken given start entries old taken → taken ≡ length entries → asked ≡ event → reply ≡ reply_to old.limits old.rows asked → IsAfter old new asked
    → IsNext given start entries new (entry event reply)
next-asked given start entries old new taken event asked reply legal has all copied told after =
    subst (λ (e : Event). IsNext given start entries new (entry e reply)) copied
    (is_next given start entries old new asked reply legal (caught-up given start entries old taken has (omega (arith, all))) told after)

-- ---- books

pub book-begun : (start : Rows) (engine : Engine) (items : List Entry) (second : Option Engine) (taken : ℕ) → Begins engine.limits start engine
    → items ≡ [] → second ≡ None → IsBook start items engine second taken
book-begun start engine items second taken begins empty none =
    subst (λ (x : List Entry × Option Engine). IsBook start x.0 engine x.1 taken) (λ i. (sym empty i, sym none i)) (record {
      legal = legal-nil engine.limits start;
      run = run-begun engine.limits start engine begins;
      second_run = tt;
    })

-- a core that took an event is in the state after the journal to which the event's entry was added
pub book-recorded : (start : Rows) (entries items : List Entry) (old new : Engine) (second : Option Engine) (taken : ℕ) (event : Event) (reply : Reply)
    → IsLegal old.limits start entries → IsRunOf old.limits start entries old → reply ≡ reply_to old.limits old.rows event → IsAfter old new event
    → items ≡ entries ++ entry event reply ∷ [] → second ≡ None → IsBook start items new second taken
book-recorded start entries items old new second taken event reply legal run told after are none =
    let next = is_next old.limits start entries old new event reply legal run told after in
    let more : List Entry = entries ++ entry event reply ∷ [] in
    subst (λ (x : List Entry × Option Engine). IsBook start x.0 new x.1 taken) (λ i. (sym are i, sym none i)) (record {
      legal = subst (λ (l : LimitNumbers). IsLegal l start more) (sym after.limits) next.legal;
      run = subst (λ (l : LimitNumbers). IsRunOf l start more new) (sym after.limits) next.run;
      second_run = tt;
    })
