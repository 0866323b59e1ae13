-- Lemmas about a core that takes the entries of a journal.
use Rattle.std.proofs.Common.{◌≡◌, ℕ, ◌+◌, ◌<◌, List, [], ◌∷◌, ◌++◌, length, take, refl, sym, ap, subst, ◌∙◌, arith}
use Rattle.drf_board.specs.History.{IsLegal, entry, rows_of}
use Rattle.drf_board.proofs.HistoryLaws.{legal-push, rows_of-nil, rows_of-push}
use Rattle.drf_board.specs.declared.entry.Entry.{Entry}
use Rattle.drf_core.specs.Machine.{Engine, IsAfter, IsOpened, IsSame}
use Rattle.drf_rows.specs.LimitNumbers.{LimitNumbers}
use Rattle.drf_row_laws.proofs.LiveLaws.{report_of-live, reply_to-same_live, rows_after-same_live}
use Rattle.drf_rows.specs.Report.{report_of}
use Rattle.drf_rows.specs.Step.{live_rows, opening, reply_to, rows_after}
use Rattle.drf_rows.specs.declared.event.Event.{Event}
use Rattle.drf_rows.specs.declared.reply.Reply.{Reply}
use Rattle.drf_rows.specs.declared.rows.Rows.{Rows}
use Rattle.drf_master.specs.Journal.{Begins, IsRunOf, IsNext, HasTaken}

pub begins-opened : (given : LimitNumbers) (start : Rows) (engine : Engine) → start ≡ opening → IsOpened given engine → Begins engine.limits start engine
begins-opened given start engine none opened = record { limits = refl; rows = opened.rows ∙ sym (ap live_rows none) }

pub run-begun : (given : LimitNumbers) (start : Rows) (engine : Engine) → Begins given start engine → IsRunOf given start [] engine
run-begun given start engine begins = record { limits = begins.limits; rows = begins.rows ∙ sym (ap live_rows (rows_of-nil given start)) }

pub run-same : (given : LimitNumbers) (start : Rows) (entries : List Entry) (old new : Engine) → IsRunOf given start entries old → IsSame old new → IsRunOf given start entries new
run-same given start entries old new run same = record { limits = same.limits ∙ run.limits; rows = same.rows ∙ run.rows }

pub run-push : (given : LimitNumbers) (start : Rows) (entries : List Entry) (e : Entry) (old new : Engine) → IsRunOf given start entries old → IsAfter old new e.event
    → IsRunOf given start (entries ++ e ∷ []) new
run-push given start entries e old new run after = record {
  limits = after.limits ∙ run.limits;
  rows = after.rows
      ∙ (ap (λ (l : LimitNumbers). live_rows (rows_after l old.rows e.event)) run.limits
      ∙ (rows_after-same_live given old.rows (rows_of given start entries) run.rows e.event
      ∙ ap live_rows (sym (rows_of-push given start entries e))));
}

-- a core after an event, with the reply to it, is the next state of the journal
pub is_next : (given : LimitNumbers) (start : Rows) (entries : List Entry) (old new : Engine) (event : Event) (reply : Reply) → IsLegal given start entries
    → IsRunOf given start entries old → reply ≡ reply_to old.limits old.rows event → IsAfter old new event → IsNext given start entries new (entry event reply)
is_next given start entries old new event reply legal run is after = record {
  legal = legal-push given start entries (entry event reply) legal
      (is ∙ (ap (λ (l : LimitNumbers). reply_to l old.rows event) run.limits ∙ reply_to-same_live given old.rows (rows_of given start entries) run.rows event));
  run = run-push given start entries (entry event reply) old new run after;
}

-- ---- a second core that lacks some entries

pub taken-more : (given : LimitNumbers) (start : Rows) (entries : List Entry) (e : Entry) (old new : Engine) (taken : ℕ) → HasTaken given start entries old taken
    → taken < length entries → take (taken + 1) entries ≡ take taken entries ++ e ∷ [] → IsAfter old new e.event → HasTaken given start entries new (taken + 1)
taken-more given start entries e old new taken has less more after = record {
  few = omega (arith, less);
  run = subst (λ (l : List Entry). IsRunOf given start l new) (sym more) (run-push given start (take taken entries) e old new has.run after);
}

pub taken-same : (given : LimitNumbers) (start : Rows) (entries : List Entry) (old new : Engine) (taken : ℕ) → HasTaken given start entries old taken → IsSame old new
    → HasTaken given start entries new taken
taken-same given start entries old new taken has same = record { few = has.few; run = run-same given start (take taken entries) old new has.run same }

-- ---- reports

pub reported : (given : LimitNumbers) (start : Rows) (entries : List Entry) (engine : Engine) → IsRunOf given start entries engine
    → report_of engine.rows ≡ report_of (rows_of given start entries)
reported given start entries engine run =
    sym (report_of-live engine.rows) ∙ (ap report_of run.rows ∙ report_of-live (rows_of given start entries))
