-- Drives: scripts that threads run on one master.
use Rattle.std.specs.Prelude.{◌≡◌, ℕ, ◌+◌, ◌%◌, ◌<◌, max, ◌⊎◌, List, [], ◌∷◌, ◌++◌, length, Result, Ok, Err}
use Rattle.std.specs.Global.{Vec}
use Rattle.drf_board.specs.History.{IsLegal, entry}
use Rattle.drf_board.specs.declared.entry.Entry.{Entry}
use Rattle.drf_rows.specs.LimitNumbers.{LimitNumbers}
use Rattle.drf_rows.specs.declared.event.Event.{Event}
use Rattle.drf_rows.specs.declared.reply.Reply.{Reply}
use Rattle.drf_rows.specs.declared.rows.Rows.{Rows}
use Rattle.drf_master.specs.Calling.{IsCallFault}
use Rattle.drf_master.specs.Closing.{AreOf, IsCloseFault}
use Rattle.drf_master.specs.Matching.{IsShuffle, receipts_of}
use Rattle.drf_master.specs.Receipts.{Held}
use Rattle.drf_master.specs.declared.driving.Done.{Done}
use Rattle.drf_master.specs.declared.driving.DriveFault.{DriveFault}
use Rattle.drf_master.specs.declared.driving.DriveFault.TheVariants.{Stopped, Memory, Close}
use Rattle.drf_master.specs.declared.driving.Job.{Job}
use Rattle.drf_master.specs.declared.driving.Undriven.{Undriven}
use Rattle.drf_master.specs.declared.driving.Undriven.TheVariants.{Undone, Unfit}
use Rattle.drf_master.specs.declared.master.CallFault.{CallFault}
use Rattle.drf_master.specs.declared.master.CallFault.TheVariants as calling
use Rattle.drf_master.specs.declared.master.CloseRefused.{CloseRefused}
use Rattle.drf_master.specs.declared.matching.CloseFault.TheVariants as why
use Rattle.drf_master.specs.declared.pass.Receipt.{Receipt}

-- ---- one script

-- the receipt of a call
abbrev pub receipt : ℕ → Event → Reply → Receipt
receipt place event reply = record { place = place; entry = entry event reply }

-- one receipt was added, for this event with this reply, at some place
pub record HasCalled (old new : Held) (event : Event) (reply : Reply) : Type 0 where
  pub key : new.key ≡ old.key
  pub place : ℕ
  pub receipts : new.receipts ≡ old.receipts ++ receipt place event reply ∷ []

-- receipts for these events with these replies, in order, at some places
abbrev pub AreReceipts : List Receipt → List Event → List Reply → Type 0
AreReceipts [] [] [] = Unit {0}
AreReceipts (r ∷ rs) (e ∷ es) (y ∷ ys) = (r ≡ receipt r.place e y) × AreReceipts rs es ys
AreReceipts _ _ _ = ⊥

-- the receipts that were added to a pass are those of a script with its replies, and no others
pub record HasRun (old : List Receipt) (script : List Event) (replies : List Reply) (new : List Receipt) : Type 0 where
  pub added : List Receipt
  pub receipts : new ≡ old ++ added
  pub are : AreReceipts added script replies

-- ---- all scripts

-- the receipts of each pass are those that it had, followed by those of its script with its replies
abbrev pub HaveRun : List Held → List (Vec Event) → List (Vec Reply) → List (List Receipt) → Type 0
HaveRun [] [] [] [] = Unit {0}
HaveRun (p ∷ ps) (s ∷ ss) (y ∷ ys) (l ∷ ls) = HasRun p.receipts s.items y.items l × HaveRun ps ss ys ls
HaveRun _ _ _ _ = ⊥

-- the journal is a shuffle of lists of receipts, one for each pass: those that it had, and then those of its script with its replies
pub record HasDriven (passes : List Held) (scripts : List (Vec Event)) (replies : List (Vec Reply)) (journal : List Entry) : Type 0 where
  pub lists : List (List Receipt)
  pub run : HaveRun passes scripts replies lists
  pub shuffle : IsShuffle journal lists

-- ---- the gate

-- the gate allowed a call of a worker, and saw it after it was made
abbrev pub IsAsked : (ℕ → ℕ → Type 0) → (ℕ → ℕ → Type 0) → ℕ → ℕ → Type 0
IsAsked lets sees worker call = lets worker call × sees worker call

-- something holds for the first `calls` calls, counted from 0
abbrev pub HoldsBelow : (ℕ → Type 0) → ℕ → Type 0
HoldsBelow asked calls = (call : ℕ) → call < calls → asked call

-- the gate allowed and saw each call of each script; the first script's worker has this number
abbrev pub AreAsked : (ℕ → ℕ → Type 0) → ℕ → List (Vec Event) → Type 0
AreAsked asked worker [] = Unit {0}
AreAsked asked worker (s ∷ ss) = HoldsBelow (asked worker) (length s.items) × AreAsked asked (worker + 1) ss

-- the gate stopped a worker at one of its calls, after it had allowed and seen the calls before
pub record IsStop (asked stops : ℕ → Type 0) (calls : ℕ) : Type 0 where
  pub call : ℕ
  pub few : call < calls
  pub stopped : stops call
  pub before : HoldsBelow asked call

-- the gate stopped a worker, after it had allowed and seen all calls of the workers before; the first worker has this number
abbrev pub HasStopped : (ℕ → ℕ → Type 0) → (ℕ → ℕ → Type 0) → ℕ → List (Vec Event) → Type 0
HasStopped asked stops worker [] = ⊥
HasStopped asked stops worker (s ∷ ss) =
    IsStop (asked worker) (stops worker) (length s.items)
    ⊎ (HoldsBelow (asked worker) (length s.items) × HasStopped asked stops (worker + 1) ss)

-- all scripts were run with passes of the master, which are `done` afterwards, with these replies
pub record HaveAllRun (asked : ℕ → ℕ → Type 0) (key : ℕ) (passes : List Held) (scripts : List (Vec Event)) (done : List Held) (replies : List (Vec Reply)) : Type 0 where
  pub own : AreOf key passes
  pub own_done : AreOf key done
  pub run : HaveRun passes scripts replies (receipts_of done)
  pub calls : AreAsked asked 0 scripts

-- ---- the lock

-- a call, counted from 0, is the last of `together` calls (at least one) for which the lock is kept
abbrev pub IsLastOf : ℕ → ℕ → Type 0
IsLastOf together call = (call + 1) % max together 1 ≡ 0

-- ---- what a failed drive returns

-- the error alone
abbrev pub fault_of : {K : Type 0} → Undriven K → DriveFault
fault_of (Undone fault) = fault
fault_of (Unfit refused) = Close refused.fault

-- the error of closing is true of the passes and the book, whose journal is legal and is the list `told`
pub record IsCloseRefused {K : Type 0} (given : LimitNumbers) (start : Rows) (key : ℕ) (passes : List Held) (refused : CloseRefused K) : Type 0 where
  pub kept : refused.passes.items ≡ passes
  pub limits : refused.book.limits ≡ given
  pub legal : IsLegal given start refused.book.entries
  pub told : refused.told ≡ refused.book.entries
  pub fault : IsCloseFault refused.book.entries key passes refused.fault
  pub exact : AreOf key passes → IsShuffle refused.book.entries (receipts_of passes) → refused.fault ≡ why.Memory

-- closing failed, and this is what is returned
abbrev pub IsRefused : {K : Type 0} → LimitNumbers → Rows → ℕ → List Held → Undriven K → Type 0
IsRefused given start key passes (Undone fault) = ⊥
IsRefused given start key passes (Unfit refused) = IsCloseRefused given start key passes refused

-- all scripts were run, and the book and the passes are returned, which were not found to fit
pub record IsUnfit {K : Type 0} (given : LimitNumbers) (start : Rows) (asked : ℕ → ℕ → Type 0) (key : ℕ) (passes : List Held) (scripts : List (Vec Event)) (refused : CloseRefused K) : Type 0 where
  pub replies : List (Vec Reply)
  pub run : HaveAllRun asked key passes scripts refused.passes.items replies
  pub handed_back : IsCloseRefused given start key refused.passes.items refused

-- ---- jobs

-- the error of a call, as the error of a drive
abbrev pub drive_fault : CallFault → DriveFault
drive_fault calling.Stranger = Close why.Stranger
drive_fault calling.Memory = Memory

-- why a worker's call was not made: the gate stopped it, or the master returned an error
abbrev pub IsCallStop : Type 0 → ℕ → Held → DriveFault → Type 0
IsCallStop stopped key pass Stopped = stopped
IsCallStop stopped key pass Memory = IsCallFault key pass calling.Memory
IsCallStop stopped key pass (Close why.Stranger) = IsCallFault key pass calling.Stranger
IsCallStop stopped key pass (Close why.Missing) = ⊥
IsCallStop stopped key pass (Close (why.Mismatch place)) = ⊥
IsCallStop stopped key pass (Close why.Memory) = ⊥

-- why a worker did not make all its calls; its pass is gone
abbrev pub IsJobFault : (ℕ → Type 0) → (ℕ → Type 0) → ℕ → DriveFault → Type 0
IsJobFault asked stops calls Stopped = IsStop asked stops calls
IsJobFault asked stops calls Memory = Unit {0}
IsJobFault asked stops calls (Close fault) = ⊥

-- a pass has made the calls of a script, and the gate allowed and saw each
pub record IsThrough (asked : ℕ → Type 0) (old : Held) (script : List Event) (replies : List Reply) (new : Held) : Type 0 where
  pub key : new.key ≡ old.key
  pub run : HasRun old.receipts script replies new.receipts
  pub calls : HoldsBelow asked (length script)

-- after `made` of `calls` calls the gate stopped the worker at the next, or memory ran out
abbrev pub IsCut : (ℕ → Type 0) → ℕ → ℕ → DriveFault → Type 0
IsCut stops made calls Stopped = (made < calls) × stops made
IsCut stops made calls Memory = Unit {0}
IsCut stops made calls (Close fault) = ⊥

-- a pass has made the first calls of a script, in order, and no others; the gate allowed and saw each; and then this error occurred
pub record IsCutShort (asked stops : ℕ → Type 0) (old : Held) (script : List Event) (new : Held) (fault : DriveFault) : Type 0 where
  pub made : List Event
  pub left : List Event
  pub prefix : script ≡ made ++ left
  pub replies : List Reply
  pub through : IsThrough asked old made replies new
  pub cause : IsCut stops (length made) (length script) fault

-- a job succeeded or failed as its result says
abbrev pub DidJob : (ℕ → ℕ → Type 0) → (ℕ → ℕ → Type 0) → Job → Result Done DriveFault → Type 0
DidJob asked stops job (Ok done) = IsThrough (asked job.worker) job.pass job.script.items done.replies.items done.pass
DidJob asked stops job (Err fault) = IsJobFault (asked job.worker) (stops job.worker) (length job.script.items) fault

-- the same for each job
abbrev pub DidJobs : (ℕ → ℕ → Type 0) → (ℕ → ℕ → Type 0) → List Job → List (Result Done DriveFault) → Type 0
DidJobs asked stops [] [] = Unit {0}
DidJobs asked stops (j ∷ js) (r ∷ rs) = DidJob asked stops j r × DidJobs asked stops js rs
DidJobs asked stops _ _ = ⊥

-- jobs whose workers are numbered in order, from this number on
abbrev pub AreNumbered : ℕ → List Job → Type 0
AreNumbered worker [] = Unit {0}
AreNumbered worker (j ∷ js) = (j.worker ≡ worker) × AreNumbered (worker + 1) js

-- all results are of jobs that succeeded, with these passes and replies
abbrev pub AreDone : List (Result Done DriveFault) → List Held → List (Vec Reply) → Type 0
AreDone [] [] [] = Unit {0}
AreDone (Ok done ∷ rs) (p ∷ ps) (y ∷ ys) = (done.pass ≡ p) × ((done.replies ≡ y) × AreDone rs ps ys)
AreDone _ _ _ = ⊥

-- the error of the first job that failed
abbrev pub IsFirstFault : List (Result Done DriveFault) → DriveFault → Type 0
IsFirstFault [] fault = ⊥
IsFirstFault (Ok done ∷ rs) fault = IsFirstFault rs fault
IsFirstFault (Err first ∷ rs) fault = fault ≡ first

-- why not all scripts were run
abbrev pub IsRunFault : (ℕ → ℕ → Type 0) → (ℕ → ℕ → Type 0) → ℕ → List Held → List (Vec Event) → DriveFault → Type 0
IsRunFault asked stops key passes scripts Stopped = AreOf key passes × HasStopped asked stops 0 scripts
IsRunFault asked stops key passes scripts Memory = AreOf key passes
IsRunFault asked stops key passes scripts (Close why.Stranger) = ¬ AreOf key passes
IsRunFault asked stops key passes scripts (Close why.Missing) = ⊥
IsRunFault asked stops key passes scripts (Close (why.Mismatch place)) = ⊥
IsRunFault asked stops key passes scripts (Close why.Memory) = ⊥

-- Which error a drive returns. `Stranger`: a pass has another key. `Stopped`: the gate stopped a worker, and no worker before it. An error of
-- closing:
-- all workers made all their calls, and the book and the passes are returned.
abbrev pub IsUndriven : {K : Type 0} → LimitNumbers → Rows → (ℕ → ℕ → Type 0) → (ℕ → ℕ → Type 0) → ℕ → List Held → List (Vec Event) → Undriven K → Type 0
IsUndriven given start asked stops key passes scripts (Undone fault) = IsRunFault asked stops key passes scripts fault
IsUndriven given start asked stops key passes scripts (Unfit refused) = IsUnfit given start asked key passes scripts refused
