-- Lemmas about drives.
use Rattle.std.proofs.Common.{◌≡◌, ℕ, suc, ◌+◌, ◌<◌, ◌⊎◌, inl, inr, List, [], ◌∷◌, ◌++◌, length, Result, Ok, Err, map, slice_index_or, refl, sym, ap, subst, ◌∙◌, append_assoc, arith}
use Rattle.std.proofs.Math.Nat.{eq-or-lt_of_le}
use Rattle.std.proofs.lemmas.List.{append-nil, length-append, length-map, map_push}
use Rattle.std.proofs.lemmas.List.Elements.{All-cons, All-head, All-nil, All-tail}
use Rattle.std.specs.Global.{Vec}
use Rattle.std.specs.Prelude.{All, IfOk}
use Rattle.drf_board.specs.declared.entry.Entry.{Entry}
use Rattle.drf_rows.specs.LimitNumbers.{LimitNumbers}
use Rattle.drf_rows.specs.declared.event.Event.{Event}
use Rattle.drf_rows.specs.declared.reply.Reply.{Reply}
use Rattle.drf_rows.specs.declared.rows.Rows.{Rows}
use Rattle.drf_master.specs.Closing.{AreOf}
use Rattle.drf_master.specs.Matching.{IsShuffle, receipts_of}
use Rattle.drf_master.specs.Receipts.{Held, IsSamePass, Keeps}
use Rattle.drf_master.specs.Scripts.{receipt, AreAsked, AreDone, AreNumbered, AreReceipts, DidJob, DidJobs, HasCalled, HasDriven, HasRun, HasStopped, HaveAllRun, HaveRun, HoldsBelow, IsCallStop, IsCloseRefused, IsCut, IsCutShort, IsFirstFault, IsJobFault, IsRefused, IsRunFault, IsThrough, IsUndriven}
use Rattle.drf_master.specs.declared.driving.Done.{Done}
use Rattle.drf_master.specs.declared.driving.DriveFault.{DriveFault}
use Rattle.drf_master.specs.declared.driving.DriveFault.TheVariants.{Stopped, Memory, Close}
use Rattle.drf_master.specs.declared.driving.Job.{Job}
use Rattle.drf_master.specs.declared.driving.Undriven.{Undriven}
use Rattle.drf_master.specs.declared.driving.Undriven.TheVariants.{Undone, Unfit}
use Rattle.drf_master.specs.declared.matching.CloseFault.TheVariants as why
use Rattle.drf_master.specs.declared.pass.Receipt.{Receipt}

-- ---- a list that a loop goes through

prefix-less : {X : Type 0} (prefix rest : List X) (x : X) → length prefix < length (prefix ++ x ∷ rest)
prefix-less [] rest x = omega arith
prefix-less (y ∷ prefix) rest x = omega (arith, prefix-less prefix rest x)

pub less-of_split : {X : Type 0} (xs prefix left rest : List X) (x : X) → xs ≡ prefix ++ left → left ≡ x ∷ rest → length prefix < length xs
less-of_split xs prefix left rest x whole split =
    subst (λ (l : List _). length prefix < length l) (sym (whole ∙ ap (λ (l : List _). prefix ++ l) split)) (prefix-less prefix rest x)

pub whole-next : {X : Type 0} (xs prefix left rest : List X) (x : X) → xs ≡ prefix ++ left → left ≡ x ∷ rest → xs ≡ (prefix ++ x ∷ []) ++ rest
whole-next xs prefix left rest x whole split = whole ∙ (ap (λ (l : List _). prefix ++ l) split ∙ sym (append_assoc prefix (x ∷ []) rest))

-- ---- one script

are-push : (rs : List Receipt) (es : List Event) (ys : List Reply) (place : ℕ) (e : Event) (y : Reply) → AreReceipts rs es ys
    → AreReceipts (rs ++ receipt place e y ∷ []) (es ++ e ∷ []) (ys ++ y ∷ [])
are-push [] [] [] place e y are = (refl, tt)
are-push (r ∷ rs) (e' ∷ es) (y' ∷ ys) place e y are = (are.0, are-push rs es ys place e y are.1)
are-push [] [] (y' ∷ ys) place e y are = absurd are
are-push [] (e' ∷ es) [] place e y are = absurd are
are-push [] (e' ∷ es) (y' ∷ ys) place e y are = absurd are
are-push (r ∷ rs) [] [] place e y are = absurd are
are-push (r ∷ rs) [] (y' ∷ ys) place e y are = absurd are
are-push (r ∷ rs) (e' ∷ es) [] place e y are = absurd are

as-many : (rs : List Receipt) (es : List Event) (ys : List Reply) → AreReceipts rs es ys → length ys ≡ length es
as-many [] [] [] are = refl
as-many (r ∷ rs) (e ∷ es) (y ∷ ys) are = ap (λ (n : ℕ). suc n) (as-many rs es ys are.1)
as-many [] [] (y ∷ ys) are = absurd are
as-many [] (e ∷ es) [] are = absurd are
as-many [] (e ∷ es) (y ∷ ys) are = absurd are
as-many (r ∷ rs) [] [] are = absurd are
as-many (r ∷ rs) [] (y ∷ ys) are = absurd are
as-many (r ∷ rs) (e ∷ es) [] are = absurd are

run-starts : (old : List Receipt) → HasRun old [] [] old
run-starts old = record { added = []; receipts = sym (append-nil old); are = tt }

run-goes_on : (old mid new : List Receipt) (es : List Event) (ys : List Reply) (place : ℕ) (e : Event) (y : Reply) → HasRun old es ys mid
    → new ≡ mid ++ receipt place e y ∷ [] → HasRun old (es ++ e ∷ []) (ys ++ y ∷ []) new
run-goes_on old mid new es ys place e y run more = record {
  added = run.added ++ receipt place e y ∷ [];
  receipts = more ∙ (ap (λ (l : List Receipt). l ++ receipt place e y ∷ []) run.receipts ∙ append_assoc old run.added (receipt place e y ∷ []));
  are = are-push run.added es ys place e y run.are;
}

holds-push : (asked : ℕ → Type 0) (calls : ℕ) → HoldsBelow asked calls → asked calls → HoldsBelow asked (suc calls)
holds-push asked calls below last call few = elim (eq-or-lt_of_le {n = call} {m = calls} (omega (arith, few))) [
  | inl same ↦ subst asked (sym same) last
  | inr less ↦ below call less
]

length-push : (es : List Event) (e : Event) → length (es ++ e ∷ []) ≡ suc (length es)
length-push [] e = refl
length-push (e' ∷ es) e = ap (λ (n : ℕ). suc n) (length-push es e)

pub through-starts : (asked : ℕ → Type 0) (old new : Held) → IsSamePass old new → IsThrough asked old [] [] new
through-starts asked old new same = record {
  key = same.key;
  run = subst (HasRun old.receipts [] []) (sym same.receipts) (run-starts old.receipts);
  calls = λ call few. absurd (omega (arith, few));
}

pub through-goes_on : (asked : ℕ → Type 0) (old mid new : Held) (es : List Event) (ys : List Reply) (e : Event) (y : Reply) → IsThrough asked old es ys mid
    → HasCalled mid new e y → asked (length ys) → IsThrough asked old (es ++ e ∷ []) (ys ++ y ∷ []) new
through-goes_on asked old mid new es ys e y so_far called last = record {
  key = called.key ∙ so_far.key;
  run = run-goes_on old.receipts mid.receipts new.receipts es ys called.place e y so_far.run called.receipts;
  calls = subst (HoldsBelow asked) (sym (length-push es e))
      (holds-push asked (length es) so_far.calls (subst asked (as-many so_far.run.added es ys so_far.run.are) last));
}

pub through-count : (asked : ℕ → Type 0) (old new : Held) (es : List Event) (ys : List Reply) → IsThrough asked old es ys new → length ys ≡ length es
through-count asked old new es ys so_far = as-many so_far.run.added es ys so_far.run.are

through-same : (asked : ℕ → Type 0) (old mid new : Held) (es : List Event) (ys : List Reply) → IsThrough asked old es ys mid → IsSamePass mid new
    → IsThrough asked old es ys new
through-same asked old mid new es ys so_far same = record {
  key = same.key ∙ so_far.key;
  run = subst (HasRun old.receipts es ys) (sym same.receipts) so_far.run;
  calls = so_far.calls;
}

cut-cause : (asked stops : ℕ → Type 0) (key : ℕ) (old mid : Held) (calls : ℕ) (es : List Event) (ys : List Reply) (fault : DriveFault) → old.key ≡ key
    → IsThrough asked old es ys mid → length es < calls → IsCallStop (stops (length ys)) key mid fault → IsCut stops (length es) calls fault
cut-cause asked stops key old mid calls es ys Stopped own so_far few stop =
    (few, subst stops (as-many so_far.run.added es ys so_far.run.are) stop)
cut-cause asked stops key old mid calls es ys Memory own so_far few stop = tt
cut-cause asked stops key old mid calls es ys (Close why.Stranger) own so_far few stop = absurd (stop (so_far.key ∙ own))
cut-cause asked stops key old mid calls es ys (Close why.Missing) own so_far few stop = absurd stop
cut-cause asked stops key old mid calls es ys (Close (why.Mismatch place)) own so_far few stop = absurd stop
cut-cause asked stops key old mid calls es ys (Close why.Memory) own so_far few stop = absurd stop

-- a call that was not made cuts the script short
pub cut-at : (asked stops : ℕ → Type 0) (key : ℕ) (old mid new : Held) (script es rest : List Event) (ys : List Reply) (fault : DriveFault) → old.key ≡ key
    → script ≡ es ++ rest → IsThrough asked old es ys mid → IsSamePass mid new → length es < length script → IsCallStop (stops (length ys)) key mid fault
    → IsCutShort asked stops old script new fault
cut-at asked stops key old mid new script es rest ys fault own split so_far same few stop = record {
  made = es;
  left = rest;
  prefix = split;
  replies = ys;
  through = through-same asked old mid new es ys so_far same;
  cause = cut-cause asked stops key old mid (length script) es ys fault own so_far few stop;
}

-- running out of memory before the first call does, too
pub cut-before : (asked stops : ℕ → Type 0) (old new : Held) (script : List Event) → IsSamePass old new → IsCutShort asked stops old script new Memory
cut-before asked stops old new script same = record {
  made = [];
  left = script;
  prefix = refl;
  replies = [];
  through = through-starts asked old new same;
  cause = tt;
}

pub job-cut : (asked stops : ℕ → Type 0) (old new : Held) (script : List Event) (fault : DriveFault) → IsCutShort asked stops old script new fault
    → IsJobFault asked stops (length script) fault
job-cut asked stops old new script Stopped cut =
    record { call = length cut.made; few = cut.cause.0; stopped = cut.cause.1; before = cut.through.calls }
job-cut asked stops old new script Memory cut = tt
job-cut asked stops old new script (Close fault) cut = absurd cut.cause

-- ---- jobs

prefix-all : {X : Type 0} (xs prefix rest : List X) → xs ≡ prefix ++ rest → length rest ≡ 0 → prefix ≡ xs
prefix-all xs prefix [] whole none = sym (whole ∙ append-nil prefix)
prefix-all xs prefix (y ∷ rest) whole none = absurd (omega (arith, none))

numbered-push : (n : ℕ) (jobs : List Job) (job : Job) → AreNumbered n jobs → job.worker ≡ n + length jobs → AreNumbered n (jobs ++ job ∷ [])
numbered-push n [] job are next = (omega (arith, next), tt)
numbered-push n (j ∷ jobs) job are next = (are.0, numbered-push (n + 1) jobs job are.1 (omega (arith, next)))

-- the passes and scripts of the jobs made so far, and those that are left
pub record IsShared (passes : List Held) (scripts : List (Vec Event)) (jobs : List Job) (ps : List Held) (ss : List (Vec Event)) : Type 0 where
  pub own : passes ≡ map (λ j. j.pass) jobs ++ ps
  pub given : scripts ≡ map (λ j. j.script) jobs ++ ss
  pub numbers : AreNumbered 0 jobs

pub shared-next : (passes : List Held) (scripts : List (Vec Event)) (jobs : List Job) (ps rest : List Held) (ss others : List (Vec Event)) (job : Job)
    → IsShared passes scripts jobs ps ss → ps ≡ job.pass ∷ rest → ss ≡ job.script ∷ others → job.worker ≡ length jobs
    → IsShared passes scripts (jobs ++ job ∷ []) rest others
shared-next passes scripts jobs ps rest ss others job is split split_scripts next = record {
  own = whole-next passes (map (λ (j : Job). j.pass) jobs) ps rest job.pass is.own split
      ∙ ap (λ (l : List Held). l ++ rest) (sym (map_push (λ (j : Job). j.pass) jobs job));
  given = whole-next scripts (map (λ (j : Job). j.script) jobs) ss others job.script is.given split_scripts
      ∙ ap (λ (l : List (Vec Event)). l ++ others) (sym (map_push (λ (j : Job). j.script) jobs job));
  numbers = numbered-push 0 jobs job is.numbers (omega (arith, next));
}

none-left : (n a b p s : ℕ) → p ≡ n + a → s ≡ n + b → s ≡ p → (a ≡ 0) ⊎ (b ≡ 0) → (a ≡ 0) × (b ≡ 0)
none-left n a b p s passes scripts count (inl none) = (none, omega (arith, passes, scripts, count, none))
none-left n a b p s passes scripts count (inr none) = (omega (arith, passes, scripts, count, none), none)

pub shared-end : (passes : List Held) (scripts : List (Vec Event)) (jobs : List Job) (ps : List Held) (ss : List (Vec Event))
    → IsShared passes scripts jobs ps ss → length scripts ≡ length passes → (length ps ≡ 0) ⊎ (length ss ≡ 0)
    → (map (λ j. j.pass) jobs ≡ passes) × (map (λ j. j.script) jobs ≡ scripts)
shared-end passes scripts jobs ps ss is count ended =
    let own = ap (λ (l : List Held). length l) is.own
    ∙ (length-append (map (λ (j : Job). j.pass) jobs) ps ∙ ap (λ (n : ℕ). n + length ps) (length-map jobs (λ (j : Job). j.pass))) in
    let given = ap (λ (l : List (Vec Event)). length l) is.given
    ∙ (length-append (map (λ (j : Job). j.script) jobs) ss ∙ ap (λ (n : ℕ). n + length ss) (length-map jobs (λ (j : Job). j.script))) in
    let none = none-left (length jobs) (length ps) (length ss) (length passes) (length scripts) own given count ended in
    (prefix-all passes (map (λ (j : Job). j.pass) jobs) ps is.own none.0, prefix-all scripts (map (λ (j : Job). j.script) jobs) ss is.given none.1)

pub did-jobs : (asked stops : ℕ → ℕ → Type 0) (jobs : List Job) (results : List (Result Done DriveFault)) → length results ≡ length jobs
    → ((i : ℕ) (d : Result Done DriveFault) (e : Job) → i < length jobs → DidJob asked stops (slice_index_or jobs i e) (slice_index_or results i d))
    → DidJobs asked stops jobs results
did-jobs asked stops [] [] count each = tt
did-jobs asked stops [] (r ∷ results) count each = absurd (omega (arith, count))
did-jobs asked stops (j ∷ jobs) [] count each = absurd (omega (arith, count))
did-jobs asked stops (j ∷ jobs) (r ∷ results) count each =
    (each 0 r j (omega arith), did-jobs asked stops jobs results (omega (arith, count)) (λ i d e below. each (suc i) d e (omega (arith, below))))

-- ---- all results

pub done-push : (results : List (Result Done DriveFault)) (passes : List Held) (replies : List (Vec Reply)) (done : Done) → AreDone results passes replies
    → AreDone (results ++ Ok done ∷ []) (passes ++ done.pass ∷ []) (replies ++ done.replies ∷ [])
done-push [] [] [] done are = (refl, (refl, tt))
done-push (Ok d ∷ rs) (p ∷ ps) (y ∷ ys) done are = (are.0, (are.1.0, done-push rs ps ys done are.1.1))
done-push (Ok d ∷ rs) [] [] done are = absurd are
done-push (Ok d ∷ rs) [] (y ∷ ys) done are = absurd are
done-push (Ok d ∷ rs) (p ∷ ps) [] done are = absurd are
done-push (Err f ∷ rs) ps ys done are = absurd are
done-push [] [] (y ∷ ys) done are = absurd are
done-push [] (p ∷ ps) [] done are = absurd are
done-push [] (p ∷ ps) (y ∷ ys) done are = absurd are

-- after results that succeeded, the next error is the first
pub first-fault : (results : List (Result Done DriveFault)) (passes : List Held) (replies : List (Vec Reply)) (fault : DriveFault)
    (rest : List (Result Done DriveFault)) → AreDone results passes replies → IsFirstFault (results ++ Err fault ∷ rest) fault
first-fault [] passes replies fault rest are = refl
first-fault (Ok d ∷ rs) (p ∷ ps) (y ∷ ys) fault rest are = first-fault rs ps ys fault rest are.1.1
first-fault (Ok d ∷ rs) [] [] fault rest are = absurd are
first-fault (Ok d ∷ rs) [] (y ∷ ys) fault rest are = absurd are
first-fault (Ok d ∷ rs) (p ∷ ps) [] fault rest are = absurd are
first-fault (Err f ∷ rs) ps ys fault rest are = absurd are

pub done-lengths : (results : List (Result Done DriveFault)) (passes : List Held) (replies : List (Vec Reply)) → AreDone results passes replies
    → (length passes ≡ length results) × (length replies ≡ length results)
done-lengths [] [] [] are = (refl, refl)
done-lengths (Ok d ∷ rs) (p ∷ ps) (y ∷ ys) are =
    let more = done-lengths rs ps ys are.1.1 in
    (ap (λ (n : ℕ). suc n) more.0, ap (λ (n : ℕ). suc n) more.1)
done-lengths (Ok d ∷ rs) [] [] are = absurd are
done-lengths (Ok d ∷ rs) [] (y ∷ ys) are = absurd are
done-lengths (Ok d ∷ rs) (p ∷ ps) [] are = absurd are
done-lengths (Err f ∷ rs) ps ys are = absurd are
done-lengths [] [] (y ∷ ys) are = absurd are
done-lengths [] (p ∷ ps) [] are = absurd are
done-lengths [] (p ∷ ps) (y ∷ ys) are = absurd are

-- what holds if all jobs succeeded
record IsAllThrough (asked : ℕ → ℕ → Type 0) (worker key : ℕ) (jobs : List Job) (passes : List Held) (replies : List (Vec Reply)) : Type 0 where
  own : AreOf key passes
  run : HaveRun (map (λ j. j.pass) jobs) (map (λ j. j.script) jobs) replies (receipts_of passes)
  calls : AreAsked asked worker (map (λ j. j.script) jobs)

all-through : (asked stops : ℕ → ℕ → Type 0) (n key : ℕ) (jobs : List Job) (results : List (Result Done DriveFault)) (passes : List Held)
    (replies : List (Vec Reply)) → AreOf key (map (λ j. j.pass) jobs) → AreNumbered n jobs → DidJobs asked stops jobs results
    → AreDone results passes replies → IsAllThrough asked n key jobs passes replies
all-through asked stops n key [] [] [] [] own numbers did are = record { own = All-nil (λ (h : Held). h.key ≡ key); run = tt; calls = tt }
all-through asked stops n key (j ∷ js) (Ok d ∷ rs) (p ∷ ps) (y ∷ ys) own numbers did are =
    let rest = all-through asked stops (n + 1) key js rs ps ys (All-tail (λ (h : Held). h.key ≡ key) j.pass (map (λ j. j.pass) js) own) numbers.1 did.1 are.1.1 in
    let here : IsThrough (asked n) j.pass j.script.items y.items p =
    subst (λ (x : ℕ × (Held × Vec Reply)). IsThrough (asked x.0) j.pass j.script.items x.1.1.items x.1.0) (λ i. (numbers.0 i, (are.0 i, are.1.0 i))) did.0 in
    record { own = All-cons (λ (h : Held). h.key ≡ key) p ps (here.key ∙ All-head (λ (h : Held). h.key ≡ key) j.pass (map (λ j. j.pass) js) own) rest.own; run = (here.run, rest.run); calls = (here.calls, rest.calls) }
all-through asked stops n key [] [] [] (y ∷ ys) own numbers did are = absurd are
all-through asked stops n key [] [] (p ∷ ps) [] own numbers did are = absurd are
all-through asked stops n key [] [] (p ∷ ps) (y ∷ ys) own numbers did are = absurd are
all-through asked stops n key [] (r ∷ rs) ps ys own numbers did are = absurd did
all-through asked stops n key (j ∷ js) [] ps ys own numbers did are = absurd did
all-through asked stops n key (j ∷ js) (Err f ∷ rs) ps ys own numbers did are = absurd are
all-through asked stops n key (j ∷ js) (Ok d ∷ rs) [] [] own numbers did are = absurd are
all-through asked stops n key (j ∷ js) (Ok d ∷ rs) [] (y ∷ ys) own numbers did are = absurd are
all-through asked stops n key (j ∷ js) (Ok d ∷ rs) (p ∷ ps) [] own numbers did are = absurd are

pub all-run : (asked stops : ℕ → ℕ → Type 0) (key : ℕ) (jobs : List Job) (results : List (Result Done DriveFault)) (own : List Held)
    (scripts : List (Vec Event)) (passes : List Held) (replies : List (Vec Reply)) → AreOf key own → map (λ j. j.pass) jobs ≡ own
    → map (λ j. j.script) jobs ≡ scripts → AreNumbered 0 jobs → DidJobs asked stops jobs results → AreDone results passes replies
    → HaveAllRun asked key own scripts passes replies
all-run asked stops key jobs results own scripts passes replies are_own same_passes same_scripts numbers did are =
    let all = all-through asked stops 0 key jobs results passes replies (subst (AreOf key) (sym same_passes) are_own) numbers did are in
    record {
      own = are_own;
      own_done = all.own;
      run = subst (λ (x : List Held × List (Vec Event)). HaveRun x.0 x.1 replies (receipts_of passes)) (λ i. (same_passes i, same_scripts i)) all.run;
      calls = subst (AreAsked asked 0) same_scripts all.calls;
    }

pub own-jobs : (key : ℕ) (jobs : List Job) → AreOf key (map (λ j. j.pass) jobs) → All (λ (j : Job). j.pass.key ≡ key) jobs
own-jobs key [] own = All-nil (λ (j : Job). j.pass.key ≡ key)
own-jobs key (j ∷ jobs) own =
    All-cons (λ (j : Job). j.pass.key ≡ key) j jobs (All-head (λ (h : Held). h.key ≡ key) j.pass (map (λ j. j.pass) jobs) own)
    (own-jobs key jobs (All-tail (λ (h : Held). h.key ≡ key) j.pass (map (λ j. j.pass) jobs) own))

-- ---- errors

-- why the first job that failed did
abbrev job-fault : (asked stops : ℕ → ℕ → Type 0) → ℕ → List (Vec Event) → DriveFault → Type 0
job-fault asked stops n scripts Stopped = HasStopped asked stops n scripts
job-fault asked stops n scripts Memory = Unit {0}
job-fault asked stops n scripts (Close fault) = ⊥

fault-here : (asked stops : ℕ → ℕ → Type 0) (n : ℕ) (s : Vec Event) (ss : List (Vec Event)) (fault : DriveFault)
    → IsJobFault (asked n) (stops n) (length s.items) fault → job-fault asked stops n (s ∷ ss) fault
fault-here asked stops n s ss Stopped is = inl is
fault-here asked stops n s ss Memory is = tt
fault-here asked stops n s ss (Close fault) is = absurd is

fault-later : (asked stops : ℕ → ℕ → Type 0) (n : ℕ) (s : Vec Event) (ss : List (Vec Event)) (fault : DriveFault)
    → HoldsBelow (asked n) (length s.items) → job-fault asked stops (n + 1) ss fault → job-fault asked stops n (s ∷ ss) fault
fault-later asked stops n s ss Stopped done is = inr (done, is)
fault-later asked stops n s ss Memory done is = tt
fault-later asked stops n s ss (Close fault) done is = absurd is

first-job : (asked stops : ℕ → ℕ → Type 0) (n : ℕ) (jobs : List Job) (results : List (Result Done DriveFault)) (fault : DriveFault)
    → AreNumbered n jobs → DidJobs asked stops jobs results → IsFirstFault results fault → job-fault asked stops n (map (λ j. j.script) jobs) fault
first-job asked stops n (j ∷ js) (Ok d ∷ rs) fault numbers did first =
    fault-later asked stops n j.script (map (λ j. j.script) js) fault (subst (λ (m : ℕ). HoldsBelow (asked m) (length j.script.items)) numbers.0 did.0.calls)
    (first-job asked stops (n + 1) js rs fault numbers.1 did.1 first)
first-job asked stops n (j ∷ js) (Err f ∷ rs) fault numbers did first =
    fault-here asked stops n j.script (map (λ j. j.script) js) fault
    (subst (λ (x : ℕ × DriveFault). IsJobFault (asked x.0) (stops x.0) (length j.script.items) x.1) (λ i. (numbers.0 i, sym first i)) did.0)
first-job asked stops n [] [] fault numbers did first = absurd first
first-job asked stops n [] (r ∷ rs) fault numbers did first = absurd did
first-job asked stops n (j ∷ js) [] fault numbers did first = absurd did

as-run-fault : (asked stops : ℕ → ℕ → Type 0) (key : ℕ) (own : List Held) (scripts : List (Vec Event)) (fault : DriveFault) → AreOf key own
    → job-fault asked stops 0 scripts fault → IsRunFault asked stops key own scripts fault
as-run-fault asked stops key own scripts Stopped are_own is = (are_own, is)
as-run-fault asked stops key own scripts Memory are_own is = are_own
as-run-fault asked stops key own scripts (Close fault) are_own is = absurd is

pub run-fault : (asked stops : ℕ → ℕ → Type 0) (key : ℕ) (jobs : List Job) (results : List (Result Done DriveFault)) (own : List Held)
    (scripts : List (Vec Event)) (fault : DriveFault) → AreOf key own → map (λ j. j.script) jobs ≡ scripts → AreNumbered 0 jobs
    → DidJobs asked stops jobs results → IsFirstFault results fault → IsRunFault asked stops key own scripts fault
run-fault asked stops key jobs results own scripts fault are_own same_scripts numbers did first =
    as-run-fault asked stops key own scripts fault are_own
    (subst (λ (ss : List (Vec Event)). job-fault asked stops 0 ss fault) same_scripts (first-job asked stops 0 jobs results fault numbers did first))

-- what `Master::close` returns with an error is what the drive returns
pub drive-refused : {K : Type 0} (given : LimitNumbers) (start : Rows) (asked stops : ℕ → ℕ → Type 0) (key : ℕ) (own : List Held) (scripts : List (Vec Event)) (done : List Held)
    (replies : List (Vec Reply)) → HaveAllRun asked key own scripts done replies → (r : Undriven K) → IsRefused given start key done r
    → IsUndriven given start asked stops key own scripts r
drive-refused given start asked stops key own scripts done replies all (Undone fault) is = absurd is
drive-refused given start asked stops key own scripts done replies all (Unfit refused) is = record {
  replies = replies;
  run = subst (λ (ps : List Held). HaveAllRun asked key own scripts ps replies) (sym is.kept) all;
  handed_back = subst (λ (ps : List Held). IsCloseRefused given start key ps refused) (sym is.kept) is;
}

pub has-driven : (asked : ℕ → ℕ → Type 0) (key : ℕ) (own : List Held) (scripts : List (Vec Event)) (done : List Held) (replies : List (Vec Reply))
    (journal : List Entry) → HaveAllRun asked key own scripts done replies → IsShuffle journal (receipts_of done) → HasDriven own scripts replies journal
has-driven asked key own scripts done replies journal all shuffle = record { lists = receipts_of done; run = all.run; shuffle = shuffle }

-- ---- results that are `Ok`

pub keeps-same : (old mid new : Held) (place : ℕ) (e : Entry) → IsSamePass old mid → Keeps mid new place e → Keeps old new place e
keeps-same old mid new place e same kept = record {
  key = kept.key ∙ same.key;
  receipts = kept.receipts ∙ ap (λ (l : List Receipt). l ++ record { place = place; entry = e } ∷ []) same.receipts;
}

pub if_ok : {T F : Type 0} (P Q : T → Type 0) (r : Result T F) → ((x : T) → P x → Q x) → IfOk r P → IfOk r Q
if_ok P Q (Ok x) more told = more x told
if_ok P Q (Err fault) more told = tt
