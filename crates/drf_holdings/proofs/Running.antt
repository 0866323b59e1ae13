-- Tasks that are found by their listed serial numbers.
use Rattle.std.specs.Prelude.{◌≡◌, ℕ, ◌+◌, ◌==◌, ◌<◌, ◌≤◌, ◌||◌, Bool, cond, length, true, false, List, [], ◌∷◌, ◌++◌, map, filter, slice_get, Some, None}
use Rattle.std.specs.List.{list_any, AllByRecursion}
use Rattle.std.proofs.Common.{refl, sym, ap, subst, ◌∙◌, inl, inr, append_assoc, arith}
use Rattle.std.proofs.lemmas.Bool.{or_parts, cases_Bool, and_from, false≢true}
use Rattle.std.proofs.lemmas.List.{length-map, map-append}
use Rattle.drf_role.specs.Text.{Text, same_text}
use Rattle.drf_role.specs.TextLaws.{same_itself}
use Rattle.drf_row_laws.proofs.ReleaseLaws.{each-out}
use Rattle.drf_rows.specs.Releases.{is_task}
use Rattle.drf_rows.specs.Offers.{AreNew}
use Rattle.drf_rows.specs.Holdings.{Holding, holding_of_task}
use Rattle.drf_rows.specs.declared.rows.TaskRow.{TaskRow}
use Rattle.drf_holdings.specs.Listed.{task_serial, task_row, task_of, task_named, TaskKey, AreTasksListed, AreTasksKept}
use Rattle.drf_holdings.specs.declared.tasks.Task.{Task}
use Rattle.drf_holdings.specs.declared.tasks.TaskIndex.{TaskIndex}
use Rattle.drf_holdings.specs.Rising.{IsRising}
use Rattle.drf_holdings.specs.Taking.{IsTaken, HasNone}
use Rattle.drf_holdings.proofs.Named.{few_at}
use Rattle.drf_holdings.proofs.RisingLists.{rising_out, rising_in, below_in}
use Rattle.drf_holdings.proofs.Removed.{taken_by, rows_none, rows_taken, any_rows}

pub row_holdings : (tasks : List Task) → map (λ t. holding_of_task t.row) tasks ≡ map holding_of_task (map task_row tasks)
row_holdings [] = refl
row_holdings (t ∷ tasks) = ap (λ (hs : List Holding). holding_of_task t.row ∷ hs) (row_holdings tasks)

-- a framework without a task of any name has no task
pub named_none : (framework : Text) (tasks : List Task) → ((name : Text) → list_any (task_named (framework, name)) tasks ≡ false)
    → list_any (task_of framework) tasks ≡ false
named_none framework [] none = refl
named_none framework (t ∷ tasks) none =
    let parts : (name : Text) → _ = λ name. or_parts (task_named (framework, name) t) (list_any (task_named (framework, name)) tasks) (none name) in
    rw (other (parts t.row.name).0) (named_none framework tasks (λ name. (parts name).1))
  where
    other : task_named (framework, t.row.name) t ≡ false → task_of framework t ≡ false
    other not_named = elim (cases_Bool (task_of framework t)) [
      | inl here ↦ absurd (false≢true (sym not_named ∙ and_from (task_of framework t) (same_text t.row.name t.row.name) here (same_itself t.row.name)))
      | inr past ↦ past
    ]

module _ (tasks new : List Task) (rows : List TaskRow) (view : map task_row tasks ≡ rows) (rising : IsRising (map task_serial tasks))
    (test : Task → Bool) (ns : List ℕ) (listed : ns ≡ map task_serial (filter test tasks))
    (wide : TaskRow → Bool) (widens : (t : Task) → test t ≡ true → wide t.row ≡ true)
    (n i : ℕ) (last : slice_get ns i ≡ Some n) where
  pub task_taken : (t : Task) → IsTaken (λ t. t.serial == n) tasks new t → IsTaken wide rows (map task_row new) t.row
  task_taken t taken =
      subst (λ (old : List TaskRow). IsTaken wide old (map task_row new) t.row) view
      (rows_taken task_row wide tasks new t
      (taken_by task_serial test tasks ns listed (λ t. wide t.row) widens n i new rising last (Some t) taken))

  pub task_none : HasNone (λ t. t.serial == n) tasks new → HasNone wide rows (map task_row new)
  task_none none =
      subst (λ (old : List TaskRow). HasNone wide old (map task_row new)) view
      (rows_none task_row wide tasks new
      (taken_by task_serial test tasks ns listed (λ t. wide t.row) widens n i new rising last None none))

-- ---- names are distinct within a framework

long_some : (p : Task → Bool) (before after : List Task) (t : Task) → p t ≡ true → 1 ≤ length (filter p (before ++ t ∷ after))
long_some p [] after t here = rw here (omega arith)
long_some p (b ∷ before) after t here = by (p b) (long_some p before after t here)
  where
    by : (c : Bool) → 1 ≤ length (filter p (before ++ t ∷ after))
        → 1 ≤ length (cond c (b ∷ filter p (before ++ t ∷ after)) (filter p (before ++ t ∷ after)))
    by true more = omega arith
    by false more = more

-- the only task that passes is the first that passes
first_named : (p : Task → Bool) (before after : List Task) (t : Task) → p t ≡ true
    → length (filter p (before ++ t ∷ after)) ≤ 1 → list_any p before ≡ false
first_named p [] after t here few = refl
first_named p (b ∷ before) after t here few = by (p b) few (λ less. first_named p before after t here less)
  where
    by : (c : Bool) → length (cond c (b ∷ filter p (before ++ t ∷ after)) (filter p (before ++ t ∷ after))) ≤ 1
        → (length (filter p (before ++ t ∷ after)) ≤ 1 → list_any p before ≡ false) → (c || list_any p before) ≡ false
    by true less later = absurd (omega (arith, less, long_some p before after t here))
    by false less later = later less

new_from : (index : TaskIndex) (before after : List Task) → AreTasksListed index (before ++ after) → AreNew (map task_row before) (map task_row after)
new_from index before [] listed = tt
new_from index before (t ∷ after) listed =
    let key : TaskKey = (t.row.framework, t.row.name) in
    let named = task_named key in
    let here : named t ≡ true =
    and_from (same_text t.row.framework t.row.framework) (same_text t.row.name t.row.name) (same_itself t.row.framework) (same_itself t.row.name) in
    let long = ap (λ (ns : List ℕ). length ns) (listed.names key) in
    let few = few_at (λ m. m.entries) index.names.frameworks.entries key in
    let each = length-map (filter named (before ++ t ∷ after)) task_serial in
    let one : length (filter named (before ++ t ∷ after)) ≤ 1 = omega (arith, long, few, each) in
    let more : AreNew (map task_row (before ++ t ∷ [])) (map task_row after) =
    new_from index (before ++ t ∷ []) after (subst (AreTasksListed index) (sym (append_assoc before (t ∷ []) after)) listed) in (
      any_rows task_row (is_task t.row.framework t.row.name) before ∙ first_named named before after t here one,
      subst (λ (rows : List TaskRow). AreNew rows (map task_row after)) (map-append task_row before (t ∷ [])) more,
    )

pub all_new : (index : TaskIndex) (tasks : List Task) → AreTasksListed index tasks → AreNew [] (map task_row tasks)
all_new index tasks listed = new_from index [] tasks listed

-- ---- changes

-- a task is added
pub kept_in : (index new : TaskIndex) (tasks : List Task) (t : Task) (next : ℕ) → t.serial ≡ next → AreTasksKept index tasks next
    → AreTasksListed new (tasks ++ t ∷ []) → AreTasksKept new (tasks ++ t ∷ []) (next + 1)
kept_in index new tasks t next its kept listed =
    let below : AllByRecursion (λ s. s.serial < t.serial) tasks = subst (λ (n : ℕ). AllByRecursion (λ (s : Task). s.serial < n) tasks) (sym its) kept.below in
    record {
      rising = rising_in task_serial tasks t kept.rising below;
      below = below_in task_serial tasks t next (next + 1) kept.below (omega (arith, its)) (omega arith);
      listed = listed;
    }

-- a task is removed
pub kept_out : (index left : TaskIndex) (tasks new : List Task) (next n : ℕ) (t : Task)
    → IsTaken (λ t. t.serial == n) tasks new t
    → ((before after : List Task) → IsRising (map task_serial (before ++ t ∷ after))
    → AreTasksListed index (before ++ t ∷ after) → AreTasksListed left (before ++ after))
    → AreTasksKept index tasks next → AreTasksKept left new next
kept_out index left tasks new next n t out removed kept =
    let whole : AreTasksKept index (out.before ++ t ∷ out.after) next = subst (λ (ts : List Task). AreTasksKept index ts next) out.whole kept in
    subst (λ (ts : List Task). AreTasksKept left ts next) (sym out.left) (record {
      rising = rising_out task_serial out.before out.after t whole.rising;
      below = each-out (λ (s : Task). s.serial < next) out.before out.after t whole.below;
      listed = removed out.before out.after whole.rising whole.listed;
    })
