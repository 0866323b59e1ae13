-- Indexes of tasks, when a task is removed.
use Rattle.std.specs.Prelude.{◌≡◌, ℕ, ◌==◌, ◌&&◌, true, not, List, [], ◌∷◌, ◌++◌, map, filter, cond}
use Rattle.std.proofs.Common.{refl, sym, subst, ◌∙◌, inl, inr}
use Rattle.std.proofs.lemmas.Bool.{and_parts, cases_Bool}
use Rattle.drf_role.specs.Text.{Text, same_text}
use Rattle.drf_role.specs.TextLaws.{same_from_test}
use Rattle.drf_rows.specs.Releases.{is_task}
use Rattle.drf_holdings.specs.Listed.{TaskKey, numbers_in, serials_in, task_serial, task_on, task_named, AreTasksListed, AreTasksKept}
use Rattle.drf_holdings.specs.Rising.{IsRising}
use Rattle.drf_holdings.specs.declared.index.Index.{Index}
use Rattle.drf_holdings.specs.declared.names.Names.{Names}
use Rattle.drf_holdings.specs.declared.tasks.Task.{Task}
use Rattle.drf_holdings.specs.declared.tasks.TaskIndex.{TaskIndex}
use Rattle.drf_holdings.proofs.Named.{only_out, few_at}
use Rattle.drf_holdings.proofs.Numbered.{listed_out}
use Rattle.drf_holdings.proofs.RisingLists.{rising_some, others_split}

-- the index without a task, which is removed from both parts
pub listed_without : (old : TaskIndex) (agents : Index) (names : Names) (before after : List Task) (task : Task)
    → IsRising (map task_serial (before ++ task ∷ after))
    → (IsRising (numbers_in old.agents task.row.agent) → (n : Text) → numbers_in agents n
    ≡ cond (same_text task.row.agent n) (filter (λ m. not (m == task.serial)) (numbers_in old.agents n)) (numbers_in old.agents n))
    → ((key : TaskKey) → serials_in names key ≡ cond (task_named key task) [] (serials_in old.names key))
    → AreTasksListed old (before ++ task ∷ after) → AreTasksListed (record { agents = agents; names = names }) (before ++ after)
listed_without old agents names before after task rising out gone listed =
    let others = others_split task_serial before after task rising in
    let there = subst IsRising (sym (listed.agents task.row.agent)) (rising_some task_serial (task_on task.row.agent) (before ++ task ∷ after) rising) in
    record {
      agents = listed_out task_serial before after task others.0 others.1 task_on (numbers_in old.agents) (numbers_in agents) listed.agents (out there);
      names = listed_out task_serial before after task others.0 others.1 task_named (serials_in old.names) (serials_in names) listed.names
          (λ key. only_out task_serial before after task others.0 others.1 (task_named key) (serials_in old.names key) (listed.names key)
          (few_at (λ m. m.entries) old.names.frameworks.entries key) (serials_in names key) (gone key));
    }

-- the task with a name is what is removed by that name
pub named_gone : (old new : Names) (framework name : Text) (task : Task) → is_task framework name task.row ≡ true
    → ((key : TaskKey) → serials_in new key ≡ cond (same_text framework key.0 && same_text name key.1) [] (serials_in old key))
    → (key : TaskKey) → serials_in new key ≡ cond (task_named key task) [] (serials_in old key)
named_gone old new framework name task here gone key =
    let parts = and_parts (same_text task.row.framework framework) (same_text task.row.name name) here in
    gone key
    ∙ (λ i. cond (same_text (sym (same_from_test task.row.framework framework parts.0) i) key.0
    && same_text (sym (same_from_test task.row.name name parts.1) i) key.1) [] (serials_in old key))

-- if no task has the name, nothing is removed
pub names_same : (old : TaskIndex) (names : Names) (framework name : Text) (tasks : List Task) (next : ℕ)
    → [] ≡ serials_in old.names (framework, name)
    → ((key : TaskKey) → serials_in names key ≡ cond (same_text framework key.0 && same_text name key.1) [] (serials_in old.names key))
    → AreTasksKept old tasks next → AreTasksKept (record { agents = old.agents; names = names }) tasks next
names_same old names framework name tasks next none gone kept = record {
  rising = kept.rising;
  below = kept.below;
  listed = record { agents = kept.listed.agents; names = λ key. same key ∙ kept.listed.names key };
}
  where
    same : (key : TaskKey) → serials_in names key ≡ serials_in old.names key
    same key = gone key ∙ elim (cases_Bool (same_text framework key.0 && same_text name key.1)) [
      | inl here ↦
          let parts = and_parts (same_text framework key.0) (same_text name key.1) here in
          rw here (none ∙ (λ i. serials_in old.names (same_from_test framework key.0 parts.0 i, same_from_test name key.1 parts.1 i)))
      | inr other ↦ rw other refl
    ]
