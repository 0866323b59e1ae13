-- The tasks of an accept: one under the keys `task` and `use`, or 1 to 16 in an array.
use Rattle.std.specs.Prelude.{ℕ, Bool, ◌&&◌, List, [], ◌∷◌, length, map, nat_le, Result, Ok, Err, is_some, option_map, option_and_then, if◌then◌else◌, codes}
use Rattle.std.specs.Option.{ok_or}
use Rattle.serde_json.specs.Data.{Data, string, array, object, Items, no_items, item, Members, member, no_members}
use Rattle.serde_json.specs.Find.{get, as_array}
use Rattle.serde_json.specs.View.{items_of}
use Rattle.drf_rows.specs.Tasks.{Start}
use Rattle.drf_text.specs.Written.{bundle_text}
use Rattle.drf_lines.specs.declared.fault.LineFault.{LineFault}
use Rattle.drf_lines.specs.declared.fault.LineFault.TheVariants.{BadShape}
use Rattle.drf_lines.specs.Fault.{◌>>=◌}
use Rattle.drf_lines.specs.Object.{keys, keys_besides, text_at}
use Rattle.drf_lines.specs.Words.{name_in}
use Rattle.drf_lines.specs.Resources.{bundle_in}

-- the results of a step on each element, which fails if one of them fails
abbrev pub each_in : {X Y : Type 0} → (X → Result Y LineFault) → List X → Result (List Y) LineFault
each_in step [] = Ok []
each_in step (x ∷ xs) = step x >>= λ y. each_in step xs >>= λ ys. Ok (y ∷ ys)

-- the texts of a task: its name, and the resources that it uses
abbrev pub TaskText : Type 0
TaskText = List ℕ × List ℕ

-- ---- the texts in the line

-- a task from an object that has only the two keys
unfoldable pub task_text : Data → Result TaskText LineFault
task_text value =
    keys 2 value >>= λ _. text_at (codes "task") value >>= λ task. text_at (codes "use") value >>= λ used. Ok (task, used)

abbrev pub values_in : Items → List Data
values_in no_items = []
values_in (item value items) = value ∷ values_in items

unfoldable pub values_at : List ℕ → Data → Result (List Data) LineFault
values_at key value = ok_or (option_map values_in (option_and_then as_array (get key value))) BadShape

-- an accept has 1 to 16 tasks
abbrev pub is_few : ℕ → Bool
is_few count = nat_le 1 count && nat_le count 16

unfoldable pub if_few : {X : Type 0} → List X → Result (List X) LineFault
if_few xs = if is_few (length xs) then Ok xs else Err BadShape

-- the texts of the tasks, and the keys of an accept of one task or of several
unfoldable pub one_text : Data → Result (List TaskText) LineFault
one_text value =
    keys_besides (codes "refuse_ms") 6 value >>= λ _. text_at (codes "task") value >>= λ task.
    text_at (codes "use") value >>= λ used. Ok ((task, used) ∷ [])

unfoldable pub several_texts : Data → Result (List TaskText) LineFault
several_texts value =
    keys_besides (codes "refuse_ms") 5 value >>= λ _. values_at (codes "tasks") value >>= λ values.
    if_few values >>= λ values. each_in task_text values

unfoldable pub task_texts : Data → Result (List TaskText) LineFault
task_texts value = if is_some (get (codes "tasks") value) then several_texts value else one_text value

-- ---- the meaning of the texts

unfoldable pub start_in : TaskText → Result Start LineFault
start_in text = name_in text.0 >>= λ name. bundle_in text.1 >>= λ used. Ok (name, used)

unfoldable pub starts_in : List TaskText → Result (List Start) LineFault
starts_in texts = each_in start_in texts >>= if_few

-- ---- the written form

abbrev pub start_text : Start → TaskText
start_text start = (start.0, bundle_text start.1)

abbrev pub task_members : Start → Members
task_members start =
    member (codes "task") (string start.0) (member (codes "use") (string (bundle_text start.1)) no_members)

abbrev pub task_value : Start → Data
task_value start = object (task_members start)

abbrev pub several_members : List Start → Members
several_members starts = member (codes "tasks") (array (items_of (map task_value starts))) no_members

-- a single task has its own keys instead of an array
abbrev pub tasks_members : List Start → Members
tasks_members [] = several_members []
tasks_members (start ∷ []) = task_members start
tasks_members (start ∷ next ∷ starts) = several_members (start ∷ next ∷ starts)
