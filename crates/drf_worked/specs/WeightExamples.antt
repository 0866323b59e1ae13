-- Runs in which roles get weights, with their expected replies.
use Rattle.std.specs.Prelude.{ℕ, List, [], ◌∷◌, map, codes}
use Rattle.drf_role.specs.Text.{Text}
use Rattle.drf_rows.specs.LimitNumbers.{LimitNumbers, ceilings}
use Rattle.drf_rows.specs.Step.{opening, rows_after_all, replies_to}
use Rattle.drf_worked.specs.Examples.{cpus, framework_in, offer}
use Rattle.drf_rows.specs.declared.event.Event.{Event}
use Rattle.drf_rows.specs.declared.event.Event.TheVariants.{AddAgent, SetWeight, Cycle}
use Rattle.drf_rows.specs.declared.reply.Refusal.TheVariants.{BadWeight, TooMany}
use Rattle.drf_rows.specs.declared.reply.Reply.{Reply}
use Rattle.drf_rows.specs.declared.reply.Reply.TheVariants.{Done, Offers, Refused}
use Rattle.drf_rows.specs.declared.rows.WeightRow.{WeightRow}

-- a role of one component gets a weight
abbrev pub weighing : Text → ℕ → Event
weighing role weight = SetWeight (role ∷ []) weight

-- the least and the greatest weight, and the numbers next to them
abbrev pub bounds : List Event
bounds = map (weighing (codes "a")) (0 ∷ 1 ∷ 1000000 ∷ 1000001 ∷ [])

abbrev pub bounds_replies : List Reply
bounds_replies = Refused BadWeight ∷ Done ∷ Done ∷ Refused BadWeight ∷ []

-- a row that is replaced keeps its place, also if the weight is 1
abbrev pub replaced : List Event
replaced = weighing (codes "a") 500 ∷ weighing (codes "b") 3000 ∷ weighing (codes "a") 1000 ∷ []

abbrev pub weights_after : List Event → List WeightRow
weights_after events = (rows_after_all ceilings opening events).weights

abbrev pub replaced_rows : List WeightRow
replaced_rows =
    record { role = codes "a" ∷ []; weight = 1000 } ∷ record { role = codes "b" ∷ []; weight = 3000 } ∷ []

-- the capacity is one weight: a second row is refused, but the row can be replaced
abbrev pub one_weight : LimitNumbers
one_weight = record ceilings { weights = 1 }

abbrev pub one_weight_replies : List Reply
one_weight_replies = Done ∷ Refused TooMany ∷ Done ∷ []

-- three equal agents are shared by two frameworks; the role of the second has a weight
abbrev pub replies_by_weight : ℕ → List Reply
replies_by_weight weight = replies_to ceilings opening (
    framework_in (codes "fa") (codes "a")
    ∷ framework_in (codes "fb") (codes "b")
    ∷ weighing (codes "b") weight
    ∷ AddAgent (codes "n1") (cpus 1000 ∷ [])
    ∷ AddAgent (codes "n2") (cpus 1000 ∷ [])
    ∷ AddAgent (codes "n3") (cpus 1000 ∷ [])
    ∷ Cycle 0
    ∷ [])

-- each gets one agent, and one of them the third
abbrev pub third_to : Text → Text → List Reply
third_to framework role =
    Done
    ∷ Done
    ∷ Done
    ∷ Done
    ∷ Done
    ∷ Done
    ∷ Offers (
    offer 1 (codes "fa") (codes "a") (codes "n1") (cpus 1000 ∷ [])
    ∷ offer 2 (codes "fb") (codes "b") (codes "n2") (cpus 1000 ∷ [])
    ∷ offer 3 framework role (codes "n3") (cpus 1000 ∷ [])
    ∷ [])
    ∷ []
