-- Runs written down as events, each with its reply.
use Rattle.std.specs.Prelude.{◌≡◌, ℕ, List, map}
use Rattle.drf_rows.specs.LimitNumbers.{LimitNumbers}
use Rattle.drf_rows.specs.Step.{opening, replies_to}
use Rattle.drf_rows.specs.declared.event.Event.{Event}
use Rattle.drf_rows.specs.declared.reply.Reply.{Reply}

abbrev pub Dialogue : Type 0
Dialogue = List (Event × Reply)

abbrev pub events_of_dialogue : Dialogue → List Event
events_of_dialogue reported = map (λ t. t.0) reported

abbrev pub replies_of_dialogue : Dialogue → List Reply
replies_of_dialogue reported = map (λ t. t.1) reported

-- a new allocator gives these replies to these events
abbrev pub IsRun : LimitNumbers → Dialogue → Type 0
IsRun limits reported = replies_to limits opening (events_of_dialogue reported) ≡ replies_of_dialogue reported

-- capacities that are soon reached
abbrev pub few : LimitNumbers
few = record {
  agents = 2;
  frameworks = 2;
  roles = 2;
  clients = 3;
  filters = 1;
  weights = 1;
  limits = 1;
  scalar_names = 2;
  events = 4294967295;
}

-- one more than the greatest timestamp
abbrev pub too_late : ℕ
too_late = 4611686018427387905

-- one thousandth more than the greatest amount of a scalar on an agent
abbrev pub too_large : ℕ
too_large = 1099511627776
