-- Runs with their expected replies: cycles, reservations and capacities.
use Rattle.std.specs.Prelude.{ℕ, List, [], ◌∷◌, ◌++◌, codes}
use Rattle.drf_role.specs.Text.{Text}
use Rattle.drf_role.specs.Role.{default_role}
use Rattle.drf_bundle.specs.declared.resource.Resource.{Resource}
use Rattle.drf_bundle.specs.declared.value.Value.TheVariants.{Scalar}
use Rattle.drf_rows.specs.LimitNumbers.{LimitNumbers, ceilings}
use Rattle.drf_rows.specs.declared.event.Event.{Event}
use Rattle.drf_rows.specs.declared.event.Event.TheVariants.{AddAgent, DeactivateAgent, SetAgent, AddFramework, Cycle}
use Rattle.drf_rows.specs.declared.reply.OfferLine.{OfferLine}
use Rattle.drf_rows.specs.declared.reply.Refusal.TheVariants.{TooLarge, TooMany}
use Rattle.drf_rows.specs.declared.reply.Reply.{Reply}
use Rattle.drf_rows.specs.declared.reply.Reply.TheVariants.{Done, Offers, Refused}
use Rattle.drf_rows.specs.Step.{opening, replies_to}

-- so many thousandths of a scalar, unreserved
abbrev pub scalar : Text → ℕ → Resource
scalar label amount = record { label = label; role = default_role; value = Scalar amount }

-- so many thousandths of `cpus`, reserved for a role of one component
abbrev pub cpus_for : Text → ℕ → Resource
cpus_for role amount = record { label = codes "cpus"; role = role ∷ []; value = Scalar amount }

abbrev pub cpus : ℕ → Resource
cpus amount = scalar (codes "cpus") amount

abbrev pub mem : ℕ → Resource
mem amount = scalar (codes "mem") amount

abbrev pub gpus : ℕ → Resource
gpus amount = scalar (codes "gpus") amount

-- a framework registers in one role of one component
abbrev pub framework_in : Text → Text → Event
framework_in framework role = AddFramework framework ((role ∷ []) ∷ [])

-- an offer to a framework in a role of one component
abbrev pub offer : ℕ → Text → Text → Text → List Resource → OfferLine
offer number framework role agent resources = record {
  number = number;
  agent = agent;
  framework = framework;
  role = role ∷ [];
  resources = resources;
}

-- one agent, one framework and a cycle
abbrev pub one_cycle : List Event
one_cycle =
    AddAgent (codes "n1") (cpus 4000 ∷ mem 1024000 ∷ [])
    ∷ framework_in (codes "f1") (codes "a")
    ∷ Cycle 0
    ∷ []

-- offered resources are not offered again
abbrev pub two_cycles : List Event
two_cycles = one_cycle ++ Cycle 0 ∷ []

abbrev pub two_cycles_replies : List Reply
two_cycles_replies =
    Done
    ∷ Done
    ∷ Offers (offer 1 (codes "f1") (codes "a") (codes "n1") (cpus 4000 ∷ mem 1024000 ∷ []) ∷ [])
    ∷ Offers []
    ∷ []

-- three agents are shared by two frameworks, and a fourth has too little for an offer
abbrev pub two_frameworks : List Event
two_frameworks =
    AddAgent (codes "n1") (cpus 4000 ∷ mem 1024000 ∷ [])
    ∷ AddAgent (codes "n2") (cpus 2000 ∷ mem 512000 ∷ [])
    ∷ AddAgent (codes "n3") (cpus 2000 ∷ mem 2048000 ∷ [])
    ∷ framework_in (codes "fa") (codes "a")
    ∷ framework_in (codes "fb") (codes "b")
    ∷ Cycle 0
    ∷ AddAgent (codes "n4") (cpus 9 ∷ mem 31999 ∷ [])
    ∷ Cycle 0
    ∷ []

abbrev pub two_frameworks_replies : List Reply
two_frameworks_replies =
    Done
    ∷ Done
    ∷ Done
    ∷ Done
    ∷ Done
    ∷ Offers (
    offer 1 (codes "fa") (codes "a") (codes "n1") (cpus 4000 ∷ mem 1024000 ∷ [])
    ∷ offer 2 (codes "fb") (codes "b") (codes "n2") (cpus 2000 ∷ mem 512000 ∷ [])
    ∷ offer 3 (codes "fb") (codes "b") (codes "n3") (cpus 2000 ∷ mem 2048000 ∷ [])
    ∷ [])
    ∷ Done
    ∷ Offers []
    ∷ []

-- reserved resources are offered to their role and the roles below it, and to no other
abbrev pub reserved_for_eng : List Event
reserved_for_eng =
    AddAgent (codes "n1") (cpus_for (codes "eng") 4000 ∷ mem 64000 ∷ [])
    ∷ framework_in (codes "f2") (codes "ops")
    ∷ Cycle 0
    ∷ AddFramework (codes "f1") ((codes "eng" ∷ codes "web" ∷ []) ∷ [])
    ∷ Cycle 0
    ∷ []

abbrev pub reserved_for_eng_replies : List Reply
reserved_for_eng_replies =
    Done
    ∷ Done
    ∷ Offers (offer 1 (codes "f2") (codes "ops") (codes "n1") (mem 64000 ∷ []) ∷ [])
    ∷ Done
    ∷ Offers (record {
      number = 2;
      agent = codes "n1";
      framework = codes "f1";
      role = codes "eng" ∷ codes "web" ∷ [];
      resources = cpus_for (codes "eng") 4000 ∷ [];
    } ∷ [])
    ∷ []

-- the replies when a framework and then an agent with this total register, and a cycle follows
abbrev pub replies_with : List Resource → List Reply
replies_with total =
    replies_to ceilings opening (framework_in (codes "f1") (codes "a") ∷ AddAgent (codes "n1") total ∷ Cycle 0 ∷ [])

-- the agent has too little for an offer
abbrev pub not_offered : List Reply
not_offered = Done ∷ Done ∷ Offers [] ∷ []

-- everything on the agent is offered
abbrev pub offered_whole : List Resource → List Reply
offered_whole total =
    Done ∷ Done ∷ Offers (offer 1 (codes "f1") (codes "a") (codes "n1") total ∷ []) ∷ []

-- the agent has too much of a scalar
abbrev pub refused_as_too_large : List Reply
refused_as_too_large = Done ∷ Refused TooLarge ∷ Offers [] ∷ []

-- the capacity is one agent, and two register
abbrev pub one_agent : LimitNumbers
one_agent = record ceilings { agents = 1 }

abbrev pub two_agents : List Event
two_agents = AddAgent (codes "n1") (cpus 1000 ∷ []) ∷ AddAgent (codes "n2") (cpus 1000 ∷ []) ∷ []

-- the capacity is two events, and there are three
abbrev pub two_events : LimitNumbers
two_events = record ceilings { events = 2 }

-- the capacity is two names of scalars, and there are three
abbrev pub two_names : LimitNumbers
two_names = record ceilings { scalar_names = 2 }

abbrev pub three_names : List Event
three_names =
    AddAgent (codes "n1") (cpus 1000 ∷ mem 1000 ∷ [])
    ∷ AddAgent (codes "n2") (gpus 1000 ∷ mem 1000 ∷ [])
    ∷ AddAgent (codes "n3") (mem 1000 ∷ [])
    ∷ []

-- the names of an inactive agent count too
abbrev pub names_kept : List Event
names_kept =
    AddAgent (codes "n1") (cpus 1000 ∷ mem 1000 ∷ [])
    ∷ DeactivateAgent (codes "n1")
    ∷ AddAgent (codes "n2") (gpus 1000 ∷ [])
    ∷ AddAgent (codes "n3") (mem 1000 ∷ [])
    ∷ SetAgent (codes "n3") (gpus 1000 ∷ [])
    ∷ []

abbrev pub names_kept_replies : List Reply
names_kept_replies = Done ∷ Done ∷ Refused TooMany ∷ Done ∷ Refused TooMany ∷ []

-- the capacity is one framework, or one client, and there are two
abbrev pub one_framework : LimitNumbers
one_framework = record ceilings { frameworks = 1 }

abbrev pub one_client : LimitNumbers
one_client = record ceilings { clients = 1 }

abbrev pub two_registrations : List Event
two_registrations = framework_in (codes "f1") (codes "a") ∷ framework_in (codes "f2") (codes "a") ∷ []

-- the capacity is one role: a role listed twice is one role and one client, and another role is too many
abbrev pub one_role : LimitNumbers
one_role = record ceilings { roles = 1 }

abbrev pub roles_listed : List Event
roles_listed =
    AddFramework (codes "f1") ((codes "a" ∷ []) ∷ (codes "a" ∷ []) ∷ [])
    ∷ AddFramework (codes "f2") ((codes "a" ∷ []) ∷ (codes "b" ∷ []) ∷ [])
    ∷ []
