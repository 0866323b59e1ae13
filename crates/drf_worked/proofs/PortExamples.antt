-- Lemmas about `specs/PortExamples.antt`.
use Rattle.std.specs.Prelude.{◌≡◌, ℕ, eqb, ◌<◌, ◌==◌, Bool, true, false, not, ◌&&◌, List, [], ◌∷◌, ◌++◌, codes, nat_lt, ◌||◌}
use Rattle.std.specs.Ordering.{nat_cmp}
use Rattle.std.specs.FinSet as set
use Rattle.std.specs.Cmp.{nat_cmp_total}
use Rattle.std.proofs.Common.{refl, sym, ap, ◌∙◌, arith, zero, suc}
use Rattle.std.proofs.lemmas.Bool.{lt-ltb, eq-eqb, ne_eqb, eqb-true, false≢true}
use Rattle.drf_role.specs.Text.{Text}
use Rattle.drf_role.specs.Path.{Path}
use Rattle.drf_bundle.specs.declared.resource.Resource.{Resource}
use Rattle.drf_bundle.specs.declared.value.Value.TheVariants.{Ranges}
use Rattle.drf_rows.specs.LimitNumbers.{ceilings}
use Rattle.drf_rows.specs.Share.{is_ahead}
use Rattle.drf_rows.specs.Held.{standing_of}
use Rattle.drf_rows.specs.Cycle.{free_of, with_offer, turn, cycle}
use Rattle.drf_rows.specs.Step.{opening, refusal_of, effect, rows_after, reply_to, replies_to}
use Rattle.drf_worked.specs.Examples.{cpus, mem, framework_in, offer}
use Rattle.drf_worked.specs.OrderExamples.{eng, eng_web, role_a}
use Rattle.drf_worked.specs.ReportExamples.{reported_cpus}
use Rattle.drf_worked.specs.LifeExamples.{one, accept, accept_for, decline}
use Rattle.drf_worked.specs.QuotaExamples.{cpus_in, offer_in}
use Rattle.drf_rows.specs.declared.rows.FrameworkRow.{FrameworkRow}
use Rattle.drf_rows.specs.declared.rows.LimitRow.{LimitRow}
use Rattle.drf_rows.specs.declared.rows.OfferRow.{OfferRow}
use Rattle.drf_rows.specs.declared.rows.TaskRow.{TaskRow}
use Rattle.drf_rows.specs.declared.rows.Rows.{Rows}
use Rattle.drf_rows.specs.declared.event.Event.{Event}
use Rattle.drf_rows.specs.declared.event.Event.TheVariants.{AddAgent, AddFramework, Finish, Suppress, Revive, Reserve, Unreserve, SetLimit, Cycle}
use Rattle.drf_rows.specs.declared.reply.OfferLine.{OfferLine}
use Rattle.drf_rows.specs.declared.reply.Refusal.TheVariants.{KnownTask, Empty, NotCovered}
use Rattle.drf_rows.specs.declared.reply.Reply.{Reply}
use Rattle.drf_rows.specs.declared.reply.Reply.TheVariants.{Done, Offers, Refused}
use Rattle.drf_worked.specs.PortExamples.{Numbers, ports, no_cpus_but_ports, no_cpus_but_ports_replies, used_up, used_up_replies, some_reserved, some_reserved_replies, accept_two, ports_shared, ports_shared_replies, PortsAreNotLimited, SomePortsAreReserved, NoPortIsShared, four_ports, numbered, SomePortIsShared}

abbrev pub ports_in : Path → Numbers → Resource
ports_in role numbers = record { label = codes "ports"; role = role; value = Ranges numbers }

-- ---- the same runs with any sets of numbers that satisfy what the runs need

abbrev IsSome : Numbers → Type 0
IsSome numbers = nat_lt 0 (set.len numbers) ≡ true

module _ (all : Numbers) (some : IsSome all) (none : nat_lt 0 (set.len (set.difference all all)) ≡ false) where
  no_cpus_run : replies_to ceilings opening (no_cpus_but_ports all) ≡ no_cpus_but_ports_replies all
  unfolding is_ahead standing_of free_of with_offer turn cycle refusal_of effect rows_after reply_to
  no_cpus_run = rw (some, none) refl

-- a state with one agent
abbrev standing : List Resource → List FrameworkRow → List OfferRow → List TaskRow → List LimitRow → ℕ → ℕ → Rows
standing total frameworks offers tasks limits next_offer events = record {
  agents = record { name = codes "n1"; total = total; active = true } ∷ [];
  frameworks = frameworks;
  offers = offers;
  tasks = tasks;
  weights = [];
  limits = limits;
  filters = [];
  clock = 0;
  next_offer = next_offer;
  events = events;
}

abbrev in_role : Text → Path → ℕ → Bool → FrameworkRow
in_role name role count suppressed =
    record { name = name; clients = record { role = role; count = count; suppressed = suppressed } ∷ [] }

abbrev offered : ℕ → Text → Path → List Resource → OfferRow
offered number framework role bundle =
    record { number = number; agent = codes "n1"; framework = framework; role = role; bundle = bundle }

abbrev runs : Text → Text → Path → List Resource → TaskRow
runs name framework role bundle =
    record { name = name; agent = codes "n1"; framework = framework; role = role; bundle = bundle }

module _ (all : Numbers) (some : IsSome all) (none : nat_lt 0 (set.len (set.difference all all)) ≡ false) where
  abbrev whole : List Resource
  whole = cpus 6000 ∷ cpus_in eng_web 2000 ∷ mem 64000 ∷ ports all ∷ []

  abbrev its_limit : List LimitRow
  its_limit = record { role = eng; limit = reported_cpus 5000 ++ record { label = codes "ports"; amount = 0 } ∷ [] } ∷ []

  abbrev both : ℕ → Bool → ℕ → List FrameworkRow
  both count suppressed other = in_role (codes "f1") eng count suppressed ∷ in_role (codes "f2") eng_web other false ∷ []

  abbrev to_f2 : OfferRow
  to_f2 = offered 2 (codes "f2") eng_web (cpus_in eng_web 2000 ∷ [])

  abbrev first_task : TaskRow
  first_task = runs (codes "t") (codes "f1") eng (cpus 2000 ∷ [])

  abbrev second_task : TaskRow
  second_task = runs (codes "t") (codes "f2") eng_web (cpus 1000 ∷ [])

  abbrev left_of : ℕ → List Resource
  left_of amount = cpus amount ∷ mem 64000 ∷ ports all ∷ []

  abbrev before_first : Rows
  before_first = standing whole (both 0 false 0) [] [] its_limit 1 4

  abbrev after_first : Rows
  after_first = standing whole (both 1 false 1) (offered 1 (codes "f1") eng (left_of 3000) ∷ to_f2 ∷ []) [] its_limit 3 5

  abbrev before_second : Rows
  before_second = standing whole (both 1 false 1) (to_f2 ∷ []) (first_task ∷ []) its_limit 3 6

  abbrev after_second : Rows
  after_second = standing whole (both 2 false 1) (to_f2 ∷ offered 3 (codes "f1") eng (left_of 1000) ∷ []) (first_task ∷ []) its_limit 4 7

  abbrev before_third : Rows
  before_third = standing whole (both 2 true 1) (to_f2 ∷ []) (first_task ∷ []) its_limit 4 9

  abbrev after_third : Rows
  after_third = standing whole (both 2 true 2) (to_f2 ∷ offered 4 (codes "f2") eng_web (left_of 1000) ∷ []) (first_task ∷ []) its_limit 5 10

  abbrev before_last : Rows
  before_last = standing whole (both 2 false 2) (to_f2 ∷ []) (first_task ∷ second_task ∷ []) its_limit 5 12

  first_cycle : cycle before_first 0 ≡ record after_first { events = 4 }
  unfolding is_ahead standing_of free_of with_offer turn cycle
  first_cycle = rw (some, none) refl

  second_cycle : cycle before_second 0 ≡ record after_second { events = 6 }
  unfolding is_ahead standing_of free_of with_offer turn cycle
  second_cycle = rw some (rw some (rw some (rw some (rw none refl))))

  third_cycle : cycle before_third 0 ≡ record after_third { events = 9 }
  unfolding is_ahead standing_of free_of with_offer turn cycle
  third_cycle = rw some (rw some (rw some refl))

  last_cycle : cycle before_last 0
      ≡ record before_last {
        frameworks = both 3 false 2;
        offers = to_f2 ∷ offered 5 (codes "f1") eng (mem 64000 ∷ ports all ∷ []) ∷ [];
        next_offer = 6;
      }
  unfolding is_ahead standing_of free_of with_offer turn cycle
  last_cycle = rw some (rw some (rw some (rw some (rw some (rw none refl)))))

  -- the rest of the run, from each cycle on
  abbrev from_last : List Event
  from_last = Cycle 0 ∷ []

  abbrev from_third : List Event
  from_third = Cycle 0 ∷ accept (codes "f2") 4 (codes "t") (cpus 1000 ∷ []) ∷ Revive (codes "f1") eng ∷ from_last

  abbrev from_second : List Event
  from_second = Cycle 0 ∷ decline (codes "f1") 3 ∷ Suppress (codes "f1") eng ∷ from_third

  abbrev from_first : List Event
  from_first = Cycle 0 ∷ accept (codes "f1") 1 (codes "t") (cpus 2000 ∷ []) ∷ from_second

  abbrev reported_first : Reply
  reported_first =
      Offers (
      offer 1 (codes "f1") (codes "eng") (codes "n1") (left_of 3000)
      ∷ offer_in 2 (codes "f2") eng_web (codes "n1") (cpus_in eng_web 2000 ∷ [])
      ∷ [])

  abbrev reported_second : Reply
  reported_second = one (offer 3 (codes "f1") (codes "eng") (codes "n1") (left_of 1000))

  abbrev reported_third : Reply
  reported_third = one (offer_in 4 (codes "f2") eng_web (codes "n1") (left_of 1000))

  begins : (later : List Event)
      → replies_to ceilings opening
      (AddAgent (codes "n1") whole ∷ framework_in (codes "f1") (codes "eng") ∷ AddFramework (codes "f2") (eng_web ∷ [])
      ∷ SetLimit eng (reported_cpus 5000 ++ record { label = codes "ports"; amount = 0 } ∷ []) ∷ later)
      ≡ Done ∷ Done ∷ Done ∷ Done ∷ replies_to ceilings before_first later
  unfolding refusal_of effect rows_after reply_to
  begins later = refl

  first_reported : (later : List Event)
      → replies_to ceilings before_first (Cycle 0 ∷ later)
      ≡ reported_first ∷ replies_to ceilings after_first later
  unfolding refusal_of effect rows_after reply_to
  first_reported later = rw first_cycle refl

  then_accepted : (later : List Event)
      → replies_to ceilings after_first (accept (codes "f1") 1 (codes "t") (cpus 2000 ∷ []) ∷ later)
      ≡ Done ∷ replies_to ceilings before_second later
  unfolding refusal_of effect rows_after reply_to
  then_accepted later = refl

  second_reported : (later : List Event)
      → replies_to ceilings before_second (Cycle 0 ∷ later)
      ≡ reported_second ∷ replies_to ceilings after_second later
  unfolding refusal_of effect rows_after reply_to
  second_reported later = rw second_cycle refl

  then_suppressed : (later : List Event)
      → replies_to ceilings after_second (decline (codes "f1") 3 ∷ Suppress (codes "f1") eng ∷ later)
      ≡ Done ∷ Done ∷ replies_to ceilings before_third later
  unfolding refusal_of effect rows_after reply_to
  then_suppressed later = refl

  third_reported : (later : List Event)
      → replies_to ceilings before_third (Cycle 0 ∷ later)
      ≡ reported_third ∷ replies_to ceilings after_third later
  unfolding refusal_of effect rows_after reply_to
  third_reported later = rw third_cycle refl

  then_revived : (later : List Event)
      → replies_to ceilings after_third (accept (codes "f2") 4 (codes "t") (cpus 1000 ∷ []) ∷ Revive (codes "f1") eng ∷ later)
      ≡ Done ∷ Done ∷ replies_to ceilings before_last later
  unfolding refusal_of effect rows_after reply_to
  then_revived later = refl

  last_reported : replies_to ceilings before_last (Cycle 0 ∷ [])
      ≡ one (offer 5 (codes "f1") (codes "eng") (codes "n1") (mem 64000 ∷ ports all ∷ [])) ∷ []
  unfolding refusal_of effect rows_after reply_to
  last_reported = rw last_cycle refl

  used_up_run : replies_to ceilings opening (used_up all) ≡ used_up_replies all
  used_up_run =
      begins from_first
      ∙ ap (λ rs. Done ∷ Done ∷ Done ∷ Done ∷ rs) (
      first_reported (accept (codes "f1") 1 (codes "t") (cpus 2000 ∷ []) ∷ from_second)
      ∙ ap (λ rs. reported_first ∷ rs) (
      then_accepted from_second
      ∙ ap (λ rs. Done ∷ rs) (
      second_reported (decline (codes "f1") 3 ∷ Suppress (codes "f1") eng ∷ from_third)
      ∙ ap (λ rs. reported_second ∷ rs) (
      then_suppressed from_third
      ∙ ap (λ rs. Done ∷ Done ∷ rs) (
      third_reported (accept (codes "f2") 4 (codes "t") (cpus 1000 ∷ []) ∷ Revive (codes "f1") eng ∷ from_last)
      ∙ ap (λ rs. reported_third ∷ rs) (then_revived from_last ∙ ap (λ rs. Done ∷ Done ∷ rs) last_reported))))))

module _ (all part others : Numbers) (its : IsSome part) (left_some : IsSome others) (left : set.difference all part ≡ others)
    (within : set.is_subset part all ≡ true) (itself : set.is_subset part part ≡ true)
    (apart : (set.len (set.intersection others part) == 0) ≡ true) (none : nat_lt 0 (set.len (set.difference others others)) ≡ false) where
  abbrev all_free : Rows
  all_free = standing (cpus 1000 ∷ mem 64000 ∷ ports all ∷ []) [] [] [] [] 1 1

  abbrev parted : List Resource
  parted = cpus 1000 ∷ mem 64000 ∷ ports others ∷ ports_in eng part ∷ []

  abbrev to_ops : ℕ → List FrameworkRow
  to_ops count = in_role (codes "f1") (codes "ops" ∷ []) count false ∷ []

  abbrev is_offered : OfferRow
  is_offered = offered 1 (codes "f1") (codes "ops" ∷ []) (cpus 1000 ∷ mem 64000 ∷ ports others ∷ [])

  abbrev all_offered : Rows
  all_offered = standing parted (to_ops 1) (is_offered ∷ []) [] [] 2 4

  reserved_reply : reply_to ceilings all_free (Reserve (codes "n1") eng (ports part ∷ [])) ≡ Done
  unfolding free_of refusal_of effect reply_to
  reserved_reply = simp within refl

  reserved_rows : rows_after ceilings all_free (Reserve (codes "n1") eng (ports part ∷ [])) ≡ standing parted [] [] [] [] 1 2
  unfolding free_of refusal_of effect rows_after
  reserved_rows = simp (within, left, left_some, apart) refl

  others_offered : cycle (standing parted (to_ops 0) [] [] [] 1 3) 0 ≡ record all_offered { events = 3 }
  unfolding is_ahead standing_of free_of with_offer turn cycle
  others_offered = simp left_some refl

  not_below : reply_to ceilings all_offered (Unreserve (codes "n1") eng_web (ports part ∷ [])) ≡ Refused NotCovered
  unfolding free_of refusal_of effect reply_to
  not_below = simp (none, its) refl

  not_below_rows : rows_after ceilings all_offered (Unreserve (codes "n1") eng_web (ports part ∷ [])) ≡ all_offered
  unfolding free_of refusal_of effect rows_after
  not_below_rows = simp (none, its) refl

  given_back : reply_to ceilings all_offered (Unreserve (codes "n1") eng (ports part ∷ [])) ≡ Done
  unfolding free_of refusal_of effect reply_to
  given_back = simp (none, its, itself) refl

  registers : (later : List Event)
      → replies_to ceilings opening (AddAgent (codes "n1") (cpus 1000 ∷ mem 64000 ∷ ports all ∷ []) ∷ later)
      ≡ Done ∷ replies_to ceilings all_free later
  unfolding refusal_of effect rows_after reply_to
  registers later = refl

  joins : (later : List Event)
      → replies_to ceilings (standing parted [] [] [] [] 1 2) (framework_in (codes "f1") (codes "ops") ∷ later)
      ≡ Done ∷ replies_to ceilings (standing parted (to_ops 0) [] [] [] 1 3) later
  unfolding refusal_of effect rows_after reply_to
  joins later = refl

  abbrev others_reported : Reply
  others_reported = one (offer 1 (codes "f1") (codes "ops") (codes "n1") (cpus 1000 ∷ mem 64000 ∷ ports others ∷ []))

  are_reported : (later : List Event)
      → replies_to ceilings (standing parted (to_ops 0) [] [] [] 1 3) (Cycle 0 ∷ later) ≡ others_reported ∷ replies_to ceilings all_offered later
  unfolding refusal_of effect rows_after reply_to
  are_reported later = rw others_offered refl

  abbrev ends_here : List Event
  ends_here = Unreserve (codes "n1") eng_web (ports part ∷ []) ∷ Unreserve (codes "n1") eng (ports part ∷ []) ∷ []

  some_reserved_run : replies_to ceilings opening (some_reserved all part) ≡ some_reserved_replies others
  some_reserved_run =
      registers (Reserve (codes "n1") eng (ports part ∷ []) ∷ framework_in (codes "f1") (codes "ops") ∷ Cycle 0 ∷ ends_here)
      ∙ (λ i. Done ∷ reserved_reply i ∷ replies_to ceilings (reserved_rows i) (framework_in (codes "f1") (codes "ops") ∷ Cycle 0 ∷ ends_here))
      ∙ ap (λ rs. Done ∷ Done ∷ rs) (
      joins (Cycle 0 ∷ ends_here)
      ∙ ap (λ rs. Done ∷ rs) (
      are_reported ends_here
      ∙ (λ i. others_reported ∷ not_below i ∷ reply_to ceilings (not_below_rows i) (Unreserve (codes "n1") eng (ports part ∷ [])) ∷ [])
      ∙ (λ i. others_reported ∷ Refused NotCovered ∷ given_back i ∷ [])))

module _ (all first second others : Numbers) (some : IsSome all) (left_some : IsSome others)
    (within : set.is_subset first all ≡ true) (less : set.difference all first ≡ others)
    (shared : (set.len (set.intersection first second) == 0) ≡ false) where
  abbrev three : List Resource
  three = cpus 4000 ∷ mem 256000 ∷ ports all ∷ []

  abbrev to_f1 : ℕ → List FrameworkRow
  to_f1 count = in_role (codes "f1") role_a count false ∷ []

  abbrev of_two : TaskRow
  of_two = runs (codes "t2") (codes "f1") role_a (cpus 2000 ∷ [])

  abbrev of_one : TaskRow
  of_one = runs (codes "t1") (codes "f1") role_a (cpus 1000 ∷ ports first ∷ [])

  abbrev all_to_f1 : Rows
  all_to_f1 = standing three (to_f1 1) (offered 1 (codes "f1") role_a three ∷ []) [] [] 2 2

  all_at_first : cycle (standing three (to_f1 0) [] [] [] 1 2) 0 ≡ all_to_f1
  unfolding is_ahead standing_of free_of with_offer turn cycle
  all_at_first = simp some refl

  others_later : cycle (standing three (to_f1 1) [] (of_one ∷ of_two ∷ []) [] 2 4) 0
      ≡ standing three (to_f1 2) (offered 2 (codes "f1") role_a (cpus 1000 ∷ mem 256000 ∷ ports others ∷ []) ∷ [])
      (of_one ∷ of_two ∷ []) [] 3 4
  unfolding is_ahead standing_of free_of with_offer turn cycle
  others_later = rw less (rw left_some (rw left_some (rw left_some refl)))

  all_at_last : cycle (standing three (to_f1 2) [] (of_two ∷ []) [] 3 7) 0
      ≡ standing three (to_f1 3) (offered 3 (codes "f1") role_a (cpus 2000 ∷ mem 256000 ∷ ports all ∷ []) ∷ []) (of_two ∷ []) [] 4 7
  unfolding is_ahead standing_of free_of with_offer turn cycle
  all_at_last = simp some refl

  abbrev other_reported : OfferLine
  other_reported = offer 2 (codes "f1") (codes "a") (codes "n1") (cpus 1000 ∷ mem 256000 ∷ ports others ∷ [])

  abbrev first_left : Rows
  first_left = standing three (to_f1 1) (offered 1 (codes "f1") role_a three ∷ []) [] [] 2 3

  abbrev second_left : Rows
  second_left =
      standing three (to_f1 2) (offered 2 (codes "f1") role_a (cpus 1000 ∷ mem 256000 ∷ ports others ∷ []) ∷ [])
      (of_one ∷ of_two ∷ []) [] 3 5

  both_register : (later : List Event)
      → replies_to ceilings opening (AddAgent (codes "n1") three ∷ framework_in (codes "f1") (codes "a") ∷ later)
      ≡ Done ∷ Done ∷ replies_to ceilings (standing three (to_f1 0) [] [] [] 1 2) later
  unfolding refusal_of effect rows_after reply_to
  both_register later = refl

  all_reported : (later : List Event)
      → replies_to ceilings (standing three (to_f1 0) [] [] [] 1 2) (Cycle 0 ∷ later)
      ≡ one (offer 1 (codes "f1") (codes "a") (codes "n1") three) ∷ replies_to ceilings first_left later
  unfolding refusal_of effect rows_after reply_to
  all_reported later = rw all_at_first refl

  both_use : (later : List Event)
      → replies_to ceilings first_left (accept_two (cpus 1000 ∷ ports first ∷ []) (cpus 2000 ∷ ports second ∷ []) ∷ later)
      ≡ Refused NotCovered ∷ replies_to ceilings first_left later
  unfolding refusal_of effect rows_after reply_to
  both_use later = rw shared refl

  all_refused : (later : List Event)
      → replies_to ceilings first_left (
      accept_two (cpus 3000 ∷ []) (cpus 2000 ∷ [])
      ∷ accept_for (codes "f1") 1 ((codes "t1", cpus 1000 ∷ []) ∷ (codes "t1", cpus 1000 ∷ []) ∷ []) 0 0
      ∷ accept_two (cpus 1000 ∷ []) []
      ∷ later)
      ≡ Refused NotCovered ∷ Refused KnownTask ∷ Refused Empty ∷ replies_to ceilings first_left later
  unfolding refusal_of effect rows_after reply_to
  all_refused later = refl

  both_start : (later : List Event)
      → replies_to ceilings first_left (accept_two (cpus 1000 ∷ ports first ∷ []) (cpus 2000 ∷ []) ∷ later)
      ≡ Done ∷ replies_to ceilings (standing three (to_f1 1) [] (of_one ∷ of_two ∷ []) [] 2 4) later
  unfolding refusal_of effect rows_after reply_to
  both_start later = rw within refl

  rest_reported : (later : List Event)
      → replies_to ceilings (standing three (to_f1 1) [] (of_one ∷ of_two ∷ []) [] 2 4) (Cycle 0 ∷ later)
      ≡ one other_reported ∷ replies_to ceilings second_left later
  unfolding refusal_of effect rows_after reply_to
  rest_reported later = rw others_later refl

  one_ends : (later : List Event)
      → replies_to ceilings second_left (Finish (codes "f1") (codes "t1") ∷ decline (codes "f1") 2 ∷ later)
      ≡ Done ∷ Done ∷ replies_to ceilings (standing three (to_f1 2) [] (of_two ∷ []) [] 3 7) later
  unfolding refusal_of effect rows_after reply_to
  one_ends later = refl

  back_reported : replies_to ceilings (standing three (to_f1 2) [] (of_two ∷ []) [] 3 7) (Cycle 0 ∷ [])
      ≡ one (offer 3 (codes "f1") (codes "a") (codes "n1") (cpus 2000 ∷ mem 256000 ∷ ports all ∷ [])) ∷ []
  unfolding refusal_of effect rows_after reply_to
  back_reported = rw all_at_last refl

  abbrev at_end : List Event
  at_end = Finish (codes "f1") (codes "t1") ∷ decline (codes "f1") 2 ∷ Cycle 0 ∷ []

  abbrev from_start : List Event
  from_start = accept_two (cpus 1000 ∷ ports first ∷ []) (cpus 2000 ∷ []) ∷ Cycle 0 ∷ at_end

  abbrev from_refused : List Event
  from_refused =
      accept_two (cpus 3000 ∷ []) (cpus 2000 ∷ [])
      ∷ accept_for (codes "f1") 1 ((codes "t1", cpus 1000 ∷ []) ∷ (codes "t1", cpus 1000 ∷ []) ∷ []) 0 0
      ∷ accept_two (cpus 1000 ∷ []) []
      ∷ from_start

  abbrev from_both : List Event
  from_both = accept_two (cpus 1000 ∷ ports first ∷ []) (cpus 2000 ∷ ports second ∷ []) ∷ from_refused

  ports_shared_run : replies_to ceilings opening (ports_shared all first second) ≡ ports_shared_replies all others
  ports_shared_run =
      both_register (Cycle 0 ∷ from_both)
      ∙ ap (λ rs. Done ∷ Done ∷ rs) (
      all_reported from_both
      ∙ ap (λ rs. one (offer 1 (codes "f1") (codes "a") (codes "n1") three) ∷ rs) (
      both_use from_refused
      ∙ ap (λ rs. Refused NotCovered ∷ rs) (
      all_refused from_start
      ∙ ap (λ rs. Refused NotCovered ∷ Refused KnownTask ∷ Refused Empty ∷ rs) (
      both_start (Cycle 0 ∷ at_end)
      ∙ ap (λ rs. Done ∷ rs) (
      rest_reported at_end
      ∙ ap (λ rs. one other_reported ∷ rs) (one_ends (Cycle 0 ∷ []) ∙ ap (λ rs. Done ∷ Done ∷ rs) back_reported))))))

-- ---- facts about sets of numbers

same_members : (a b : Numbers) → ((n : ℕ) → set.contains a n ≡ set.contains b n) → a ≡ b
same_members a b each = set.same_set nat_cmp_total set.nat_cmp-IsAntisymmetric a b each

is_some : (a : Numbers) → 0 < set.len a → IsSome a
is_some a some = lt-ltb 0 (set.len a) some

none_in : (a : Numbers) → ((n : ℕ) → set.contains a n ≡ false) → set.len a ≡ 0
none_in a none =
    ap set.len (same_members a set.empty (λ n. none n ∙ sym (set.contains-empty nat_cmp n))) ∙ set.len-empty nat_cmp

either : (b : Bool) → (b && not b) ≡ false
either true = refl
either false = refl

apart_of : (a b : Bool) → ((a && not b) && b) ≡ false
apart_of true true = refl
apart_of true false = refl
apart_of false b = refl

without_itself : (a : Numbers) → nat_lt 0 (set.len (set.difference a a)) ≡ false
without_itself a =
    ap (nat_lt 0) (none_in (set.difference a a) (λ n. set.contains-difference nat_cmp_total a a n ∙ either (set.contains a n)))

pub ports_are_not_limited : PortsAreNotLimited
ports_are_not_limited all some =
    (no_cpus_run all (is_some all some) (without_itself all), used_up_run all (is_some all some) (without_itself all))

pub some_ports_are_reserved : SomePortsAreReserved
some_ports_are_reserved all part within some left =
    let others : Numbers = set.difference all part in
    some_reserved_run all part others (is_some part some) (is_some others left) refl within
    (set.contains-is_subset nat_cmp_total part part (λ n has. has))
    (eq-eqb (set.len (set.intersection others part)) 0
    (none_in (set.intersection others part)
    (λ n. set.contains-intersection nat_cmp_total others part n
    ∙ ap (λ b. b && set.contains part n) (set.contains-difference nat_cmp_total all part n)
    ∙ apart_of (set.contains all n) (set.contains part n))))
    (without_itself others)

pub no_port_is_shared : NoPortIsShared
no_port_is_shared all first second within left shared some =
    ports_shared_run all first second (set.difference all first) (is_some all some) (is_some (set.difference all first) left) within refl
    (ne_eqb (set.len (set.intersection first second)) 0 (λ none. omega (arith, shared, none)))

-- a set with a member is not empty
has_some : (a : Numbers) (n : ℕ) → set.contains a n ≡ true → 0 < set.len a
has_some a n has = by (set.len a) refl
  where
    by : (m : ℕ) → set.len a ≡ m → 0 < set.len a
    by zero none =
        absurd (false≢true (sym (set.contains-empty nat_cmp n) ∙ ap (λ (s : Numbers). set.contains s n) (sym (set.empty_of_len a none)) ∙ has))
    by (suc m) is = omega (arith, is)

first_of_four : (a b c d : Bool) → (a || (b || false)) ≡ true → (a || (b || (c || (d || false)))) ≡ true
first_of_four true b c d has = refl
first_of_four false true c d has = refl
first_of_four false false c d has = absurd (false≢true has)

last_of_four : (a b c d : Bool) → (a ≡ true → (c || (d || false)) ≡ false) → (b ≡ true → (c || (d || false)) ≡ false)
    → ((a || (b || (c || (d || false)))) && not (a || (b || false))) ≡ (c || (d || false))
last_of_four true b c d one two = sym (one refl)
last_of_four false true c d one two = sym (two refl)
last_of_four false false true d one two = refl
last_of_four false false false true one two = refl
last_of_four false false false false one two = refl

pub some_port_is_shared : SomePortIsShared
some_port_is_shared =
    no_port_is_shared (numbered four_ports) (numbered (31000 ∷ 31001 ∷ [])) (numbered (31001 ∷ 31002 ∷ [])) within left shared some
    ∙ ap (λ (others : Numbers). ports_shared_replies (numbered four_ports) others) rest
  where
    in_all : (n : ℕ) → set.contains (numbered four_ports) n
        ≡ (eqb 31000 n || (eqb 31001 n || (eqb 31002 n || (eqb 31003 n || false))))
    in_all n = set.contains-from_list_nat four_ports n

    in_first : (n : ℕ) → set.contains (numbered (31000 ∷ 31001 ∷ [])) n ≡ (eqb 31000 n || (eqb 31001 n || false))
    in_first n = set.contains-from_list_nat (31000 ∷ 31001 ∷ []) n

    in_second : (n : ℕ) → set.contains (numbered (31001 ∷ 31002 ∷ [])) n ≡ (eqb 31001 n || (eqb 31002 n || false))
    in_second n = set.contains-from_list_nat (31001 ∷ 31002 ∷ []) n

    in_last : (n : ℕ) → set.contains (numbered (31002 ∷ 31003 ∷ [])) n ≡ (eqb 31002 n || (eqb 31003 n || false))
    in_last n = set.contains-from_list_nat (31002 ∷ 31003 ∷ []) n

    within : set.is_subset (numbered (31000 ∷ 31001 ∷ [])) (numbered four_ports) ≡ true
    within =
        set.contains-is_subset nat_cmp_total (numbered (31000 ∷ 31001 ∷ [])) (numbered four_ports)
        (λ n has. in_all n ∙ first_of_four (eqb 31000 n) (eqb 31001 n) (eqb 31002 n) (eqb 31003 n) (sym (in_first n) ∙ has))

    some : 0 < set.len (numbered four_ports)
    some = has_some (numbered four_ports) 31000 (in_all 31000)

    left : 0 < set.len (set.difference (numbered four_ports) (numbered (31000 ∷ 31001 ∷ [])))
    left =
        has_some (set.difference (numbered four_ports) (numbered (31000 ∷ 31001 ∷ []))) 31002
        (set.contains-difference nat_cmp_total (numbered four_ports) (numbered (31000 ∷ 31001 ∷ [])) 31002
        ∙ (λ i. in_all 31002 i && not (in_first 31002 i)))

    shared : 0 < set.len (set.intersection (numbered (31000 ∷ 31001 ∷ [])) (numbered (31001 ∷ 31002 ∷ [])))
    shared =
        has_some (set.intersection (numbered (31000 ∷ 31001 ∷ [])) (numbered (31001 ∷ 31002 ∷ []))) 31001
        (set.contains-intersection nat_cmp_total (numbered (31000 ∷ 31001 ∷ [])) (numbered (31001 ∷ 31002 ∷ [])) 31001
        ∙ (λ i. in_first 31001 i && in_second 31001 i))

    rest : set.difference (numbered four_ports) (numbered (31000 ∷ 31001 ∷ [])) ≡ numbered (31002 ∷ 31003 ∷ [])
    rest =
        same_members (set.difference (numbered four_ports) (numbered (31000 ∷ 31001 ∷ []))) (numbered (31002 ∷ 31003 ∷ []))
        (λ n.
        set.contains-difference nat_cmp_total (numbered four_ports) (numbered (31000 ∷ 31001 ∷ [])) n
        ∙ (λ i. in_all n i && not (in_first n i))
        ∙ last_of_four (eqb 31000 n) (eqb 31001 n) (eqb 31002 n) (eqb 31003 n)
        (λ is. ap (λ (m : ℕ). eqb 31002 m || (eqb 31003 m || false)) (sym (eqb-true 31000 n is)))
        (λ is. ap (λ (m : ℕ). eqb 31002 m || (eqb 31003 m || false)) (sym (eqb-true 31001 n is)))
        ∙ sym (in_last n))
