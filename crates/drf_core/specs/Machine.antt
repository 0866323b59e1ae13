-- An allocator as callers see it: its capacities, its rows without expired filters, and the work of its sorter.
use Rattle.std.specs.Prelude.{◌≡◌, ℕ, ◌≤◌, ◌<◌, ◌^◌, List, ◌++◌, take, slice_get, Some, None, refl}
use Rattle.std.specs.List.{AllByRecursion}
use Rattle.std.specs.Coded.{Coded, code_by, coded×, coded_ℕ}
use Rattle.drf_rows.specs.contracts.limits.Limits as limits
use Rattle.drf_rows.specs.contracts.rows.Rows as rows
use Rattle.drf_rows.specs.LimitNumbers.{LimitNumbers}
use Rattle.drf_rows.specs.Consistent.{IsConsistent, IsConserved}
use Rattle.drf_rows.specs.Step.{opening, live_rows, rows_after, rows_after_all, replies_to}
use Rattle.drf_rows.specs.declared.reply.Reply.{Reply}
use Rattle.drf_rows.specs.declared.rows.Rows.{Rows}
use Rattle.drf_rows.specs.declared.event.Event.{Event}
use Rattle.drf_sorter.specs.Work.{Work}
use Rattle.drf_core.specs.refusal.Cases.{early_refusal_of}

-- the capacities and rows of an allocator
pub record Machine : Type 0 where
  pub limits : LimitNumbers
  pub rows : Rows

-- a coding of machines, by which proofs tell them apart
abbrev pub machine_code : Coded Machine
machine_code = code_by (LimitNumbers × Rows) (coded× limits.the_row.coded rows.the_row.coded) (λ m. (m.limits, m.rows)) (λ p. record { limits = p.0; rows = p.1 }) (λ _. refl)

-- an allocator: a machine, with the keys that its sorter has computed and those that may be stale
pub record Engine : Type 0 where
  pub limits : LimitNumbers
  pub rows : Rows
  pub work : Work

-- a coding of engines, by which proofs tell them apart
abbrev pub engine_code : Coded Engine
engine_code = code_by (LimitNumbers × (Rows × (ℕ × ℕ))) (coded× limits.the_row.coded (coded× rows.the_row.coded (coded× coded_ℕ coded_ℕ)))
    (λ e. (e.limits, (e.rows, (e.work.made, e.work.marked))))
    (λ p. record { limits = p.0; rows = p.1.0; work = record { made = p.1.1.0; marked = p.1.1.1 } }) (λ _. refl)

-- the machine as callers see it: without expired filters
unfoldable pub live : Engine → Machine
live engine = record { limits = engine.limits; rows = live_rows engine.rows }

-- a machine that was just opened
abbrev pub opened : LimitNumbers → Machine
opened limits = record { limits = limits; rows = opening }

-- a machine after an event
unfoldable pub after : Machine → Event → Machine
after machine event = record { limits = machine.limits; rows = live_rows (rows_after machine.limits machine.rows event) }

-- an allocator that was just opened
pub record IsOpened (given : LimitNumbers) (new : Engine) : Type 0 where
  pub limits : new.limits ≡ given
  pub work : new.work ≡ record { made = 0; marked = 0 }
  pub rows : live_rows new.rows ≡ opening

-- What always holds for the current state: it is consistent, nothing is granted twice, offer numbers, including the next one, are at most 2^56, and
-- each filter expires before 2^63.
pub record IsSafe (rows : Rows) : Type 0 where
  pub consistent : IsConsistent rows
  pub conserved : AllByRecursion (IsConserved rows) rows.agents
  pub numbers : AllByRecursion (λ o. o.number ≤ 2 ^ 56) rows.offers
  pub next_offer : rows.next_offer ≤ 2 ^ 56
  pub filters : AllByRecursion (λ f. f.until < 2 ^ 63) rows.filters

-- nothing that callers see has changed
pub record IsSame (old new : Engine) : Type 0 where
  pub limits : new.limits ≡ old.limits
  pub rows : live_rows new.rows ≡ live_rows old.rows

-- the allocator after an event
pub record IsAfter (old new : Engine) (event : Event) : Type 0 where
  pub limits : new.limits ≡ old.limits
  pub rows : live_rows new.rows ≡ live_rows (rows_after old.limits old.rows event)

-- the allocator after a list of events
pub record IsAfterAll (old new : Engine) (events : List Event) : Type 0 where
  pub limits : new.limits ≡ old.limits
  pub rows : live_rows new.rows ≡ live_rows (rows_after_all old.limits old.rows events)

-- A run stopped at an event: the events before it were applied, and their replies appended. If there is room for one more reply, no early refusal
-- applies to the event.
pub record HasStopped (old new : Engine) (events : List Event) (before reported : List Reply) (room : ℕ) : Type 0 where
  pub number : ℕ
  pub event : Event
  pub at : slice_get events number ≡ Some event
  pub ended : IsAfterAll old new (take number events)
  pub replies : reported ≡ before ++ replies_to old.limits old.rows (take number events)
  pub not_refused : 0 < room → early_refusal_of old.limits (rows_after_all old.limits old.rows (take number events)) event ≡ None
