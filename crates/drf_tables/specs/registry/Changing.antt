-- Changes of the entries of a registry.
use Rattle.std.specs.Prelude.{◌≡◌, ℕ, ◌≤◌, Bool, true, false, List, map, Option, Some, None, take, if◌then◌else◌}
use Rattle.std.specs.Global.{Vec}
use Rattle.std.specs.List.{AllByRecursion}
use Rattle.std.specs.Option.{option_map}
use Rattle.std.specs.Vec.{with_items}
use Rattle.drf_bundle.specs.Bundle.{IsBundle, join, quantities_of, refusal, rest}
use Rattle.drf_bundle.specs.Quantities.{amount_of}
use Rattle.drf_bundle.specs.declared.resource.Resource.{Resource}
use Rattle.drf_rows.specs.Cycle.{free_of}
use Rattle.drf_rows.specs.Totals.{CanExchange, agent_at, exchanged, is_below_held}
use Rattle.drf_rows.specs.declared.limits.TheConstants.{LARGEST_AMOUNT}
use Rattle.drf_rows.specs.declared.rows.AgentRow.{AgentRow}
use Rattle.drf_rows.specs.declared.rows.ClientRow.{ClientRow}
use Rattle.drf_rows.specs.declared.rows.Rows.{Rows}
use Rattle.drf_role.specs.Text.{Text, same_text}
use Rattle.drf_tables.specs.Inside.{is_settled}
use Rattle.drf_tables.specs.declared.tables.Agent.{Agent}

-- changes the value of a name
abbrev pub changed : {A : Type 0} → Text → (A → A) → Text × A → Text × A
changed name change e = if same_text e.0 name then (e.0, change e.1) else e

-- changes each client of a framework
abbrev pub with_each : (ClientRow → ClientRow) → Vec ClientRow → Vec ClientRow
with_each change clients = with_items clients (map change clients.items)

-- the free resources together with a released part, if they are known
abbrev pub joined_free : Option (List Resource) → List Resource → Option (List Resource)
joined_free None part = None
joined_free (Some known) part = join known part

-- the part can be joined with the free resources, if these are known
abbrev pub CanTakeBack : List Resource → Option (List Resource) → Type 0
CanTakeBack part free = (known : List Resource) → free ≡ Some known → refusal known part ≡ None

-- the part can be joined with the free resources of the agent of a name
abbrev pub CanGiveBack : Text → List Resource → List (Text × Agent) → Type 0
CanGiveBack name part entries = AllByRecursion (λ e. same_text e.0 name ≡ true → CanTakeBack part e.1.free) entries

-- an agent after a part is released, or with unknown free resources
abbrev pub freed : Bool → List Resource → Agent → Agent
freed kept part a = record a { free = if kept then joined_free a.free part else None }

-- an agent after one more part is held
abbrev pub with_held : List Resource → Agent → Agent
with_held part a = record a { free = option_map (λ known. rest known part) a.free }

-- a part was released on the agent of a name, or its free resources became unknown
pub record HasFreed (name : Text) (part : List Resource) (old new : List (Text × Agent)) : Type 0 where
  pub kept : Bool
  pub same : new ≡ map (changed name (freed kept part)) old

-- an agent that is active or not
abbrev pub with_active : Bool → Agent → Agent
with_active active a = record a { active = active }

-- an agent after a part is replaced, both in its total and in its free resources
abbrev pub with_exchanged : List Resource → List Resource → Agent → Agent
with_exchanged old new a = record a { total = exchanged old new a.total; free = option_map (exchanged old new) a.free }

-- the total and the free resources have the part that is replaced
pub record CanExchangeAt (old new : List Resource) (a : Agent) : Type 0 where
  pub total : CanExchange a.total old new
  pub free : (known : List Resource) → a.free ≡ Some known → CanExchange known old new

-- the free resources of another total, if as much is held as before
abbrev pub other_free : List Resource → List Resource → Option (List Resource) → Option (List Resource)
other_free total old None = None
other_free total old (Some known) = Some (rest total (rest old known))

-- an agent with another total, and the free resources of that total or unknown ones
abbrev pub with_other : Bool → List Resource → Agent → Agent
with_other kept total a = record a { total = total; free = if kept then other_free total a.total a.free else None }

-- the agent of a name got another total; its free resources are right, or unknown
pub record HasOther (name : Text) (total : List Resource) (old new : List (Text × Agent)) : Type 0 where
  pub kept : Bool
  pub same : new ≡ map (changed name (with_other kept total)) old

-- the agent is registered, and its free resources have the part that is replaced
pub record CanExchangeOn (rows : Rows) (agent : Text) (old new : List Resource) : Type 0 where
  pub row : AgentRow
  pub found : agent_at rows agent ≡ Some row
  pub can : CanExchange (free_of rows row) old new

-- the agent is registered, and the total is valid and covers the resources held there
pub record CanHaveTotal (rows : Rows) (agent : Text) (total : List Resource) : Type 0 where
  pub row : AgentRow
  pub found : agent_at rows agent ≡ Some row
  pub bundle : IsBundle total
  pub small : (label : Text) → amount_of (quantities_of total) label ≤ LARGEST_AMOUNT
  pub covered : is_below_held rows agent total ≡ false

-- the free resources of the first agents are known
abbrev pub are_settled : ℕ → List (Text × Agent) → Bool
are_settled number entries = is_settled (take number entries)
