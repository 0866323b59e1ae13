-- The capacities of the allocator, as numbers.
use Rattle.std.specs.Prelude.{ℕ, ◌≤◌}

-- the greatest numbers of agents, frameworks, roles of one framework, clients, filters in force, roles with a weight,
-- roles with a limit, names of scalars over all agents, and accepted events
pub record LimitNumbers : Type 0 where
  pub agents : ℕ
  pub frameworks : ℕ
  pub roles : ℕ
  pub clients : ℕ
  pub filters : ℕ
  pub weights : ℕ
  pub limits : ℕ
  pub scalar_names : ℕ
  pub events : ℕ

-- the greatest capacities
abbrev pub ceilings : LimitNumbers
ceilings = record {
  agents = 4096;
  frameworks = 1024;
  roles = 8;
  clients = 4096;
  filters = 65536;
  weights = 4096;
  limits = 4096;
  scalar_names = 32;
  events = 4294967295;
}

-- the number is from 1 to the ceiling
abbrev pub IsWithin : ℕ → ℕ → Type 0
IsWithin n ceiling = (1 ≤ n) × (n ≤ ceiling)

-- each capacity is from 1 to its ceiling
pub record IsWithinCeilings (l : LimitNumbers) : Type 0 where
  pub agents : IsWithin l.agents ceilings.agents
  pub frameworks : IsWithin l.frameworks ceilings.frameworks
  pub roles : IsWithin l.roles ceilings.roles
  pub clients : IsWithin l.clients ceilings.clients
  pub filters : IsWithin l.filters ceilings.filters
  pub weights : IsWithin l.weights ceilings.weights
  pub limits : IsWithin l.limits ceilings.limits
  pub scalar_names : IsWithin l.scalar_names ceilings.scalar_names
  pub events : IsWithin l.events ceilings.events
