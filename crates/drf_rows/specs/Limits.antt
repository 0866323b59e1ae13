-- Conversion between the fields of the type `Limits` and the capacities of the definition.
use Rattle.drf_rows.specs.LimitNumbers.{LimitNumbers}
use Rattle.drf_rows.specs.declared.limits.Limits.TheInside.{Inside}

-- the capacities that the fields contain
abbrev pub numbers_of : Inside → LimitNumbers
numbers_of l = record {
  agents = l.agents;
  frameworks = l.frameworks;
  roles = l.roles;
  clients = l.clients;
  filters = l.filters;
  weights = l.weights;
  limits = l.limits;
  scalar_names = l.scalar_names;
  events = l.events;
}

-- the fields that contain the capacities
abbrev pub fields_of : LimitNumbers → Inside
fields_of n = record {
  agents = n.agents;
  frameworks = n.frameworks;
  roles = n.roles;
  clients = n.clients;
  filters = n.filters;
  weights = n.weights;
  limits = n.limits;
  scalar_names = n.scalar_names;
  events = n.events;
}
