use Rattle.drf_gates.proofs.quota.consumption.Consumption.follow.Goals as goal

pub invariant_of-self-else-is_some : goal.invariant_of-self-else-is_some
invariant_of-self-else-is_some c = record {
  bounded = c.self.invariant.bounded;
  some = c.self.invariant.some;
  exact = c.drop_total.ensures c.self.inside.used.entries c.self.invariant.exact;
}
