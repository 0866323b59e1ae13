use Rattle.drf_core.proofs.events.reservations.reserved.Goals as goal

pub returns-clause-asked : goal.returns-clause-asked
returns-clause-asked c = record {
  bundle = c.recall-2.ensures;
  is_role = c.recall.ensures.right;
  role_read = c.recall.ensures.parts;
}
