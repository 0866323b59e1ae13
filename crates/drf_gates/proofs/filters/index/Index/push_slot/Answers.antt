use Rattle.drf_gates.proofs.filters.index.Index.push_slot.Goals as goal

pub returns-in-None-clause-hashes : goal.returns-in-None-clause-hashes
returns-in-None-clause-hashes c = rw c.in-None.is c.push_free_slot.ensures.hashes
