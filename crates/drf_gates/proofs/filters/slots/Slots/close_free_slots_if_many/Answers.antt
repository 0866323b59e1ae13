use Rattle.std.proofs.Common.{refl}
use Rattle.drf_gates.specs.filters.Slots.{filters_in}
use Rattle.drf_gates.proofs.filters.Held.{closed-all, left-are}
use Rattle.drf_gates.proofs.filters.slots.Slots.close_free_slots_if_many.Goals as goal

pub find_again-requires : goal.find_again-requires
find_again-requires c = closed-all c.args.self.now _ c.keep_filled.ensures refl refl c.requires

pub returns-then-self-len-clause-same : goal.returns-then-self-len-clause-same
returns-then-self-len-clause-same c =
    left-are (filters_in c.args.self.now) c.keep_filled.new.rows.items c.find_again.new.self c.keep_filled.ensures c.find_again.ensures.same
