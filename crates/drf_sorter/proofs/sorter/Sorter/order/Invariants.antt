use Rattle.std.proofs.Common.{◌≡◌, ◌++◌, length}
use Rattle.drf_sorter.proofs.sorter.Sorter.order.Given as goal

-- the clients listed so far and those still to be served are the order that was fixed
abbrev pub invariant-loop-client : goal.invariant-loop-client
invariant-loop-client g l = record {
  content : g.Self.Sorter.content l.self ≡ g.Self.Sorter.content l.initial.self;
  work : g.Self.Sorter.work l.self ≡ g.Self.Sorter.work l.initial.self;
  listed : l.paths.items ++ g.Self.Sorter.queue l.self ≡ g.Self.Sorter.queue l.initial.self;
}

abbrev pub decreases-loop-client : goal.decreases-loop-client
decreases-loop-client g l = length (g.Self.Sorter.queue l.self)
