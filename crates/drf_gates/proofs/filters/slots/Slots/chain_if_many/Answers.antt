use Rattle.std.proofs.Common.{arith}
use Rattle.drf_gates.specs.declared.filters.index.Key.TheVariants.{Client, ClientAndAgent}
use Rattle.drf_gates.proofs.filters.Held.{indexed-again, marked-long, marks-slots}
use Rattle.drf_gates.proofs.filters.slots.Slots.chain_if_many.Goals as goal

pub chain_all-requires : goal.chain_all-requires
chain_all-requires c =
    let s = c.args.self.now in
    omega (arith, marked-long ClientAndAgent s.rows.items s.pairs c.requires.marked.pairs, c.requires.marked.pairs.enough)

pub chain_all-requires-2 : goal.chain_all-requires-2
chain_all-requires-2 c =
    let s = c.args.self.now in
    omega (arith, marked-long Client s.rows.items s.clients c.requires.marked.clients, c.requires.marked.clients.enough)

pub returns-clause-slots : goal.returns-clause-slots
returns-clause-slots c =
    let s = c.args.self.now in
    let pairs = marked-long ClientAndAgent s.rows.items s.pairs c.requires.marked.pairs in
    let clients = marked-long Client s.rows.items s.clients c.requires.marked.clients in
    record {
      pairs = indexed-again ClientAndAgent s.rows.items s.pairs c.chain_all.new.self c.requires.marked.pairs c.chain_all.ensures.chained c.chain_all.ensures.hashes
          (omega (arith, c.chain_all.ensures.heads, pairs, c.requires.marked.pairs.enough)) c.chain_all.ensures.start;
      clients = indexed-again Client s.rows.items s.clients c.chain_all-2.new.self c.requires.marked.clients c.chain_all-2.ensures.chained c.chain_all-2.ensures.hashes
          (omega (arith, c.chain_all-2.ensures.heads, clients, c.requires.marked.clients.enough)) c.chain_all-2.ensures.start;
      live = c.requires.marked.live;
    }

pub returns-then-few-gt0-clause-slots : goal.returns-then-few-gt0-clause-slots
returns-then-few-gt0-clause-slots c = marks-slots c.args.self.now c.requires.marked (c.requires.tidy c.if-few-gt0.true)
