use Rattle.std.proofs.Common.{sym, ap, ◌∙◌, subst}
use Rattle.drf_tables.proofs.tables.Names.{reserved_in, exchanged, with_total, CanExchangeOn, rows_in, Stored}
use Rattle.drf_tables.proofs.limits.Running.{counts-alike, counts-exchanged, exchange_adds, exchange_fits, kept-still}
use Rattle.drf_tables.proofs.reservations.Moved.{can_each, rows-exchanged, kept-exchanged}
use Rattle.drf_tables.proofs.limits.Recounted.{counts-back, counts-still, raised_fits}
use Rattle.drf_tables.proofs.tables.Tables.exchange.Goals.{After-consume_total}
use Rattle.drf_tables.proofs.tables.Tables.exchange.Goals as goal

pub consume_total-requires : goal.consume_total-requires
consume_total-requires c =
    let t = c.self.inside in
    let name = c.args.agent.now in
    let can : CanExchangeOn (rows_in t) name c.args.old.now c.args.new.now =
    subst (λ (s : Stored). CanExchangeOn s.rows name c.args.old.now c.args.new.now) (sym c.self.view_is) c.requires in
    exchange_adds t c.self.invariant.kept c.self.invariant.consumed name c.args.old.now c.args.new.now can

can_at : (c : After-consume_total) → CanExchangeOn (rows_in c.self.inside) c.args.agent.now c.args.old.now c.args.new.now
can_at c = subst (λ (s : Stored). CanExchangeOn s.rows c.args.agent.now c.args.old.now c.args.new.now) (sym c.self.view_is) c.requires

pub exchange-requires : goal.exchange-requires
exchange-requires c =
    let t = c.self.inside in
    let name = c.args.agent.now in
    let can = can_at (goal.at.exchange-requires c).After-consume_total in
    can_each t c.self.invariant.kept name c.args.old.now c.args.new.now can

pub invariant_of-self : goal.invariant_of-self
invariant_of-self c = record {
  kept = c.self.invariant.kept;
  consumed = counts-still (rows_in c.self.inside) c.self.inside.consumption c.self.invariant.consumed c.consume_total.new.consumption
      c.in_err-consume_total.ensures.err;
}

pub release_total-requires : goal.release_total-requires
release_total-requires c =
    let t = c.self.inside in
    let name = c.args.agent.now in
    let can = can_at (goal.at.release_total-requires c).After-consume_total in
    exchange_fits t c.self.invariant.kept c.self.invariant.consumed name c.args.old.now c.args.new.now can
    c.consume_total.new.consumption c.in_ok-consume_total.ensures.ok

pub release_total-requires-in-Err : goal.release_total-requires-in-Err
release_total-requires-in-Err c =
    raised_fits c.self.inside.consumption c.consume_total.new.consumption (λ test label. reserved_in test label c.args.new.now)
    c.in_ok-consume_total.ensures.ok

pub invariant_of-self-in-Ok : goal.invariant_of-self-in-Ok
invariant_of-self-in-Ok c =
    let t = c.self.inside in
    let name = c.args.agent.now in
    let can = can_at (goal.at.invariant_of-self-in-Ok c).After-consume_total in
    let entries = c.exchange.new.self.entries in
    record {
      kept = kept-exchanged t c.self.invariant.kept name c.args.old.now c.args.new.now can entries c.in-Ok.ensures.ok;
      consumed = counts-exchanged t c.self.invariant.kept c.self.invariant.consumed name c.args.old.now c.args.new.now can
          c.consume_total.new.consumption c.in_ok-consume_total.ensures.ok entries c.in-Ok.ensures.ok
          c.release_total.new.consumption c.release_total.ensures.raised;
    }

pub returns-in-Ok-clause-ok : goal.returns-in-Ok-clause-ok
returns-in-Ok-clause-ok c =
    let t = c.self.inside in
    let name = c.args.agent.now in
    let can = can_at (goal.at.returns-in-Ok-clause-ok c).After-consume_total in
    rows-exchanged t c.self.invariant.kept name c.args.old.now c.args.new.now can c.exchange.new.self.entries c.in-Ok.ensures.ok
    ∙ ap (λ (s : Stored). record s.rows { agents = with_total s.rows name (exchanged c.args.old.now c.args.new.now) }) c.self.view_is

pub invariant_of-self-in-Err : goal.invariant_of-self-in-Err
invariant_of-self-in-Err c =
    let t = c.self.inside in
    let entries = c.exchange.new.self.entries in
    record {
      kept = kept-still t entries c.in-Err.ensures.err c.self.invariant.kept;
      consumed = counts-alike t entries c.in-Err.ensures.err c.release_total-in-Err.new.consumption
          (counts-back (rows_in t) t.consumption c.self.invariant.consumed c.consume_total.new.consumption c.release_total-in-Err.new.consumption _
          c.in_ok-consume_total.ensures.ok c.release_total-in-Err.ensures.raised);
    }
