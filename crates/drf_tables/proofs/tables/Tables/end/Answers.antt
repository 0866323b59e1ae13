use Rattle.std.proofs.Common.{◌≡◌, Some, None, sym, ap, ◌∙◌, subst}
use Rattle.drf_rows.specs.Releases.{without_ended}
use Rattle.drf_rows.specs.declared.rows.Rows.{Rows}
use Rattle.drf_rows.specs.Ended.{release_of}
use Rattle.drf_tables.specs.offers.Ended.{HasEnded}
use Rattle.drf_tables.specs.Inside.{rows_in, rows_of}
use Rattle.drf_tables.specs.Stored.{Stored}
use Rattle.drf_holdings.specs.Stored.{HasTaken, holding_of}
use Rattle.drf_tables.proofs.offers.Ended.{back-ended, ended-kept, ended-one, rows_ended, rows-none, without_it, without-none}
use Rattle.drf_tables.proofs.limits.Recounted.{counts-ended, release_fits}
use Rattle.drf_tables.proofs.tables.Tables.end.Goals as goal

pub returns-in_err-taken-clause-none : goal.returns-in_err-taken-clause-none
returns-in_err-taken-clause-none c =
    let t = c.self.inside in
    let release = release_of c.args.release in
    let lost : HasTaken release t.holdings c.take.new.self None = c.in_err-taken.ensures in
    rw c.from_residual.ensures (
      rows-none t c.take.new.self release lost ∙ ap (λ (s : Stored). s.rows) c.self.view_is,
      subst (λ (s : Stored). without_ended s.rows release ≡ s.rows) c.self.view_is (without-none t c.take.new.self release lost),
    )

pub give_back-requires : goal.give_back-requires
give_back-requires c =
    let t = c.self.inside in
    let release = release_of c.args.release in
    let taken = c.in_ok-taken.taken in
    let lost : HasTaken release t.holdings c.take.new.self (Some taken) = c.in_ok-taken.ensures in
    back-ended t c.take.new.self release taken c.self.invariant.kept lost

pub release_held-requires : goal.release_held-requires
release_held-requires c =
    let t = c.self.inside in
    let release = release_of c.args.release in
    let taken = c.in_ok-taken.taken in
    let lost : HasTaken release t.holdings c.take.new.self (Some taken) = c.in_ok-taken.ensures in
    let entries = c.give_back.new.self.entries in
    let one = without_it t entries c.take.new.self release taken c.self.invariant.kept c.give_back.ensures lost in
    let new : Rows = rows_ended t entries c.take.new.self release taken c.self.invariant.kept c.give_back.ensures lost in
    release_fits (rows_in t) new t.consumption (holding_of taken) c.self.invariant.consumed one.less
    (sym (ap (λ (r : Rows). r.agents) one.others))

pub invariant_of-self-2 : goal.invariant_of-self-2
invariant_of-self-2 c =
    let t = c.self.inside in
    let release = release_of c.args.release in
    let taken = c.in_ok-taken.taken in
    let lost : HasTaken release t.holdings c.take.new.self (Some taken) = c.in_ok-taken.ensures in
    let held = c.take.new.self in
    let entries = c.give_back.new.self.entries in
    let one = without_it t entries held release taken c.self.invariant.kept c.give_back.ensures lost in
    let new : Rows = rows_ended t entries held release taken c.self.invariant.kept c.give_back.ensures lost in
    record {
      kept = ended-kept t entries held release taken c.self.invariant.kept c.give_back.ensures lost;
      consumed = counts-ended (rows_in t) new t.consumption (holding_of taken) c.self.invariant.consumed one.less
          (sym (ap (λ (r : Rows). r.agents) one.others)) c.release_held.new.consumption c.release_held.ensures.raised;
    }

pub returns-clause-some : goal.returns-clause-some
returns-clause-some c =
    let t = c.self.inside in
    let release = release_of c.args.release in
    let taken = c.in_ok-taken.taken in
    let lost : HasTaken release t.holdings c.take.new.self (Some taken) = c.in_ok-taken.ensures in
    let entries = c.give_back.new.self.entries in
    let after : Rows = rows_of entries t.frameworks.entries c.take.new.self t.filters t.weights.entries t.limits t.clock t.next_offer t.events in
    subst (λ (s : Stored). HasEnded s.rows after release taken) c.self.view_is
    (ended-one t entries c.take.new.self release taken c.self.invariant.kept c.give_back.ensures lost)

pub returns-clause-consistent : goal.returns-clause-consistent
returns-clause-consistent c =
    let t = c.self.inside in
    let release = release_of c.args.release in
    let taken = c.in_ok-taken.taken in
    let lost : HasTaken release t.holdings c.take.new.self (Some taken) = c.in_ok-taken.ensures in
    (ended-kept t c.give_back.new.self.entries c.take.new.self release taken c.self.invariant.kept c.give_back.ensures lost).consistent
