use Rattle.std.proofs.Common.{sym, ap, ◌∙◌, List, Option}
use Rattle.std.specs.Option.{option_map_or}
use Rattle.drf_tables.proofs.tables.Names.{merged, refusal, rest, Resource, exchanged}
use Rattle.drf_bundle.specs.laws.FitLaws.{join_or_some}
use Rattle.drf_row_laws.proofs.TotalsLaws.{joined-exchanged}
use Rattle.drf_tables.proofs.reservations.exchanged.Goals as goal

pub exchange-requires : goal.exchange-requires
exchange-requires c =
    let old = c.args.old.now in
    let new = c.args.new.now in
    let left = rest c.args.whole.now old in
    (join_or_some (refusal left new) (merged left new) (exchanged old new c.args.whole.now)
    (joined-exchanged c.args.whole.now old new c.requires)).0

pub returns : goal.returns
returns c =
    ap (λ (o : Option (List Resource)). option_map_or (λ both. both) o c.in_ok-both.both)
    (sym c.in_ok-both.ensures ∙ joined-exchanged c.args.whole.now c.args.old.now c.args.new.now c.requires)
