use Rattle.std.proofs.Common.{Option, Bor, false, not, ap, sym, ◌∙◌}
use Rattle.std.specs.Option.{option_copied, option_map_or}
use Rattle.std.proofs.lemmas.Bool.{not-false}
use Rattle.drf_rows.specs.Tasks.{uses, covers_all}
use Rattle.drf_rows.specs.declared.rows.OfferRow.{OfferRow}
use Rattle.drf_core.proofs.refusal.has_rest.Goals as goal

pub leave_any_of-requires : goal.leave_any_of-requires
leave_any_of-requires c =
    let tasks = c.args.tasks.now in
    not-false (covers_all c.in-Some.offer.now.bundle (uses tasks))
    (ap (λ (o : Option (Bor OfferRow)). option_map_or (λ o. not (covers_all o.bundle (uses tasks))) (option_copied o) false) (sym c.in-Some.is) ∙ c.requires)
