use Rattle.std.proofs.Common.{◌≡◌, ◌==◌, ◌++◌, Bool, List, Option, Some, MatchOption, find, map, sym, ap, subst, ◌∙◌, is_some}
use Rattle.std.specs.Option.{option_copied}
use Rattle.drf_rows.specs.Offers.{task_of, AreNew}
use Rattle.drf_rows.specs.declared.rows.OfferRow.{OfferRow}
use Rattle.drf_rows.specs.declared.rows.TaskRow.{TaskRow}
use Rattle.drf_holdings.specs.Stored.{OffersAndTasks, HasStarted}
use Rattle.drf_holdings.specs.Taking.{IsTaken, HasNone}
use Rattle.drf_holdings.proofs.Removed.{find_any, some_copied}
use Rattle.drf_holdings.proofs.holdings.Holdings.start.Goals as goal

pub unwrap-offer-requires : goal.unwrap-offer-requires
unwrap-offer-requires c =
    let offers = c.args.self.now.offers in
    let some = find_any (λ (o : OfferRow). o.number == c.args.number) offers c.requires.there in
    let got : option_copied c.get.result ≡ find (λ (o : OfferRow). o.number == c.args.number) offers =
    c.get.ensures ∙ (λ i. find (λ (o : OfferRow). o.number == c.args.number) (c.self.view_is i).offers) in
    some_copied c.get.result ∙ ap is_some got ∙ some

pub append-requires : goal.append-requires
append-requires c =
    let offers = c.args.self.now.offers in
    let offer = c.unwrap-offer.result.now in
    let got : option_copied c.get.result ≡ find (λ (o : OfferRow). o.number == c.args.number) offers =
    c.get.ensures ∙ (λ i. find (λ (o : OfferRow). o.number == c.args.number) (c.self.view_is i).offers) in
    let rows : c.in_ok-rows.rows.items ≡ map (task_of offer) c.args.tasks = c.in_ok-rows.ensures ∙ ap (map (task_of offer)) c.into_vec.ensures.value in
    subst (λ (ts : List TaskRow). AreNew ts c.in_ok-rows.rows.items) (ap (λ (h : OffersAndTasks). h.tasks) (sym c.self.view_is))
    (subst (AreNew c.args.self.now.tasks) (sym rows)
    (c.requires.new offer (sym got ∙ ap option_copied c.unwrap-offer.ensures)))

pub unwrap-requires : goal.unwrap-requires
unwrap-requires c =
    let some = find_any (λ (o : OfferRow). o.number == c.args.number) c.args.self.now.offers c.requires.there in
    ap is_some c.take.ensures.found ∙ (λ i. is_some (find (λ (o : OfferRow). o.number == c.args.number) (c.self.view_is i).offers)) ∙ some

pub returns-clause-ok : goal.returns-clause-ok
returns-clause-ok c =
    let test : OfferRow → Bool = λ o. o.number == c.args.number in
    let old : OffersAndTasks = record { offers = c.self.inside.offers; tasks = c.self.inside.tasks } in
    let new : OffersAndTasks = record { offers = c.take.new.self; tasks = c.append.new.self } in
    let found : OfferRow = c.unwrap-offer.result.now in
    let offer : OfferRow = c.unwrap.result in
    let both : ◌≡◌ {A = Option OfferRow} (Some found) (Some offer) =
    sym (ap option_copied c.unwrap-offer.ensures) ∙ c.get.ensures ∙ sym c.take.ensures.found ∙ c.unwrap.ensures in
    let same : found ≡ offer = cc in
    let rows : c.in_ok-rows.rows.items ≡ map (task_of offer) c.args.tasks =
    c.in_ok-rows.ensures ∙ ap (map (task_of found)) c.into_vec.ensures.value ∙ (λ i. map (task_of (same i)) c.args.tasks) in
    let started : HasStarted c.args.number c.args.tasks old new offer = record {
      found = sym c.take.ensures.found ∙ c.unwrap.ensures;
      taken = subst (λ (r : Option OfferRow). MatchOption r (HasNone test old.offers new.offers) (IsTaken test old.offers new.offers))
          c.unwrap.ensures c.take.ensures.taken;
      started = c.in_ok-append.ensures.ok ∙ ap (λ (ts : List TaskRow). old.tasks ++ ts) rows;
    } in
    subst (λ (h : OffersAndTasks). HasStarted c.args.number c.args.tasks h new offer) c.self.view_is started
