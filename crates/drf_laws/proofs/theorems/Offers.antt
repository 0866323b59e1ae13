-- An accepted `accept` can start its tasks.
use Rattle.std.proofs.Common.{◌≡◌, false, Option, None, sym, ap, ◌∙◌}
use Rattle.std.specs.Prelude.{not}
use Rattle.std.specs.Option.{option_map_or}
use Rattle.std.proofs.lemmas.Bool.{not-false}
use Rattle.drf_role.specs.Text.{Text, same_text}
use Rattle.drf_role.specs.TextLaws.{same_from_test}
use Rattle.drf_rows.specs.Offers.{CanAccept, has_offer, is_task_known}
use Rattle.drf_row_laws.proofs.OfferLaws.{some_offer}
use Rattle.drf_rows.specs.Tasks.{uses, covers_all}
use Rattle.drf_rows.specs.LimitNumbers.{LimitNumbers}
use Rattle.drf_rows.specs.Step.{refusal_of}
use Rattle.drf_rows.specs.declared.event.Accept as accepting
use Rattle.drf_rows.specs.declared.event.Event.TheVariants.{Accept}
use Rattle.drf_rows.specs.declared.rows.OfferRow.{OfferRow}
use Rattle.drf_rows.specs.declared.rows.Rows.{Rows}
use Rattle.drf_laws.proofs.theorems.Welcome.{no_case_of}

-- the offer is outstanding and covers the parts of the tasks, and the tasks are new
pub can_accept : (limits : LimitNumbers) (rows : Rows) (a : accepting.Accept) → refusal_of limits rows (Accept a) ≡ None
    → CanAccept rows a.offer a.tasks
can_accept limits rows a none =
    let no = no_case_of limits rows (Accept a) none in
    let one = some_offer rows a.offer (not-false (has_offer rows a.offer) no.1.1.1.0) in
    let its_own : not (same_text one.offer.framework a.framework) ≡ false
    = sym (ap (λ (o : Option OfferRow). option_map_or (λ o. not (same_text o.framework a.framework)) o false) one.at) ∙ no.1.1.1.1.0 in
    let framework_is = same_from_test one.offer.framework a.framework (not-false (same_text one.offer.framework a.framework) its_own) in
    record {
      offer = one.offer;
      at = one.at;
      can = record {
        covered = not-false (covers_all one.offer.bundle (uses a.tasks))
            (sym (ap (λ (o : Option OfferRow). option_map_or (λ o. not (covers_all o.bundle (uses a.tasks))) o false) one.at) ∙ no.1.1.1.1.1.1.1.0);
        new = ap (λ (f : Text). is_task_known rows f a.tasks) framework_is ∙ no.1.1.1.1.1.0;
      };
    }
