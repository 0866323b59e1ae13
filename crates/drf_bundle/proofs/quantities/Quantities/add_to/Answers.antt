use Rattle.std.proofs.Common.{◌≡◌, ℕ, sym, ◌∙◌, subst}
use Rattle.std.proofs.lemmas.Bool.{false≢true}
use Rattle.drf_bundle.specs.Quantities.{with_amount}
use Rattle.drf_bundle.proofs.PlaceLemmas.{named_in_free_slot, sum_in_free_slot, where_done}
use Rattle.drf_bundle.proofs.quantities.Quantities.add_to.Goals as goal

-- the label was not named
pub returns-in-Err-clause-ok : goal.returns-in-Err-clause-ok
returns-in-Err-clause-ok c done =
    subst (λ (n : ℕ). c.name_at.new.self ≡ with_amount c.args.self.now c.args.label.now n)
    (sum_in_free_slot _ _ _ c.args.thousandths c.in-Err.ensures.absent)
    (where_done c.name_at.result c.name_at.ensures.ok (sym c.is_ok.ensures.value ∙ done))

pub returns-in-Err-clause-named : goal.returns-in-Err-clause-named
returns-in-Err-clause-named c named =
    let absent = named_in_free_slot _ _ _ c.in-Err.ensures.absent in
    absurd (false≢true (sym absent ∙ named))
