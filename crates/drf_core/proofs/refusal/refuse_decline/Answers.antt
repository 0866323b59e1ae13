use Rattle.std.proofs.Common.{◌∷◌, [], sym, ap, ◌∙◌, not, nat_lt, false, Option}
use Rattle.std.specs.Prelude.{is_some}
use Rattle.std.specs.Option.{option_map_or}
use Rattle.drf_role.specs.Text.{same_text}
use Rattle.drf_rows.specs.Step.{first_case, refusal_of}
use Rattle.drf_rows.specs.declared.limits.TheConstants.{LATEST_TIMESTAMP}
use Rattle.drf_rows.specs.declared.reply.Refusal.TheVariants.{BadMoment, HistoryFull, NotYours, TooMany, UnknownFramework, UnknownOffer}
use Rattle.drf_rows.specs.declared.rows.OfferRow.{OfferRow}
use Rattle.drf_core.proofs.refusing.Known.{known_offer}
use Rattle.drf_core.proofs.refusal.refuse_decline.Goals as goal

pub is_unknown-requires : goal.is_unknown-requires
is_unknown-requires c = λ holds.
    let d = c.args.decline.now in
    let its = ap (λ (o : Option OfferRow). option_map_or (λ o. same_text o.framework d.framework) o false) c.offer-offer.ensures in
    known_offer c.args.tables.now.rows d.offer d.framework c.recall.ensures (sym its ∙ sym c.is_its-holds.ensures ∙ holds)

pub returns : goal.returns
unfolding refusal_of
returns c =
    let d = c.args.decline.now in
    let stands = c.stands.ensures ∙ ap is_some c.offer-offer.ensures in
    let others = c.belongs_to_another.ensures ∙ ap (λ (o : Option OfferRow). option_map_or (λ o. not (same_text o.framework d.framework)) o false) c.offer-offer.ensures in
    c.first_case.ensures ∙ (λ i. first_case ((c.is_full.ensures i, HistoryFull) ∷ (nat_lt LATEST_TIMESTAMP c.args.decline.now.at, BadMoment) ∷ (c.is_unknown.ensures i, UnknownFramework) ∷ (not (stands i), UnknownOffer) ∷ (others i, NotYours) ∷ (c.decline_is_too_much.ensures i, TooMany) ∷ []))
