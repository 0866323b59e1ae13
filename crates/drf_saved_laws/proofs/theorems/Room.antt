-- A holding is usable exactly if its agent has enough free resources for it, and nothing in it is reserved for other roles. And the rows with
-- one more holding.
use Rattle.std.specs.Prelude.{◌≡◌, ℕ, ◌≤◌, Bool, true, false, List, [], ◌∷◌, ◌++◌, map, Option, Some, None}
use Rattle.std.specs.List.{AllByRecursion}
use Rattle.std.specs.Option.{option_map_or}
use Rattle.std.proofs.Common.{refl, sym, ap, subst, ◌∙◌, inl, inr, cond, arith, append_assoc}
use Rattle.std.proofs.lemmas.Bool.{cases_Bool, false≢true}
use Rattle.std.proofs.lemmas.List.{map-append, append-nil}
use Rattle.drf_role.specs.Parts.{parts_of}
use Rattle.drf_role.specs.Text.{same_text}
use Rattle.drf_bundle.specs.Bundle.{Key, IsBundle, units, covers, part_for}
use Rattle.drf_bundle.specs.Value.{Point, Thousandths, Number, Member}
use Rattle.drf_bundle.proofs.theorems.PartLaws.{bundle-part_for}
use Rattle.drf_bundle.proofs.theorems.UnitProofs.{covers_by_units}
use Rattle.drf_bundle.specs.declared.resource.Resource.{Resource}
use Rattle.drf_rows.specs.Client.{Client}
use Rattle.drf_rows.specs.Consistent.{IsConsistent, IsCovered}
use Rattle.drf_rows.specs.Cycle.{free_of}
use Rattle.drf_rows.specs.Holdings.{Holding, holding_of_offer, holding_of_task, holdings_of}
use Rattle.drf_rows.specs.Quota.{is_within}
use Rattle.drf_rows.specs.Step.{opening}
use Rattle.drf_rows.specs.Totals.{agent_at}
use Rattle.drf_row_laws.proofs.ConsistentLaws.{same_text-swap}
use Rattle.drf_row_laws.proofs.CycleLaws.{entitlement-unlimited, units-entitlement}
use Rattle.drf_row_laws.proofs.ReleaseLaws.{IsOneLess, units-one_less}
use Rattle.drf_row_laws.specs.EntitlementLaws.{units_for}
use Rattle.drf_row_laws.proofs.EntitlementLaws.{entitled_by_units}
use Rattle.drf_laws.specs.HeldForLaws.{IsForItsRole}
use Rattle.drf_bundle.proofs.ListLaws.{cond_le, each_append, each_from_both, each_parts}
use Rattle.drf_row_laws.proofs.TotalsLaws.{bundle_free, if_named, units_free}
use Rattle.drf_rows.specs.declared.rows.AgentRow.{AgentRow}
use Rattle.drf_rows.specs.declared.rows.OfferRow.{OfferRow}
use Rattle.drf_rows.specs.declared.rows.TaskRow.{TaskRow}
use Rattle.drf_rows.specs.declared.rows.Rows.{Rows}
use Rattle.drf_saved.specs.Saved.{is_usable}

-- its agent is registered and has at least as much of everything free, and nothing in it is reserved for other roles
pub record HasRoom (rows : Rows) (h : Holding) : Type 0 where
  pub row : AgentRow
  pub found : agent_at rows h.agent ≡ Some row
  pub fits : (key : Key) (p : Point) → units h.bundle key p ≤ units (free_of rows row) key p
  pub own : IsForItsRole h

-- what a role can use of a bundle is its entitlement if there are no limits
units-part : (free : List Resource) (client : Client) (key : Key) (p : Point) → IsBundle free
    → (units (part_for client.role free) key p ≡ units_for opening client.role key p (units free key p))
    × (units (part_for client.role free) key p ≤ units free key p)
units-part free client key p is =
    let same = ap (λ (b : List Resource). units b key p) (sym (entitlement-unlimited opening free client is refl)) in
    (same ∙ entitled_by_units opening free client key p is, omega (arith, same, units-entitlement opening free client key p))

-- if a holding is for its role, and there is at least as much of a resource, then the part that the role can use is enough for it too
units-own : (h : Holding) (key : Key) (p : Point) (n : ℕ) → IsForItsRole h → units h.bundle key p ≤ n
    → units h.bundle key p ≤ units_for opening h.client.role key p n
units-own h (label, []) Thousandths n own fits = fits
units-own h (label, []) (Number m) n own fits = fits
units-own h (label, []) (Member m) n own fits = fits
units-own h (label, byte ∷ bytes) p n own fits = elim (cases_Bool (is_within (parts_of (byte ∷ bytes)) h.client.role)) [
  | inl within ↦ rw within fits
  | inr past ↦ rw past (omega (arith, own label byte bytes p past))
]

module _ (rows : Rows) (h : Holding) (is : IsBundle h.bundle) where
  abbrev covered_at : Option AgentRow → Bool
  covered_at found = option_map_or (λ a. covers (part_for h.client.role (free_of rows a)) h.bundle) found false

  pub room_of : IsConsistent rows → is_usable rows h.agent h.client.role h.bundle ≡ true → HasRoom rows h
  room_of consistent usable = by (agent_at rows h.agent) refl
    where
      by : (found : Option AgentRow) → agent_at rows h.agent ≡ found → HasRoom rows h
      by None none = absurd (false≢true (sym (ap covered_at none) ∙ usable))
      by (Some a) found =
          let free : List Resource = free_of rows a in
          let is_free : IsBundle free = bundle_free rows h.agent a consistent found in
          let part = units-part free h.client in
          let below = (covers_by_units (part_for h.client.role free) h.bundle (bundle-part_for h.client.role free is_free) is).0
          (sym (ap covered_at found) ∙ usable) in
          record {
            row = a;
            found = found;
            fits = λ key p. omega (arith, below key p, (part key p is_free).1);
            own = λ label byte bytes p past.
                let key : Key = (label, byte ∷ bytes) in
                omega (arith, below key p, (part key p is_free).0, ap (λ (b : Bool). cond b (units free key p) 0) past);
          }

  pub usable_of : (room : HasRoom rows h) → IsBundle (free_of rows room.row) → is_usable rows h.agent h.client.role h.bundle ≡ true
  usable_of room is_free =
      let free : List Resource = free_of rows room.row in
      ap covered_at room.found
      ∙ (covers_by_units (part_for h.client.role free) h.bundle (bundle-part_for h.client.role free is_free) is).1
      (λ key p. omega (arith, units-own h key p (units free key p) room.own (room.fits key p), (units-part free h.client key p is_free).0))

-- ---- one more holding

pub one_offer_more : (os : List OfferRow) (others : List Holding) (o : OfferRow)
    → IsOneLess (map holding_of_offer (os ++ o ∷ []) ++ others) (map holding_of_offer os ++ others) (holding_of_offer o)
one_offer_more os others o = record {
  before = map holding_of_offer os;
  after = others;
  has = ap (λ (hs : List Holding). hs ++ others) (map-append holding_of_offer os (o ∷ [])) ∙ append_assoc (map holding_of_offer os) (holding_of_offer o ∷ []) others;
  lacks = refl;
}

pub one_task_more : (others : List Holding) (ts : List TaskRow) (t : TaskRow)
    → IsOneLess (others ++ map holding_of_task (ts ++ t ∷ [])) (others ++ map holding_of_task ts) (holding_of_task t)
one_task_more others ts t = record {
  before = others ++ map holding_of_task ts;
  after = [];
  has = ap (λ (hs : List Holding). others ++ hs) (map-append holding_of_task ts (t ∷ [])) ∙ sym (append_assoc others (map holding_of_task ts) (holding_of_task t ∷ []));
  lacks = sym (append-nil (others ++ map holding_of_task ts));
}

module _ (old new : List Holding) (h : Holding) (less : IsOneLess old new h) where
  pub each_one_more : (P : Holding → Type 0) → AllByRecursion P new → P h → AllByRecursion P old
  each_one_more P all one =
      let parts = each_parts P less.before less.after (subst (AllByRecursion P) less.lacks all) in
      subst (AllByRecursion P) (sym less.has) (each_append P less.before (h ∷ less.after) parts.0 (one, parts.1))

-- after one more holding for which there is enough, all agents still cover their holdings
pub covered_one_more : (rows : Rows) (h : Holding) (after : List Holding) → IsConsistent rows → HasRoom rows h
    → IsOneLess after (holdings_of rows) h → AllByRecursion (IsCovered after) rows.agents
covered_one_more rows h after consistent room less =
    each_from_both (IsCovered (holdings_of rows)) IfNamed (IsCovered after) rows.agents one consistent.covered
    (if_named rows h.agent room.row consistent room.found (IsCovered after) here)
  where
    IfNamed : AgentRow → Type 0
    IfNamed b = same_text b.name h.agent ≡ true → IsCovered after b

    here : IsCovered after room.row
    here key p = omega (
      arith,
      units-one_less after (holdings_of rows) h less room.row.name key p,
      cond_le (same_text h.agent room.row.name) (units h.bundle key p),
      room.fits key p,
      units_free rows h.agent room.row consistent room.found key p,
    )

    one : (b : AgentRow) → IsCovered (holdings_of rows) b → IfNamed b → IsCovered after b
    one b covered named = elim (cases_Bool (same_text h.agent b.name)) [
      | inl same ↦ named (same_text-swap b.name h.agent ∙ same)
      | inr other ↦ λ key p. omega (
        arith,
        units-one_less after (holdings_of rows) h less b.name key p,
        covered key p,
        ap (λ (c : Bool). cond c (units h.bundle key p) 0) other,
      )
    ]
