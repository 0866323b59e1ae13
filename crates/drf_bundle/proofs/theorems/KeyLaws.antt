-- Lemmas about `specs/laws/KeyLaws.antt`.
use Rattle.std.specs.Prelude.{◌≡◌, ℕ, false, List, [], ◌∷◌, IsTrue, All, Option}
use Rattle.std.specs.Option.{option_map_or}
use Rattle.std.proofs.Common.{refl, sym, ◌∙◌, subst, inl, inr}
use Rattle.std.proofs.lemmas.Bool.{and_parts, false_from_ne_true}
use Rattle.std.proofs.lemmas.List.Elements.{All-nil, All-cons}
use Rattle.drf_bundle.specs.Value.{Point, units_in}
use Rattle.drf_bundle.specs.Bundle.{Key, key_of, key_below, same_key, is_in_order, units, value_at}
use Rattle.drf_bundle.specs.declared.resource.Resource.{Resource}
use Rattle.drf_bundle.specs.declared.value.Value.{Value}
use Rattle.drf_bundle.specs.laws.KeyLaws.{same_key_true, not_below_itself, cases_same, Has, stands_first, units_head, units_other}

pub above_other : (k l : Key) → IsTrue (key_below k l) → same_key l k ≡ false
above_other k l below = false_from_ne_true _ (λ same. not_below_itself k (subst (λ (m : Key). IsTrue (key_below k m)) (same_key_true l k same) below))

pub for_all : (P : Resource → Type 0) (rs : List Resource) → ((r : Resource) → Has rs r → P r) → All P rs
for_all P [] each = All-nil P
for_all P (s ∷ ss) each = All-cons P s ss (each s (inl refl)) (for_all P ss (λ r later. each r (inr later)))

-- in a list in order, a resource has all units of its key
pub units_its_own : (rs : List Resource) (r : Resource) (p : Point) → IsTrue (is_in_order rs) → Has rs r
    → units rs (key_of r) p ≡ units_in r.value p
units_its_own [] r p ordered has = absurd has
units_its_own (s ∷ ss) r p ordered has =
    let parts = and_parts (stands_first (key_of s) ss) (is_in_order ss) ordered in
    elim has [
      | inl is ↦ subst (λ (t : Resource). units (s ∷ ss) (key_of t) p ≡ units_in t.value p) is (units_head s ss p parts.0)
      | inr later ↦ units_other (key_of r) s ss p (above_other (key_of s) (key_of r) (before ss parts.0 later)) ∙ units_its_own ss r p parts.1 later
    ]
  where
    before : (ss : List Resource) → IsTrue (stands_first (key_of s) ss) → Has ss r
        → IsTrue (key_below (key_of s) (key_of r))
    before [] first has = absurd has
    before (t ∷ ts) first (inl is) = subst (λ (u : Resource). IsTrue (key_below (key_of s) (key_of u))) is (and_parts (key_below (key_of s) (key_of t)) (stands_first (key_of s) ts) first).0
    before (t ∷ ts) first (inr later) = before ts (and_parts (key_below (key_of s) (key_of t)) (stands_first (key_of s) ts) first).1 later

-- the units of a value, if there is one
abbrev pub units_at : Option Value → Point → ℕ
units_at found p = option_map_or (λ v. units_in v p) found 0

-- in a list in order, the value at a key has all of its units
pub units_found : (rs : List Resource) (key : Key) (p : Point) → IsTrue (is_in_order rs)
    → units rs key p ≡ units_at (value_at rs key) p
units_found [] key p ordered = refl
units_found (r ∷ rs) key p ordered =
    let parts = and_parts (stands_first (key_of r) rs) (is_in_order rs) ordered in
    elim (cases_same key (key_of r)) [
      | inl same ↦
          let here : units (r ∷ rs) key p ≡ units_in r.value p = subst (λ (k : Key). units (r ∷ rs) k p ≡ units_in r.value p) (sym same.1) (units_head r rs p parts.0) in
          let found : units_at (value_at (r ∷ rs) key) p ≡ units_in r.value p = rw same.0 refl in
          here ∙ sym found
      | inr other ↦
          let found : units_at (value_at (r ∷ rs) key) p ≡ units_at (value_at rs key) p = rw other refl in
          units_other key r rs p other ∙ units_found rs key p parts.1 ∙ sym found
    ]
