-- The share of a node that holds nothing is 0 for any total.
use Rattle.std.specs.List.{list_any}
use Rattle.std.proofs.Common.{refl, sym, ap, ◌∙◌, arith, inl, inr, ◌≡◌, ◌<◌, ◌*◌, ◌++◌, ◌∷◌, ℕ, false, nat_lt, List, []}
use Rattle.std.proofs.lemmas.Bool.{cases_Bool, ltb-false, or_parts}
use Rattle.drf_tree.proofs.Names.{amount_of, Entry, Path, Text, same_text, Key, key_of, Sum, IsSameKey, holds_any, IsSumOf}
use Rattle.drf_sorter.specs.Content.{Content, standing_in}
use Rattle.drf_sorter.specs.Served.{Weighs}
use Rattle.drf_sorter.specs.laws.FractionLaws.{fraction_cmp-congr}
use Rattle.drf_sorter.proofs.theorems.OrderLaws.{weighted_share-above}
use Rattle.drf_tree.proofs.growth.Sprout.{same_nothing, share_of_nothing}

-- no amount is above 0
pub nothing_of : (entries : List Entry) (label : Text) → list_any (λ e. nat_lt 0 e.amount) entries ≡ false → amount_of entries label ≡ 0
nothing_of [] label none = refl
nothing_of (e ∷ es) label none =
    let parts = or_parts (nat_lt 0 e.amount) (list_any (λ (x : Entry). nat_lt 0 x.amount) es) none in
    elim (cases_Bool (same_text e.label label)) [
      | inl here ↦ rw here (omega (arith, ltb-false 0 e.amount parts.0))
      | inr other ↦ rw other (nothing_of es label parts.1)
    ]

module _ (content : Content) (total : List Entry) (weighs : Weighs (standing_in content)) (parent : Path) (name : Text) (sum : Sum)
    (of : IsSumOf content (parent ++ name ∷ []) sum) (nothing : holds_any sum ≡ false) where
  abbrev now : Content
  now = record content { total = total }

  abbrev was_key : Key
  was_key = key_of (standing_in content) parent name

  abbrev now_key : Key
  now_key = key_of (standing_in now) parent name

  none : (label : Text) → (standing_in content).held (parent ++ name ∷ []) label ≡ 0
  none label = sym (of.held label) ∙ nothing_of sum.held label nothing

  no_part : (other : List Entry) → (key_of (standing_in (record content { total = other })) parent name).share.part ≡ 0
  unfolding standing_in
  no_part other = ap (λ (n : ℕ). n * 1000) (share_of_nothing ((standing_in content).held (parent ++ name ∷ [])) other none)

  above : (other : List Entry) → 0 < (key_of (standing_in (record content { total = other })) parent name).share.whole
  unfolding standing_in
  above other =
      weighted_share-above (standing_in (record content { total = other })) (parent ++ name ∷ []) (weighs (parent ++ name ∷ []))

  pub key_of_none : (key : Key) → IsSameKey key was_key → IsSameKey key now_key
  unfolding standing_in
  key_of_none key right = record {
    some = right.some;
    share =
        fraction_cmp-congr key.share was_key.share now_key.share right.some (above content.total) (above total) right.share
        ∙ same_nothing was_key.share now_key.share (no_part content.total) (no_part total);
    count = right.count;
    name = right.name;
  }
