-- The effect of a weight on a share, and which nodes have a weight.
use Rattle.std.proofs.Common.{◌≡◌, ◌<◌, ◌≤◌, ◌*◌, ℕ, zero, suc, true, false, cond, IsTrue, All, List, [], ◌∷◌, ◌++◌, nat_lt, length, get_or, refl, sym, ap, subst, ◌∙◌, inl, inr, arith}
use Rattle.std.specs.List.{AllByRecursion}
use Rattle.std.specs.Prelude.{codes}
use Rattle.std.proofs.Math.Nat.{mul-lt-mul_of_pos_left, mul-pos, zero-mul}
use Rattle.std.proofs.lemmas.Bool.{cases_Bool, ltb-true, ltb-false, lt-ltb, false_from_ne_true}
use Rattle.std.proofs.lemmas.List.{length-append}
use Rattle.std.proofs.lemmas.List.Elements.{All-head, All-tail}
use Rattle.drf_bundle.specs.Quantities.{amount_of}
use Rattle.drf_bundle.specs.declared.quantities.Entry.{Entry}
use Rattle.drf_role.specs.Path.{same_path}
use Rattle.drf_role.specs.PathLaws.{same_path-true}
use Rattle.drf_role.specs.Role.{IsComponent, IsRole, default_role}
use Rattle.drf_role.proofs.TextLaws.{cases_same}
use Rattle.drf_rows.specs.Held.{weight_of}
use Rattle.drf_rows.specs.Share.{Fraction, is_less, share_of, weighted_share_of}
use Rattle.drf_rows.specs.declared.rows.WeightRow.{WeightRow}
use Rattle.drf_row_laws.proofs.WeightLaws.{weight_of-set}
use Rattle.drf_sorter.specs.Content.{Content, standing_in, with_weight}
use Rattle.drf_sorter.specs.Fractions.{dominant_of, weigh}
use Rattle.drf_sorter.specs.laws.Laws.{ClientsHaveDefaultWeight}
use Rattle.drf_sorter.proofs.theorems.OrderLaws.{greatest_above}

-- ---- a node that holds something has a share above 0

factor_above : (m n : ℕ) → 0 < m * n → 0 < m
factor_above zero n h = absurd (omega (arith, h, zero-mul n))
factor_above (suc m) n h = omega arith

-- the greater of two fractions is above 0 if one of them is
greater_some : (f g : Fraction) → 0 < f.part → 0 < f.whole → 0 < (cond (is_less f g) g f).part
greater_some f g part whole = elim (cases_Bool (is_less f g)) [
  | inl less ↦
      let above : f.part * g.whole < g.part * f.whole = ltb-true _ _ less in
      rw less (factor_above g.part f.whole (omega (arith, above)))
  | inr not_less ↦ rw not_less part
]

greater_other : (f g : Fraction) → 0 < g.part → 0 < f.whole → 0 < (cond (is_less f g) g f).part
greater_other f g part whole = elim (cases_Bool (is_less f g)) [
  | inl less ↦ rw less part
  | inr not_less ↦
      let above : g.part * f.whole ≤ f.part * g.whole = ltb-false _ _ not_less in
      rw not_less (factor_above f.part g.whole (omega (arith, above, mul-pos part whole)))
]

held_some : (held : List ℕ → ℕ) (label : List ℕ) (total : List Entry) → 0 < held label → 0 < amount_of total label
    → 0 < (dominant_of held total).part
held_some held label [] some there = absurd (omega (arith, there))
held_some held label (e ∷ es) some there = elim (cases_same e.label label) [
  | inl same ↦
      let whole : 0 < e.amount = rw same.0 at there in
      let part : 0 < held e.label = subst (λ (n : List ℕ). 0 < held n) (sym same.1) some in
      rw (lt-ltb 0 e.amount whole)
      (greater_some (record { part = held e.label; whole = e.amount }) (dominant_of held es) part whole)
  | inr other ↦
      let below = held_some held label es some (rw other.0 at there) in
      elim (cases_Bool (nat_lt 0 e.amount)) [
        | inl there_is ↦
            rw there_is
            (greater_other (record { part = held e.label; whole = e.amount }) (dominant_of held es) below
            (ltb-true 0 e.amount there_is))
        | inr none ↦ rw none below
      ]
]

-- ---- a role's weight changes

weighed : (content : Content) (role : List (List ℕ)) (weight : ℕ)
    → weighted_share_of (standing_in (with_weight content role weight)) role
    ≡ weigh (share_of (standing_in content) role) weight
unfolding standing_in
weighed content role weight =
    ap (weigh (share_of (standing_in content) role)) (weight_of-set role weight content.weights)

less_under : (f : Fraction) (light heavy : ℕ) → 0 < f.part → 0 < f.whole → light < heavy
    → is_less (weigh f heavy) (weigh f light) ≡ true
less_under f light heavy part whole more =
    lt-ltb (f.part * 1000 * (f.whole * light)) (f.part * 1000 * (f.whole * heavy))
    (mul-lt-mul_of_pos_left (mul-lt-mul_of_pos_left more whole) (omega (arith, part)))

share-above : (content : Content) (role : List (List ℕ)) (label : List ℕ) → 0 < (standing_in content).held role label
    → 0 < amount_of content.total label → 0 < (share_of (standing_in content) role).part
unfolding standing_in
share-above content role label some there = held_some ((standing_in content).held role) label content.total some there

pub heavier_has_less : (content : Content) (role : List (List ℕ)) (label : List ℕ) (light heavy : ℕ)
    → 0 < (standing_in content).held role label → 0 < amount_of content.total label → light < heavy
    → IsTrue (is_less (weighted_share_of (standing_in (with_weight content role heavy)) role)
    (weighted_share_of (standing_in (with_weight content role light)) role))
heavier_has_less content role label light heavy some there more =
    let s = standing_in content in
    (λ i. is_less (weighed content role heavy i) (weighed content role light i))
    ∙ less_under (share_of s role) light heavy (share-above content role label some there)
    (greatest_above (s.held role) s.total) more

-- ---- which nodes have a weight

components_end : (role rest : List (List ℕ)) → All IsComponent (role ++ codes "." ∷ rest) → ⊥
components_end [] rest all = (All-head IsComponent (codes ".") rest all).no_dot refl
components_end (x ∷ xs) rest all = components_end xs rest (All-tail IsComponent x (xs ++ codes "." ∷ rest) all)

default_ends : (role rest : List (List ℕ)) → role ++ codes "." ∷ rest ≡ default_role → ⊥
default_ends [] rest same = omega (arith, ap (λ (path : List (List ℕ)). get_or (get_or path 0 []) 0 0) same)
default_ends (x ∷ xs) rest same = omega (arith, ap length same, length-append xs (codes "." ∷ rest))

-- no component of a role is `.`
no_dot : (role : List (List ℕ)) (rest node : List (List ℕ)) → IsRole node → role ++ codes "." ∷ rest ≡ node → ⊥
no_dot role rest node (inl default) same = default_ends role rest (same ∙ default)
no_dot role rest node (inr path) same = components_end role rest (subst (All IsComponent) (sym same) path.each)

default_weight : (weights : List WeightRow) (role rest : List (List ℕ)) → AllByRecursion (λ w. IsRole w.role) weights
    → weight_of weights (role ++ codes "." ∷ rest) ≡ 1000
default_weight [] role rest roles = refl
default_weight (x ∷ xs) role rest roles =
    let other : same_path x.role (role ++ codes "." ∷ rest) ≡ false =
    false_from_ne_true (same_path x.role (role ++ codes "." ∷ rest))
    (λ same. no_dot role rest x.role roles.0 (sym (same_path-true x.role (role ++ codes "." ∷ rest) same))) in
    rw other (default_weight xs role rest roles.1)

pub clients_have_default_weight : ClientsHaveDefaultWeight
clients_have_default_weight rows role framework consistent =
    let roles = consistent.weights.valid in
    (default_weight rows.weights role [] roles, default_weight rows.weights role (framework ∷ []) roles)
