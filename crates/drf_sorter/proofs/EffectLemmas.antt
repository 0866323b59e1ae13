-- The effect of a change of one client on shares.
use Rattle.std.proofs.Common.{◌≡◌, ◌+◌, ◌-◌, ℕ, Bool, cond, List, [], ◌∷◌, map, refl, sym, ap, ◌∙◌, inl, inr, arith}
use Rattle.std.specs.List.{filter, sum_by}
use Rattle.std.proofs.lemmas.Bool.{cases_Bool}
use Rattle.std.proofs.lemmas.List.Sums.{sum_by-cons}
use Rattle.drf_bundle.specs.Quantities.{amount_of}
use Rattle.drf_bundle.specs.declared.quantities.Entry.{Entry}
use Rattle.drf_role.specs.Path.{same_path, begins_with}
use Rattle.drf_sorter.specs.Content.{Ranked, Content, activated, charged, discharged, standing_in, with_change}

module _ (path : List (List ℕ)) where
  -- ---- a charge is undone

  same_client : (quantities : List Entry) (c : Ranked) → discharged quantities (charged quantities 1 c) ≡ c
  same_client quantities c = λ i. record {
    path = c.path;
    active = c.active;
    held = λ label. back (c.held label) (amount_of quantities label) i;
    count = back c.count 1 i;
  }
    where
      back : (m n : ℕ) → m + n - n ≡ m
      back m n = omega arith

  same_clients : (quantities : List Entry) (cs : List Ranked)
      → map (λ c. cond (same_path c.path path) (discharged quantities c) c)
      (map (λ c. cond (same_path c.path path) (charged quantities 1 c) c) cs)
      ≡ cs
  same_clients quantities [] = refl
  same_clients quantities (c ∷ cs) = elim (cases_Bool (same_path c.path path)) [
    | inl here ↦ rw (here, here) (λ i. same_client quantities c i ∷ same_clients quantities cs i)
    | inr past ↦ rw (past, past) (ap (λ cs. c ∷ cs) (same_clients quantities cs))
  ]

  -- ---- a client is suppressed

  module _ (active : Bool) (f : Ranked → ℕ) (unmoved : (c : Ranked) → f (activated active c) ≡ f c)
      (node : List (List ℕ)) where
    abbrev step : Ranked → Ranked
    step c = cond (same_path c.path path) (activated active c) c

    same_sum : (cs : List Ranked)
        → sum_by f (filter (λ c. begins_with c.path node) (map step cs))
        ≡ sum_by f (filter (λ c. begins_with c.path node) cs)
    same_sum [] = refl
    same_sum (c ∷ cs) = elim (cases_Bool (same_path c.path path)) [
      | inl here ↦ elim (cases_Bool (begins_with c.path node)) [
        | inl under ↦
            rw (here, under)
            (sum_by-cons f (activated active c) (filter (λ c. begins_with c.path node) (map step cs))
            ∙ (λ i. unmoved c i + same_sum cs i)
            ∙ sym (sum_by-cons f c (filter (λ c. begins_with c.path node) cs)))
        | inr other ↦ rw (here, other) (same_sum cs)
      ]
      | inr past ↦ elim (cases_Bool (begins_with c.path node)) [
        | inl under ↦
            rw (past, under)
            (sum_by-cons f c (filter (λ c. begins_with c.path node) (map step cs))
            ∙ ap (λ n. f c + n) (same_sum cs)
            ∙ sym (sum_by-cons f c (filter (λ c. begins_with c.path node) cs)))
        | inr other ↦ rw (past, other) (same_sum cs)
      ]
    ]

pub charge_taken_back : (content : Content) (path : List (List ℕ)) (quantities : List Entry)
    → with_change (with_change content path (charged quantities 1)) path (discharged quantities) ≡ content
charge_taken_back content path quantities =
    ap (λ cs. record { clients = cs; total = content.total; weights = content.weights })
    (same_clients path quantities content.clients)

pub suppression_keeps : (content : Content) (path : List (List ℕ)) (active : Bool)
    → standing_in (with_change content path (activated active)) ≡ standing_in content
unfolding standing_in
suppression_keeps content path active = λ i. record {
  held = λ node label. same_sum path active (λ c. c.held label) (λ c. refl) node content.clients i;
  count = λ node. same_sum path active (λ c. c.count) (λ c. refl) node content.clients i;
  total = content.total;
  weight = (standing_in content).weight;
}
