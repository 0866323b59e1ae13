-- Adding, changing and removing one client of the content.
use Rattle.std.proofs.Common.{◌≡◌, ◌<◌, ◌≤◌, ◌+◌, ◌-◌, ℕ, zero, suc, Bool, true, false, cond, List, [], ◌∷◌, ◌++◌, ◌||◌, Some, None, map, length, get_or, set, take, filter, remove, not, nat_lt, refl, sym, ap, subst, ◌∙◌, arith}
use Rattle.std.specs.List.{AllByRecursion, IsDistinct, list_any, position, position_or_len, sum_by}
use Rattle.std.specs.Cmp.Lexicographic.{lists_equiv, nat_list_eq_equiv, pointwise_decides, bytes_decides}
use Rattle.std.specs.Cmp.{IsEquivalence}
use Rattle.std.proofs.lemmas.Bool.{false≢true}
use Rattle.std.proofs.lemmas.List.Sums.{get_or-le-sum_by}
use Rattle.std.proofs.Math.Seq.{map-set_same}
use Rattle.std.proofs.lemmas.List.Quantifiers.{position-Some}
use Rattle.std.proofs.lemmas.List.{map_push, length-map, get_or-map, take_more}
use Rattle.std.proofs.lemmas.Map.Keys.{IsDistinct-head, IsDistinct-tail, IsDistinct-push}
use Rattle.indexmap.proofs.SetLemmas.{map-remove}
use Rattle.drf_bundle.specs.Quantities.{amount_of, minus}
use Rattle.drf_bundle.proofs.theorems.ListLaws.{position-none}
use Rattle.drf_bundle.proofs.theorems.QuantitiesLaws.{amount-minus}
use Rattle.drf_bundle.specs.declared.quantities.Entry.{Entry}
use Rattle.drf_role.specs.Path.{same_path}
use Rattle.drf_sorter.specs.declared.client.Client.{Client}
use Rattle.drf_sorter.specs.declared.plain.PlainSorter.{PlainSorter}
use Rattle.drf_sorter.specs.Content.{Ranked, Content, charged, discharged, refunded}
use Rattle.drf_sorter.specs.Plain.{ranked}

paths_equiv : IsEquivalence same_path
paths_equiv = lists_equiv nat_list_eq_equiv

pub same_from_paths : (a b : List (List ℕ)) → same_path a b ≡ true → a ≡ b
same_from_paths a b = (pointwise_decides bytes_decides a b).0

-- ---- where a client is

-- a client was found at this position
pub record IsFound (clients : List Client) (path : List (List ℕ)) (i : ℕ) (x : Client) : Type 0 where
  pub inside : i < length clients
  pub is : x ≡ get_or clients i x
  pub there : same_path x.path path ≡ true

pub place-found : (clients : List Client) (path : List (List ℕ)) (i : ℕ) (x : Client)
    → Some i ≡ position (λ (x : Client). same_path x.path path) clients → x ≡ get_or clients i x
    → IsFound clients path i x
place-found clients path i x at is =
    let found = position-Some (λ (x : Client). same_path x.path path) clients i x (sym at) in
    record { inside = found.0; is = is; there = rw (← is) at (found.1) }

-- a client is looked up in the list of paths
row-path : (clients : List Client) (path : List (List ℕ))
    → position_or_len (same_path path) (map (λ (x : Client). x.path) clients)
    ≡ position_or_len (λ (x : Client). same_path x.path path) clients
row-path [] path = refl
row-path (x ∷ xs) path = λ i. cond (not (paths_equiv.symm path x.path i)) (1 + row-path xs path i) 0

pub row-found : (clients : List Client) (keys : List (List (List ℕ))) (path : List (List ℕ))
    → keys ≡ map (λ (x : Client). x.path) clients
    → position (same_path path) keys ≡ position (λ (x : Client). same_path x.path path) clients
row-found clients keys path listed =
    ap (position (same_path path)) listed
    ∙ (λ i. cond (nat_lt (row-path clients path i) (length-map clients (λ (x : Client). x.path) i))
    (Some (row-path clients path i)) None)

-- ---- a client is added

any_other_way : (path : List (List ℕ)) (clients : List Client)
    → list_any (same_path path) (map (λ (x : Client). x.path) clients)
    ≡ list_any (λ c. same_path c.path path) (map ranked clients)
any_other_way path [] = refl
any_other_way path (x ∷ xs) = λ i. paths_equiv.symm path x.path i || any_other_way path xs i

pub distinct_added : (clients : List Client) (x : Client) → IsDistinct same_path (map (λ (x : Client). x.path) clients)
    → list_any (λ c. same_path c.path x.path) (map ranked clients) ≡ false
    → IsDistinct same_path (map (λ (x : Client). x.path) (clients ++ x ∷ []))
distinct_added clients x distinct fresh =
    rw (map_push (λ (x : Client). x.path) clients x)
    (IsDistinct-push paths_equiv (map (λ (x : Client). x.path) clients) x.path distinct
    (any_other_way x.path clients ∙ fresh))

-- its path is appended to those of the others
pub listed_added : (clients : List Client) (keys : List (List (List ℕ))) (x : Client) (key : List (List ℕ))
    → keys ≡ map (λ (x : Client). x.path) clients → key ≡ x.path
    → list_any (λ c. same_path c.path x.path) (map ranked clients) ≡ false
    → cond (list_any (same_path key) keys) keys (keys ++ key ∷ []) ≡ map (λ (x : Client). x.path) (clients ++ x ∷ [])
listed_added clients keys x key listed same fresh =
    (λ i. cond (list_any (same_path (same i)) (listed i)) (listed i) (listed i ++ same i ∷ []))
    ∙ (λ i. cond ((any_other_way x.path clients ∙ fresh) i) (map (λ (x : Client). x.path) clients)
    (map (λ (x : Client). x.path) clients ++ x.path ∷ []))
    ∙ sym (map_push (λ (x : Client). x.path) clients x)

-- ---- a client among those with other paths

apart_at : (p : List (List ℕ)) (clients : List Client) (i : ℕ) (x : Client) → i < length clients
    → x ≡ get_or clients i x → AllByRecursion (λ q. same_path p q ≡ false) (map (λ (x : Client). x.path) clients)
    → same_path p x.path ≡ false
apart_at p [] i x inside is all = absurd (omega arith)
apart_at p (y ∷ ys) zero x inside is all = subst (λ (z : Client). same_path p z.path ≡ false) (sym is) all.0
apart_at p (y ∷ ys) (suc i) x inside is all = apart_at p ys i x (omega arith) is all.1

-- after a client with this path there is no other
far_from : (path : List (List ℕ)) (z : Client) (zs : List Client)
    → IsDistinct same_path (map (λ (x : Client). x.path) (z ∷ zs)) → same_path z.path path ≡ true
    → AllByRecursion (λ q. same_path path q ≡ false) (map (λ (x : Client). x.path) zs)
far_from path z zs distinct here =
    subst (λ (p : List (List ℕ)). AllByRecursion (λ q. same_path p q ≡ false) (map (λ (x : Client). x.path) zs))
    (same_from_paths z.path path here) (IsDistinct-head same_path z.path (map (λ (x : Client). x.path) zs) distinct)

-- before it there is none either
other_before : (path : List (List ℕ)) (z : Client) (zs : List Client) (i : ℕ) (x : Client)
    → IsDistinct same_path (map (λ (x : Client). x.path) (z ∷ zs)) → i < length zs → x ≡ get_or zs i x
    → same_path x.path path ≡ true → same_path z.path path ≡ false
other_before path z zs i x distinct inside is there =
    subst (λ (p : List (List ℕ)). same_path z.path p ≡ false) (same_from_paths x.path path there)
    (apart_at z.path zs i x inside is (IsDistinct-head same_path z.path (map (λ (x : Client). x.path) zs) distinct))

-- ---- a client is removed

all_others : (path : List (List ℕ)) (clients : List Client)
    → AllByRecursion (λ p. same_path path p ≡ false) (map (λ (x : Client). x.path) clients)
    → filter (λ (x : Client). not (same_path x.path path)) clients ≡ clients
all_others path [] all = refl
all_others path (x ∷ xs) all =
    rw (paths_equiv.symm x.path path ∙ all.0) (ap (λ cs. x ∷ cs) (all_others path xs all.1))

removed_at : (path : List (List ℕ)) (clients : List Client) (i : ℕ) (x : Client)
    → IsDistinct same_path (map (λ (x : Client). x.path) clients) → i < length clients → x ≡ get_or clients i x
    → same_path x.path path ≡ true
    → remove clients i ≡ filter (λ (x : Client). not (same_path x.path path)) clients
removed_at path [] i x distinct inside is there = absurd (omega arith)
removed_at path (z ∷ zs) zero x distinct inside is there =
    let here : same_path z.path path ≡ true = subst (λ (w : Client). same_path w.path path ≡ true) is there in
    rw here (sym (all_others path zs (far_from path z zs distinct here)))
removed_at path (z ∷ zs) (suc i) x distinct inside is there =
    let within : i < length zs = omega arith in
    rw (other_before path z zs i x distinct within is there)
    (ap (λ cs. z ∷ cs) (removed_at path zs i x
    (IsDistinct-tail same_path z.path (map (λ (x : Client). x.path) zs) distinct) within is there))

-- the client that was found is the only one with its path
pub removed_one : (clients : List Client) (path : List (List ℕ)) (i : ℕ) (x : Client)
    → IsDistinct same_path (map (λ (x : Client). x.path) clients)
    → Some i ≡ position (λ (x : Client). same_path x.path path) clients → x ≡ get_or clients i x
    → remove clients i ≡ filter (λ (x : Client). not (same_path x.path path)) clients
removed_one clients path i x distinct at is =
    let found = place-found clients path i x at is in
    removed_at path clients i x distinct found.inside found.is found.there

-- its path is removed at the same position
pub listed_removed : (clients : List Client) (keys : List (List (List ℕ))) (i : ℕ)
    → keys ≡ map (λ (x : Client). x.path) clients
    → remove keys i ≡ map (λ (x : Client). x.path) (remove clients i)
listed_removed clients keys i listed =
    ap (λ ks. remove ks i) listed ∙ sym (map-remove (λ (x : Client). x.path) clients i)

-- ---- a client is changed

-- a client is replaced by one with the same path
pub distinct_stays : (clients : List Client) (i : ℕ) (x y : Client) → x ≡ get_or clients i x → y.path ≡ x.path
    → IsDistinct same_path (map (λ (x : Client). x.path) clients)
    → IsDistinct same_path (map (λ (x : Client). x.path) (set clients i y))
distinct_stays clients i x y is same distinct =
    rw (map-set_same (λ (x : Client). x.path) clients i y x (same ∙ ap (λ (x : Client). x.path) is)) distinct

-- the paths stay those of the clients
pub listed_stays : (clients : List Client) (keys : List (List (List ℕ))) (i : ℕ) (x y : Client) → x ≡ get_or clients i x
    → y.path ≡ x.path → keys ≡ map (λ (x : Client). x.path) clients
    → keys ≡ map (λ (x : Client). x.path) (set clients i y)
listed_stays clients keys i x y is same listed =
    listed ∙ sym (map-set_same (λ (x : Client). x.path) clients i y x (same ∙ ap (λ (x : Client). x.path) is))

-- no client before another has its path
pub fresh_at : (clients : List Client) (i : ℕ) (x : Client) → IsDistinct same_path (map (λ (x : Client). x.path) clients)
    → i < length clients → x ≡ get_or clients i x
    → list_any (same_path x.path) (map (λ (x : Client). x.path) (take i clients)) ≡ false
fresh_at [] i x distinct inside is = absurd (omega arith)
fresh_at (y ∷ ys) zero x distinct inside is = refl
fresh_at (y ∷ ys) (suc i) x distinct inside is =
    let within : i < length ys = omega arith in
    let apart =
    apart_at y.path ys i x within is
    (IsDistinct-head same_path y.path (map (λ (x : Client). x.path) ys) distinct) in
    let rest = fresh_at ys i x (IsDistinct-tail same_path y.path (map (λ (x : Client). x.path) ys) distinct) within is in
    λ j. (paths_equiv.symm x.path y.path ∙ apart) j || rest j

-- the paths of the clients up to a position, and of the one there
pub listed_more : (clients : List Client) (keys : List (List (List ℕ))) (i : ℕ) (x : Client) (key : List (List ℕ))
    → IsDistinct same_path (map (λ (x : Client). x.path) clients) → i < length clients → x ≡ get_or clients i x
    → keys ≡ map (λ (x : Client). x.path) (take i clients) → key ≡ x.path
    → cond (list_any (same_path key) keys) keys (keys ++ key ∷ []) ≡ map (λ (x : Client). x.path) (take (i + 1) clients)
listed_more clients keys i x key distinct inside is listed same =
    (λ j. cond (list_any (same_path (same j)) (listed j)) (listed j) (listed j ++ same j ∷ []))
    ∙ (λ j. cond (fresh_at clients i x distinct inside is j) (map (λ (x : Client). x.path) (take i clients))
    (map (λ (x : Client). x.path) (take i clients) ++ x.path ∷ []))
    ∙ sym (ap (map (λ (x : Client). x.path)) (take_more clients i x inside ∙ ap (λ (y : Client). take i clients ++ y ∷ []) (sym is))
    ∙ map_push (λ (x : Client). x.path) (take i clients) x)

module _ (path : List (List ℕ)) (change : Ranked → Ranked) where
  abbrev step : Ranked → Ranked
  step c = cond (same_path c.path path) (change c) c

  others : (clients : List Client)
      → AllByRecursion (λ p. same_path path p ≡ false) (map (λ (x : Client). x.path) clients)
      → map step (map ranked clients) ≡ map ranked clients
  others [] all = refl
  others (x ∷ xs) all = rw (paths_equiv.symm x.path path ∙ all.0) (ap (λ cs. ranked x ∷ cs) (others xs all.1))

  changed_at : (clients : List Client) (i : ℕ) (x y : Client)
      → IsDistinct same_path (map (λ (x : Client). x.path) clients) → i < length clients → x ≡ get_or clients i x
      → same_path x.path path ≡ true → ranked y ≡ change (ranked x)
      → map ranked (set clients i y) ≡ map step (map ranked clients)
  changed_at [] i x y distinct inside is there made = absurd (omega arith)
  changed_at (z ∷ zs) zero x y distinct inside is there made =
      let here : same_path z.path path ≡ true = subst (λ (w : Client). same_path w.path path ≡ true) is there in
      rw here
      (λ j. (made ∙ ap (λ (w : Client). change (ranked w)) is) j ∷ sym (others zs (far_from path z zs distinct here)) j)
  changed_at (z ∷ zs) (suc i) x y distinct inside is there made =
      let within : i < length zs = omega arith in
      rw (other_before path z zs i x distinct within is there)
      (ap (λ cs. ranked z ∷ cs) (changed_at zs i x y
      (IsDistinct-tail same_path z.path (map (λ (x : Client). x.path) zs) distinct) within is there made))

  pub changed_one : (clients : List Client) (i : ℕ) (x y : Client)
      → IsDistinct same_path (map (λ (x : Client). x.path) clients) → IsFound clients path i x
      → ranked y ≡ change (ranked x) → map ranked (set clients i y) ≡ map step (map ranked clients)
  changed_one clients i x y distinct found made =
      changed_at clients i x y distinct found.inside found.is found.there made

  -- what is changed is part of each sum
  pub changed_in_sum : (f : Ranked → ℕ) (clients : List Client) (i : ℕ) (x : Client) → IsFound clients path i x
      → f (change (ranked x)) ≤ sum_by f (map step (map ranked clients))
  changed_in_sum f clients i x found =
      let long : i < length (map ranked clients) = rw (length-map clients ranked) found.inside in
      let longer : i < length (map step (map ranked clients)) = rw (length-map (map ranked clients) step) long in
      let at : get_or (map step (map ranked clients)) i (ranked x) ≡ change (ranked x) =
      get_or-map step (map ranked clients) i (ranked x) (ranked x) long
      ∙ ap step (get_or-map ranked clients i x (ranked x) found.inside ∙ ap ranked (sym found.is))
      ∙ rw found.there in
      rw at at (get_or-le-sum_by f (map step (map ranked clients)) i (ranked x) longer)

pub any_ranked : (p : Ranked → Bool) (clients : List Client)
    → list_any p (map ranked clients) ≡ list_any (λ x. p (ranked x)) clients
any_ranked p [] = refl
any_ranked p (x ∷ xs) = ap (λ b. p (ranked x) || b) (any_ranked p xs)

-- a client that has this path is found
pub known-found : (clients : List Client) (path : List (List ℕ))
    → list_any (λ c. same_path c.path path) (map ranked clients) ≡ true
    → None ≡ position (λ (x : Client). same_path x.path path) clients → ⊥
known-found clients path known none =
    false≢true
    (sym (position-none (λ (x : Client). same_path x.path path) clients none)
    ∙ sym (any_ranked (λ c. same_path c.path path) clients) ∙ known)

pub charged_is : (x : Client) (quantities : List Entry) (offers : ℕ) (sum : List Entry)
    → ((label : List ℕ) → amount_of sum label ≡ amount_of x.held label + amount_of quantities label)
    → ranked (record x { held = sum; count = x.count + offers }) ≡ charged quantities offers (ranked x)
charged_is x quantities offers sum is = λ i. record {
  path = x.path;
  active = x.active;
  held = λ label. is label i;
  count = x.count + offers;
}

-- what holds of each client with the path holds of the one that was found
pub at_found : (P : Ranked → Type 0) (clients : List Client) (path : List (List ℕ)) (i : ℕ) (x : Client)
    → IsFound clients path i x → AllByRecursion (λ c. same_path c.path path ≡ true → P c) (map ranked clients)
    → P (ranked x)
at_found P clients path i x found all = along clients i found.inside found.is all
  where
    along : (clients : List Client) (i : ℕ) → i < length clients → x ≡ get_or clients i x
        → AllByRecursion (λ c. same_path c.path path ≡ true → P c) (map ranked clients) → P (ranked x)
    along [] i inside is all = absurd (omega arith)
    along (y ∷ ys) zero inside is all = all_at y is all.0
      where
        all_at : (y : Client) → x ≡ y → (same_path y.path path ≡ true → P (ranked y)) → P (ranked x)
        all_at y is h = subst (λ (z : Client). (same_path z.path path ≡ true → P (ranked z))) (sym is) h found.there
    along (y ∷ ys) (suc i) inside is all = along ys i (omega arith) is all.1

pub discharged_is : (x : Client) (quantities rest : List Entry) → rest ≡ minus x.held quantities
    → ranked (record x { held = rest; count = x.count - 1 }) ≡ discharged quantities (ranked x)
discharged_is x quantities rest is = λ i. record {
  path = x.path;
  active = x.active;
  held = λ label. (ap (λ es. amount_of es label) is ∙ amount-minus x.held quantities label) i;
  count = x.count - 1;
}

pub refunded_is : (x : Client) (quantities rest : List Entry) → rest ≡ minus x.held quantities
    → ranked (record x { held = rest }) ≡ refunded quantities (ranked x)
refunded_is x quantities rest is = λ i. record {
  path = x.path;
  active = x.active;
  held = λ label. (ap (λ es. amount_of es label) is ∙ amount-minus x.held quantities label) i;
  count = x.count;
}

-- the content with other clients
abbrev pub with_clients : PlainSorter → List Ranked → Content
with_clients sorter clients = record { clients = clients; total = sorter.total; weights = sorter.weights.rows.items }
