-- The sums over the clients below a node, before and after a change of one client.
use Rattle.std.specs.List.{AllByRecursion, IsDistinct}
use Rattle.std.proofs.Common.{refl, sym, ap, ◌∙◌, arith, ◌≡◌, ◌+◌, ◌*◌, ℕ, Bool, true, false, cond, List, [], ◌∷◌, ◌++◌, filter, length, map, sum_by, nat_lt}
use Rattle.std.proofs.lemmas.List.Sums.{sum_by-append, sum_by-cons}
use Rattle.drf_tree.proofs.Names.{amount_of, Entry, Text, Path, begins_with, same_path, same_path-true, each_from, sum_by-filter, greatest, Key, key_of, Sum, IsSumOf}
use Rattle.drf_rows.specs.Held.{weight_of}
use Rattle.drf_sorter.specs.Content.{Content, Ranked, clients_under, has_client, standing_in, with_change, with_client}
use Rattle.drf_tree.proofs.sums.Content.{below, step, sum_below, sum_moved, sum_stays}

-- what some clients hold and count
pub record Amounts : Type 0 where
  pub held : Text → ℕ
  pub count : ℕ
  pub clients : ℕ
  pub active : ℕ

abbrev pub none : Amounts
none = record { held = λ label. 0; count = 0; clients = 0; active = 0 }

abbrev pub amounts_in : Sum → Amounts
amounts_in s = record { held = amount_of s.held; count = s.count; clients = s.clients; active = s.active }

-- the second sum is the first, less `less`, plus `more`
pub record IsMoved (less more : Amounts) (s t : Sum) : Type 0 where
  pub held : (label : Text) → amount_of t.held label + less.held label ≡ amount_of s.held label + more.held label
  pub count : t.count + less.count ≡ s.count + more.count
  pub clients : t.clients + less.clients ≡ s.clients + more.clients
  pub active : t.active + less.active ≡ s.active + more.active
  pub weight : t.weight ≡ s.weight

pub not_moved : (s : Sum) → IsMoved none none s s
not_moved s = record { held = λ label. refl; count = refl; clients = refl; active = refl; weight = refl }

-- the sum of a value over the clients below a node
abbrev pub total_under : (Ranked → ℕ) → Content → Path → ℕ
total_under f content node = sum_by f (clients_under content node)

abbrev pub one : Ranked → ℕ
one c = 1

abbrev pub is_served : Ranked → ℕ
is_served c = cond c.active 1 0

pub length_is : {X : Type 0} (xs : List X) → length xs ≡ sum_by (λ (x : X). 1) xs
length_is [] = refl
length_is {X} (x ∷ xs) = omega (arith, length_is xs, sum_by-cons (λ (x : X). 1) x xs)

pub active_is : (cs : List Ranked) → length (filter (λ c. c.active) cs) ≡ sum_by is_served cs
active_is cs =
    length_is (filter (λ (c : Ranked). c.active) cs) ∙ sum_by-filter one (λ (c : Ranked). c.active) cs

-- the same for the clients below a node
pub record AreMoved (less more : Amounts) (old new : Content) (node : Path) : Type 0 where
  pub held : (label : Text) → total_under (λ c. c.held label) new node + less.held label
      ≡ total_under (λ c. c.held label) old node + more.held label
  pub count : total_under (λ c. c.count) new node + less.count ≡ total_under (λ c. c.count) old node + more.count
  pub clients : total_under one new node + less.clients ≡ total_under one old node + more.clients
  pub active : total_under is_served new node + less.active ≡ total_under is_served old node + more.active
  pub weight : weight_of new.weights node ≡ weight_of old.weights node

pub sum_after : (less more : Amounts) (old new : Content) (node : Path) (s t : Sum) → IsSumOf old node s
    → AreMoved less more old new node → IsMoved less more s t → IsSumOf new node t
unfolding standing_in
sum_after less more old new node s t of moved is = record {
  held = λ label. omega (arith, of.held label, moved.held label, is.held label);
  count = omega (arith, of.count, moved.count, is.count);
  clients =
      omega (
        arith,
        of.clients,
        moved.clients,
        is.clients,
        length_is (clients_under old node),
        length_is (clients_under new node),
      );
  active =
      omega (
        arith,
        of.active,
        moved.active,
        is.active,
        active_is (clients_under old node),
        active_is (clients_under new node),
      );
  weight = is.weight ∙ of.weight ∙ sym moved.weight;
}

-- ---- keys depend only on what the clients below hold

abbrev key_with : (Text → ℕ) → ℕ → List Entry → ℕ → Text → Key
key_with held count total weight name = record {
  share = record {
    part = (greatest (map (λ e. record { part = held e.label; whole = e.amount }) (filter (λ e. nat_lt 0 e.amount) total))).part * 1000;
    whole = (greatest (map (λ e. record { part = held e.label; whole = e.amount }) (filter (λ e. nat_lt 0 e.amount) total))).whole * weight;
  };
  count = count;
  name = name;
}

pub key_again : (old new : Content) (parent : Path) (name : Text)
    → ((label : Text) → total_under (λ c. c.held label) new (parent ++ name ∷ []) ≡ total_under (λ c. c.held label) old (parent ++ name ∷ []))
    → total_under (λ c. c.count) new (parent ++ name ∷ []) ≡ total_under (λ c. c.count) old (parent ++ name ∷ [])
    → weight_of new.weights (parent ++ name ∷ []) ≡ weight_of old.weights (parent ++ name ∷ [])
    → new.total ≡ old.total
    → key_of (standing_in new) parent name ≡ key_of (standing_in old) parent name
unfolding standing_in
key_again old new parent name held count weight total =
    λ i. key_with (λ label. held label i) (count i) (total i) (weight i) name

-- ---- one client changes

-- what the change subtracts from the client with this path, and adds to it
pub record IsChange (less more : Amounts) (c d : Ranked) : Type 0 where
  pub held : (label : Text) → d.held label + less.held label ≡ c.held label + more.held label
  pub count : d.count + less.count ≡ c.count + more.count
  pub active : is_served d + less.active ≡ is_served c + more.active

module _ (content : Content) (path node : Path) (change : Ranked → Ranked) (keeps : (c : Ranked) → (change c).path ≡ c.path) where
  -- the client with this path is below the node, or it is not
  is_below : (c : Ranked) → same_path c.path path ≡ true → begins_with c.path node ≡ begins_with path node
  is_below c same = ap (λ (p : Path). begins_with p node) (same_path-true c.path path same)

  still_below : (c : Ranked) → same_path c.path path ≡ true → begins_with (change c).path node ≡ begins_with path node
  still_below c same = ap (λ (p : Path). begins_with p node) (keeps c) ∙ is_below c same

  total_moved : (f : Ranked → ℕ) (less more : ℕ) → begins_with path node ≡ true
      → IsDistinct same_path (map (λ (c : Ranked). c.path) content.clients) → has_client content path ≡ true
      → AllByRecursion (λ c. same_path c.path path ≡ true → f (change c) + less ≡ f c + more) content.clients
      → total_under f (with_change content path change) node + less ≡ total_under f content node + more
  total_moved f less more begins distinct some at =
      let moved = sum_moved path change (below node f) less more content.clients distinct some
      (each_from (λ (c : Ranked). same_path c.path path ≡ true → f (change c) + less ≡ f c + more)
      (λ (c : Ranked). same_path c.path path ≡ true → below node f (change c) + less ≡ below node f c + more)
      content.clients
      (λ c so same.
      let new : below node f (change c) ≡ f (change c) =
      ap (λ (b : Bool). cond b (f (change c)) 0) (still_below c same ∙ begins) in
      let old : below node f c ≡ f c = ap (λ (b : Bool). cond b (f c) 0) (is_below c same ∙ begins) in
      let both : f (change c) + less ≡ f c + more = so same in
      omega (arith, new, old, both))
      at) in
      omega (
        arith,
        moved,
        sum_below node f (map (step path change) content.clients),
        sum_below node f content.clients,
      )

  total_stays : (f : Ranked → ℕ) → begins_with path node ≡ false
      → total_under f (with_change content path change) node ≡ total_under f content node
  total_stays f other =
      sum_below node f (map (step path change) content.clients)
      ∙ sum_stays path change (below node f)
      (λ c same.
      ap (λ (b : Bool). cond b (f (change c)) 0) (still_below c same ∙ other)
      ∙ sym (ap (λ (b : Bool). cond b (f c) 0) (is_below c same ∙ other)))
      content.clients
      ∙ sym (sum_below node f content.clients)

  pub changed_below : (less more : Amounts) → less.clients ≡ more.clients → begins_with path node ≡ true
      → IsDistinct same_path (map (λ (c : Ranked). c.path) content.clients) → has_client content path ≡ true
      → AllByRecursion (λ c. same_path c.path path ≡ true → IsChange less more c (change c)) content.clients
      → AreMoved less more content (with_change content path change) node
  changed_below less more as_many begins distinct some at = record {
    held = λ label.
        total_moved (λ c. c.held label) (less.held label) (more.held label) begins distinct some
        (each_from (λ (c : Ranked). same_path c.path path ≡ true → IsChange less more c (change c))
        (λ (c : Ranked). same_path c.path path ≡ true → (change c).held label + less.held label ≡ c.held label + more.held label)
        content.clients (λ c so same. (so same).held label) at);
    count =
        total_moved (λ c. c.count) less.count more.count begins distinct some
        (each_from (λ (c : Ranked). same_path c.path path ≡ true → IsChange less more c (change c))
        (λ (c : Ranked). same_path c.path path ≡ true → (change c).count + less.count ≡ c.count + more.count)
        content.clients (λ c so same. (so same).count) at);
    clients =
        total_moved one less.clients more.clients begins distinct some
        (each_from (λ (c : Ranked). same_path c.path path ≡ true → IsChange less more c (change c))
        (λ (c : Ranked). same_path c.path path ≡ true → 1 + less.clients ≡ 1 + more.clients)
        content.clients (λ c so same. omega (arith, as_many)) at);
    active =
        total_moved is_served less.active more.active begins distinct some
        (each_from (λ (c : Ranked). same_path c.path path ≡ true → IsChange less more c (change c))
        (λ (c : Ranked). same_path c.path path ≡ true → is_served (change c) + less.active ≡ is_served c + more.active)
        content.clients (λ c so same. (so same).active) at);
    weight = refl;
  }

  pub changed_beside : begins_with path node ≡ false → AreMoved none none content (with_change content path change) node
  changed_beside other = record {
    held = λ label. ap (λ (n : ℕ). n + 0) (total_stays (λ c. c.held label) other);
    count = ap (λ (n : ℕ). n + 0) (total_stays (λ c. c.count) other);
    clients = ap (λ (n : ℕ). n + 0) (total_stays one other);
    active = ap (λ (n : ℕ). n + 0) (total_stays is_served other);
    weight = refl;
  }

-- ---- a client is added

abbrev newcomer : Path → Ranked
newcomer path = record { path = path; active = true; held = λ _. 0; count = 0 }

abbrev pub of_newcomer : Amounts
of_newcomer = record { held = λ label. 0; count = 0; clients = 1; active = 1 }

module _ (content : Content) (path node : Path) where
  total_with : (f : Ranked → ℕ)
      → total_under f (with_client content path) node
      ≡ total_under f content node + cond (begins_with path node) (f (newcomer path)) 0
  total_with f =
      let last : sum_by (below node f) (newcomer path ∷ []) ≡ below node f (newcomer path) + sum_by (below node f) [] =
      sum_by-cons (below node f) (newcomer path) [] in
      omega (
        arith,
        sum_below node f (content.clients ++ newcomer path ∷ []),
        sum_below node f content.clients,
        sum_by-append (below node f) content.clients (newcomer path ∷ []),
        last,
      )

  total_with_at : (f : Ranked → ℕ) (b : Bool) → begins_with path node ≡ b
      → total_under f (with_client content path) node ≡ total_under f content node + cond b (f (newcomer path)) 0
  total_with_at f b is =
      total_with f ∙ ap (λ (t : Bool). total_under f content node + cond t (f (newcomer path)) 0) is

  pub added_below : begins_with path node ≡ true → AreMoved none of_newcomer content (with_client content path) node
  added_below begins = record {
    held = λ label. omega (arith, total_with_at (λ c. c.held label) true begins);
    count = omega (arith, total_with_at (λ c. c.count) true begins);
    clients = omega (arith, total_with_at one true begins);
    active = omega (arith, total_with_at is_served true begins);
    weight = refl;
  }

  pub added_beside : begins_with path node ≡ false → AreMoved none none content (with_client content path) node
  added_beside other = record {
    held = λ label. omega (arith, total_with_at (λ c. c.held label) false other);
    count = omega (arith, total_with_at (λ c. c.count) false other);
    clients = omega (arith, total_with_at one false other);
    active = omega (arith, total_with_at is_served false other);
    weight = refl;
  }
