-- Contents that are the same except for the order of their clients have the same properties, and stay the same after each change.
use Rattle.std.specs.Prelude.{◌≡◌, ℕ, true, not, IsTrue, List, [], ◌∷◌, filter, sum_by, if◌then◌else◌}
use Rattle.std.specs.List.{list_any}
use Rattle.std.specs.List.Sorted.{IsPermutation}
use Rattle.std.proofs.Common.{refl, sym, ap, subst, ◌∙◌, arith}
use Rattle.std.proofs.lemmas.List.Sorted.{IsPermutation-refl, IsPermutation-sym, IsPermutation-trans, IsPermutation-append_left, IsPermutation-map, list_any-IsPermutation, sum_by-IsPermutation}
use Rattle.drf_bundle.proofs.ListLaws.{each_from}
use Rattle.drf_bundle.specs.Quantities.{amount_of}
use Rattle.drf_bundle.specs.declared.quantities.Entry.{Entry}
use Rattle.drf_role.specs.Path.{Path, same_path, begins_with}
use Rattle.drf_rows.specs.Held.{weight_of}
use Rattle.drf_rows.specs.Report.{terms_of}
use Rattle.drf_rows.specs.Share.{Standing, is_same, is_serving_order, share_of, weighted_share_of}
use Rattle.drf_rows.specs.Weights.{weights_with}
use Rattle.drf_rows.specs.declared.report.NodeLine.{NodeLine}
use Rattle.drf_rows.specs.declared.rows.WeightRow.{WeightRow}
use Rattle.drf_sorter.specs.Content.{Content, Ranked, IsSame, Holds, HoldsAt, HasCharge, HasChargeAt, HasNodes, IsSound, IsOrderOf, active_paths, clients_under, has_client, has_node, has_weight, standing_in, with_change, with_client, with_weight, without_client}
use Rattle.drf_sorter.specs.Lines.{AreLinesOf, IsLineOf}
use Rattle.drf_sorter.specs.Share.{IsShareOf, fraction_of}
use Rattle.drf_sorter.specs.declared.share.Share.{Share}
use Rattle.drf_sorter.proofs.theorems.PermutationLaws.{IsPermutation-filter, each_permutation}

-- ---- an equivalence

pub IsSame-refl : (a : Content) → IsSame a a
IsSame-refl a = record { clients = IsPermutation-refl a.clients; total = refl; weights = refl }

pub IsSame-sym : (a b : Content) → IsSame a b → IsSame b a
IsSame-sym a b same = record {
  clients = IsPermutation-sym a.clients b.clients same.clients;
  total = sym same.total;
  weights = sym same.weights;
}

pub IsSame-trans : (a b c : Content) → IsSame a b → IsSame b c → IsSame a c
IsSame-trans a b c first second = record {
  clients = IsPermutation-trans a.clients b.clients c.clients first.clients second.clients;
  total = first.total ∙ second.total;
  weights = first.weights ∙ second.weights;
}

pub IsSame-from : (a b : Content) → a ≡ b → IsSame a b
IsSame-from a b is = subst (IsSame a) is (IsSame-refl a)

-- the contents can be replaced by equal ones
pub IsSame-between : (a b c d : Content) → a ≡ b → IsSame b c → c ≡ d → IsSame a d
IsSame-between a b c d first same last = subst (IsSame a) last (subst (λ (k : Content). IsSame k c) (sym first) same)

module _ (a b : Content) (same : IsSame a b) where
  -- ---- changes

  pub IsSame-with_client : (path : Path) → IsSame (with_client a path) (with_client b path)
  IsSame-with_client path = record {
    clients = IsPermutation-append_left (record { path = path; active = true; held = λ _. 0; count = 0 } ∷ []) a.clients b.clients same.clients;
    total = same.total;
    weights = same.weights;
  }

  pub IsSame-without_client : (path : Path) → IsSame (without_client a path) (without_client b path)
  IsSame-without_client path = record {
    clients = IsPermutation-filter (λ (c : Ranked). not (same_path c.path path)) a.clients b.clients same.clients;
    total = same.total;
    weights = same.weights;
  }

  pub IsSame-with_change : (path : Path) (change : Ranked → Ranked) → IsSame (with_change a path change) (with_change b path change)
  IsSame-with_change path change = record {
    clients = IsPermutation-map (λ (c : Ranked). if same_path c.path path then change c else c) a.clients b.clients same.clients;
    total = same.total;
    weights = same.weights;
  }

  pub IsSame-with_weight : (role : Path) (weight : ℕ) → IsSame (with_weight a role weight) (with_weight b role weight)
  IsSame-with_weight role weight = record {
    clients = same.clients;
    total = same.total;
    weights = ap (λ (ws : List WeightRow). weights_with ws role weight) same.weights;
  }

  pub IsSame-with_total : (total : List Entry) → IsSame (record a { total = total }) (record b { total = total })
  IsSame-with_total total = record { clients = same.clients; total = refl; weights = same.weights }

  -- ---- which clients there are

  pub has_client-same : (path : Path) → has_client a path ≡ has_client b path
  has_client-same path = list_any-IsPermutation (λ (c : Ranked). same_path c.path path) a.clients b.clients same.clients

  pub has_node-same : (node : Path) → has_node a node ≡ has_node b node
  has_node-same node = list_any-IsPermutation (λ (c : Ranked). begins_with c.path node) a.clients b.clients same.clients

  pub has_weight-same : (role : Path) → has_weight a role ≡ has_weight b role
  has_weight-same role = ap (list_any (λ (w : WeightRow). same_path w.role role)) same.weights

  pub HasNodes-same : (nodes : List Path) → HasNodes a nodes → HasNodes b nodes
  HasNodes-same nodes has node some there = has node some (has_node-same node ∙ there)

  -- ---- what they hold

  pub HoldsAt-same : (path : Path) (quantities : List Entry) → HoldsAt a path quantities → HoldsAt b path quantities
  HoldsAt-same path quantities =
      each_permutation (λ (c : Ranked). same_path c.path path ≡ true → Holds quantities c) a.clients b.clients same.clients

  pub HasChargeAt-same : (path : Path) (quantities : List Entry) → HasChargeAt a path quantities → HasChargeAt b path quantities
  HasChargeAt-same path quantities =
      each_permutation (λ (c : Ranked). same_path c.path path ≡ true → HasCharge quantities c) a.clients b.clients same.clients

  -- sums over all clients, and over those of a node
  pub sum-same : (f : Ranked → ℕ) → sum_by f a.clients ≡ sum_by f b.clients
  sum-same f = sym (sum_by-IsPermutation f a.clients b.clients same.clients)

  clients_under-same : (node : Path) → IsPermutation (clients_under a node) (clients_under b node)
  clients_under-same node = IsPermutation-filter (λ (c : Ranked). begins_with c.path node) a.clients b.clients same.clients

  sum_under-same : (f : Ranked → ℕ) (node : Path) → sum_by f (clients_under a node) ≡ sum_by f (clients_under b node)
  sum_under-same f node = sym (sum_by-IsPermutation f (clients_under a node) (clients_under b node) (clients_under-same node))

  pub IsSound-same : IsSound a → IsSound b
  IsSound-same sound = record {
    held = λ label. omega (
      arith,
      sound.held label,
      sum-same (λ (c : Ranked). c.held label),
      ap (λ (t : List Entry). amount_of t label) same.total,
    );
    total = λ label. omega (arith, sound.total label, ap (λ (t : List Entry). amount_of t label) same.total);
    count = omega (arith, sound.count, sum-same (λ (c : Ranked). c.count));
  }

  -- ---- the order

  pub standing_in-same : standing_in a ≡ standing_in b
  unfolding standing_in
  standing_in-same = λ i. record {
    held = λ node label. sum_under-same (λ (c : Ranked). c.held label) node i;
    count = λ node. sum_under-same (λ (c : Ranked). c.count) node i;
    total = same.total i;
    weight = λ node. weight_of (same.weights i) node;
  }

  active_paths-same : IsPermutation (active_paths a) (active_paths b)
  active_paths-same =
      IsPermutation-map (λ (c : Ranked). c.path) (filter (λ c. c.active) a.clients) (filter (λ c. c.active) b.clients)
      (IsPermutation-filter (λ (c : Ranked). c.active) a.clients b.clients same.clients)

  pub IsOrderOf-same : (paths : List Path) → IsOrderOf a paths → IsOrderOf b paths
  IsOrderOf-same paths order = record {
    active = IsPermutation-trans (active_paths b) (active_paths a) paths
        (IsPermutation-sym (active_paths a) (active_paths b) active_paths-same) order.active;
    in_order = subst (λ (s : Standing). IsTrue (is_serving_order s paths)) standing_in-same order.in_order;
  }

  -- ---- shares and lines

  pub IsShareOf-same : (node : Path) (answer : Share × Share × ℕ) → IsShareOf a node answer → IsShareOf b node answer
  IsShareOf-same node answer is = record {
    share = subst (λ (s : Standing). IsTrue (is_same (fraction_of answer.0) (share_of s node))) standing_in-same is.share;
    weighted = is.weighted ∙ ap (λ (s : Standing). weighted_share_of s node) standing_in-same;
    count = is.count ∙ ap (λ (s : Standing). s.count node) standing_in-same;
  }

  IsLineOf-same : (line : NodeLine) → IsLineOf a line → IsLineOf b line
  IsLineOf-same line is = record {
    some = is.some;
    clients = sym (has_node-same line.path) ∙ is.clients;
    no_zeros = is.no_zeros;
    held = λ label. is.held label ∙ ap (λ (s : Standing). s.held line.path label) standing_in-same;
    share = is.share ∙ ap (λ (s : Standing). terms_of (share_of s line.path)) standing_in-same;
    weighted = is.weighted ∙ ap (λ (s : Standing). terms_of (weighted_share_of s line.path)) standing_in-same;
    count = is.count ∙ ap (λ (s : Standing). s.count line.path) standing_in-same;
  }

  pub AreLinesOf-same : (lines : List NodeLine) → AreLinesOf a lines → AreLinesOf b lines
  AreLinesOf-same lines are = record {
    each = each_from (IsLineOf a) (IsLineOf b) lines IsLineOf-same are.each;
    every = λ node some has. are.every node some (has_node-same node ∙ has);
    in_order = are.in_order;
  }
