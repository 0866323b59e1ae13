-- There is an order of all clients: the one that an agent's turn picks.
use Rattle.std.specs.Prelude.{◌≡◌, true, IsTrue, List, [], ◌∷◌, length, map}
use Rattle.std.specs.List.Sorted.{IsPermutation}
use Rattle.std.proofs.Common.{refl, sym, subst}
use Rattle.std.proofs.lemmas.List.Sorted.{IsPermutation-map}
use Rattle.drf_role.specs.Path.{Path, IsClientPath, role_part, framework_part}
use Rattle.drf_role.proofs.PathLaws.{role_part-client_path, framework_part-client_path}
use Rattle.drf_rows.specs.Client.{Client, path_of}
use Rattle.drf_rows.specs.Share.{Standing, is_serving_order}
use Rattle.drf_rows.specs.Cycle.{serving_order}
use Rattle.drf_bundle.proofs.ListLaws.{each_map}
use Rattle.drf_row_laws.proofs.ServingOrder.{serving_order-unique}
use Rattle.drf_sorter.specs.Served.{AreClients, Weighs}
use Rattle.drf_sorter.proofs.theorems.SortedLaws.{sorted, moved_sorted, ordered_sorted}

-- the client with a path
abbrev client_at : Path → Client
client_at path = record { role = role_part path; framework = framework_part path }

clients_back : (cs : List Client) → map client_at (map path_of cs) ≡ cs
clients_back [] = refl
clients_back (c ∷ cs) = λ i. record {
  role = role_part-client_path c.role c.framework i;
  framework = framework_part-client_path c.role c.framework i;
} ∷ clients_back cs i

module _ (s : Standing) (clients : List Client) (weighs : Weighs s) (right : AreClients clients) where
  in_order : is_serving_order s (sorted s (map path_of clients)) ≡ true
  in_order = ordered_sorted s weighs (map path_of clients) (each_map IsClientPath path_of clients right.each) right.distinct

  is_sorted : map path_of (serving_order s (length clients) clients) ≡ sorted s (map path_of clients)
  is_sorted =
      serving_order-unique s clients (sorted s (map path_of clients)) (moved_sorted s (map path_of clients)) in_order

  pub each_is_served_once : IsPermutation clients (serving_order s (length clients) clients)
  each_is_served_once =
      let order : List Client = serving_order s (length clients) clients in
      let paths : IsPermutation (map path_of clients) (map path_of order) =
      subst (IsPermutation (map path_of clients)) (sym is_sorted) (moved_sorted s (map path_of clients)) in
      let back : IsPermutation (map client_at (map path_of clients)) (map client_at (map path_of order)) =
      IsPermutation-map client_at (map path_of clients) (map path_of order) paths in
      subst (λ cs. IsPermutation cs order) (clients_back clients)
      (subst (IsPermutation (map client_at (map path_of clients))) (clients_back order) back)

  pub each_before_all_later : IsTrue (is_serving_order s (map path_of (serving_order s (length clients) clients)))
  each_before_all_later = subst (λ ps. IsTrue (is_serving_order s ps)) (sym is_sorted) in_order
