-- An offer raises the counts of its client's nodes by one, and no others.
use Rattle.std.specs.Prelude.{◌≡◌, ℕ, ◌+◌, Bool, true, false, ◌&&◌, List, map, filter, count_by, sum_by, if◌then◌else◌}
use Rattle.std.proofs.Common.{refl, sym, ap, ◌∙◌, inl, inr, cond, arith}
use Rattle.std.proofs.lemmas.Bool.{cases_Bool}
use Rattle.drf_role.specs.Path.{Path, begins_with, same_path}
use Rattle.drf_role.specs.PathLaws.{same_path-true}
use Rattle.drf_role.specs.Text.{same_text}
use Rattle.drf_role.specs.TextLaws.{same_from_test}
use Rattle.drf_rows.specs.Client.{Client, path_of}
use Rattle.drf_rows.specs.Cycle.{counted, count_offer, with_offer}
use Rattle.drf_rows.specs.Held.{client_of, count_of}
use Rattle.drf_rows.specs.Holdings.{holding_of_offer}
use Rattle.drf_row_laws.proofs.ConsistentLaws.{has_its_role, times_in, times_registered}
use Rattle.drf_bundle.proofs.ListLaws.{sum_by-filter, sum_by-map, sum_by-plus, sum_by_none}
use Rattle.drf_rows.specs.declared.rows.ClientRow.{ClientRow}
use Rattle.drf_rows.specs.declared.rows.FrameworkRow.{FrameworkRow}
use Rattle.drf_rows.specs.declared.rows.OfferRow.{OfferRow}
use Rattle.drf_rows.specs.declared.rows.Rows.{Rows}

add_one : (t b : Bool) (n : ℕ) → t ≡ b → cond t (n + 1) 0 ≡ cond t n 0 + cond b 1 0
add_one true true n same = refl
add_one true false n same = cc
add_one false true n same = cc
add_one false false n same = refl

add_none : (t b : Bool) (n : ℕ) → cond t n 0 ≡ cond t n 0 + cond b 0 0
add_none t true n = omega arith
add_none t false n = omega arith

module _ (node : Path) (client : Client) where
  abbrev own : Bool
  own = begins_with (path_of client) node

  abbrev is_in : FrameworkRow → ClientRow → Bool
  is_in f c = begins_with (path_of (client_of f c)) node

  abbrev count_in : FrameworkRow → ℕ
  count_in f = sum_by (λ c. c.count) (filter (is_in f) f.clients)

  row-counted : (f : FrameworkRow) (c : ClientRow) → same_text f.name client.framework ≡ true
      → cond (is_in f (counted client c)) (counted client c).count 0 ≡ cond (is_in f c) c.count 0 + cond own (cond (has_its_role client c) 1 0) 0
  row-counted f c name = elim (cases_Bool (same_path c.role client.role)) [
    | inl here ↦
        let itself : client_of f c ≡ client =
        λ i. record { role = same_path-true c.role client.role here i; framework = same_from_test f.name client.framework name i } in
        rw here (add_one (is_in f c) own c.count (ap (λ (k : Client). begins_with (path_of k) node) itself))
    | inr past ↦ rw past (add_none (is_in f c) own c.count)
  ]

  sum-cond : {X : Type 0} (b : Bool) (f : X → ℕ) (xs : List X) → sum_by (λ x. cond b (f x) 0) xs ≡ cond b (sum_by f xs) 0
  sum-cond true f xs = refl
  sum-cond false f xs = sum_by_none xs

  framework-counted : (f : FrameworkRow) → count_in (count_offer client f) ≡ count_in f + cond own (times_in client f) 0
  framework-counted f = by (same_text f.name client.framework) refl
    where
      by : (b : Bool) → same_text f.name client.framework ≡ b
          → count_in (if b then record f { clients = map (counted client) f.clients } else f)
          ≡ count_in f + cond own (count_by (λ c. b && has_its_role client c) f.clients) 0
      by true here =
          sum_by-filter (λ (c : ClientRow). c.count) (is_in f) (map (counted client) f.clients)
          ∙ sum_by-map (λ c. cond (is_in f c) c.count 0) (counted client) f.clients
          ∙ (λ i. sum_by (λ c. row-counted f c here i) f.clients)
          ∙ sum_by-plus (λ c. cond (is_in f c) c.count 0) (λ c. cond own (cond (has_its_role client c) 1 0) 0) f.clients
          ∙ (λ i. sym (sum_by-filter (λ (c : ClientRow). c.count) (is_in f) f.clients) i + sum-cond own (λ c. cond (has_its_role client c) 1 0) f.clients i)
      by false past =
          omega (arith, ap (λ n. cond own n 0) (sum_by_none f.clients), add_none false own 0)

pub count-with_offer : (rows : Rows) (offer : OfferRow) (node : Path)
    → count_of (with_offer rows offer) node
    ≡ count_of rows node + cond (begins_with (path_of (holding_of_offer offer).client) node) (times_registered rows.frameworks (holding_of_offer offer).client) 0
unfolding with_offer
count-with_offer rows offer node =
    let client : Client = (holding_of_offer offer).client in
    sum_by-map (count_in node client) (count_offer client) rows.frameworks
    ∙ (λ i. sum_by (λ f. framework-counted node client f i) rows.frameworks)
    ∙ sum_by-plus (count_in node client) (λ f. cond (begins_with (path_of client) node) (times_in client f) 0) rows.frameworks
    ∙ ap (λ n. count_of rows node + n) (sum-cond node client (begins_with (path_of client) node) (times_in client) rows.frameworks)
