-- The clients that pass over a client, finding by finding; and the parts that two paths have in common.
use Rattle.std.proofs.Common.{◌≡◌, ℕ, suc, ◌+◌, ◌<◌, ◌≤◌, Bool, true, false, List, [], ◌∷◌, ◌++◌, Some, cond, length, drop, get_or, inl, inr, sym, ap, ◌∙◌, refl, arith}
use Rattle.std.specs.Prelude.{fold, map, min, not, ◌&&◌, ◌||◌, slice_get, if◌then◌else◌, nat_lt}
use Rattle.std.specs.List.{flat_map, list_any}
use Rattle.std.specs.Map.{lookup}
use Rattle.std.proofs.lemmas.Bool.Decides.{leb_tells}
use Rattle.std.proofs.lemmas.List.{at_drop_more, drop_all}
use Rattle.std.proofs.lemmas.List.Sums.{fold-append}
use Rattle.drf_role.specs.Text.{Text, same_text}
use Rattle.drf_role.specs.Path.{Path, same_path}
use Rattle.indexmap.specs.IndexMap.{insert_entry}
use Rattle.drf_role.proofs.OrderLemmas.{drop_from_get}
use Rattle.drf_bundle.specs.Value.{amount_in}
use Rattle.drf_bundle.specs.declared.resource.Resource.{Resource}
use Rattle.drf_explain.specs.declared.finding.Finding.{Finding}
use Rattle.drf_explain.specs.declared.finding.Finding.TheVariants.{Suppressed, Inactive, NothingFree, Tried, Left}
use Rattle.drf_rows.specs.Offers.{is_empty}
use Rattle.drf_why.specs.Passers.{Passer, begins_with_grant, bundle_of, next_agents, one_more, passer_of, passers_by, shared_parts, taker_in, takes_of, with_passer}

module _ {X : Type 0} (clients_in : X → List Path) (whole : List Passer) (xs : List X) (i : ℕ) where
  pub counted_more : (old new : List Passer) (x : X) → i < length xs → x ≡ get_or xs i x → new ≡ fold with_passer old (clients_in x)
      → fold with_passer old (flat_map clients_in (drop i xs)) ≡ whole → fold with_passer new (flat_map clients_in (drop (i + 1) xs)) ≡ whole
  counted_more old new x inside is counted so_far =
      let later : List Path = flat_map clients_in (drop (i + 1) xs) in
      ap (λ ps. fold with_passer ps later) counted
      ∙ sym (fold-append with_passer old (clients_in x) later)
      ∙ ap (λ y. fold with_passer old (clients_in y ++ later)) is
      ∙ sym (at_drop_more (λ ys. fold with_passer old (flat_map clients_in ys)) xs i x inside)
      ∙ so_far

  pub counted_over : (passers : List Passer) → length xs ≤ i → fold with_passer passers (flat_map clients_in (drop i xs)) ≡ whole → passers ≡ whole
  counted_over passers past so_far = sym (ap (λ ys. fold with_passer passers (flat_map clients_in ys)) (drop_all i xs past)) ∙ so_far

-- some element has a client exactly if the list of all clients is not empty
pub any_client : {X : Type 0} (clients_in : X → List Path) (xs : List X)
    → list_any (λ x. not (is_empty (clients_in x))) xs ≡ not (is_empty (flat_map clients_in xs))
any_client clients_in [] = refl
any_client clients_in (x ∷ xs) = ap (λ b. not (is_empty (clients_in x)) || b) (any_client clients_in xs) ∙ by (clients_in x)
  where
    by : (paths : List Path) → (not (is_empty paths) || not (is_empty (flat_map clients_in xs))) ≡ not (is_empty (paths ++ flat_map clients_in xs))
    by [] = refl
    by (path ∷ paths) = refl

-- one agent more for a client, stored in the map
pub passer_put : (entries : List (Path × ℕ)) (client : Path)
    → map passer_of (insert_entry same_path entries client (next_agents (lookup (same_path client) entries))) ≡ with_passer (map passer_of entries) client
passer_put [] client = refl
passer_put (e ∷ es) client = by (same_path client e.0) (passer_put es client)
  where
    by : (here : Bool)
        → map passer_of (insert_entry same_path es client (next_agents (lookup (same_path client) es))) ≡ with_passer (map passer_of es) client
        → map passer_of (cond here
        ((e.0, next_agents (cond here (Some e.1) (lookup (same_path client) es))) ∷ es)
        (e ∷ insert_entry same_path es client (next_agents (cond here (Some e.1) (lookup (same_path client) es)))))
        ≡ cond here (record { client = e.0; agents = one_more e.1 } ∷ map passer_of es) (passer_of e ∷ with_passer (map passer_of es) client)
    by true later = refl
    by false later = ap (λ (ps : List Passer). passer_of e ∷ ps) later

-- ---- no client takes a part of an empty bundle

and-false : (b : Bool) → (b && false) ≡ false
and-false true = refl
and-false false = refl

pub takes-nothing : (taken : List Resource) → takes_of taken [] ≡ false
takes-nothing [] = refl
takes-nothing (r ∷ rs) = λ i. and-false (nat_lt 0 (amount_in r.value)) i || takes-nothing rs i

no_takers : (findings : List Finding) → flat_map (taker_in []) findings ≡ []
no_takers [] = refl
no_takers (Suppressed client ∷ findings) = no_takers findings
no_takers (Inactive agent ∷ findings) = no_takers findings
no_takers (NothingFree agent ∷ findings) = no_takers findings
no_takers (Left agent left clients ∷ findings) = no_takers findings
no_takers (Tried agent client outcome ∷ findings) =
    ap (λ (takes : Bool). (if takes then client ∷ [] else []) ++ flat_map (taker_in []) findings) (takes-nothing (bundle_of outcome)) ∙ no_takers findings

pub no_passers : (own earlier : List Finding) → passers_by own earlier [] ≡ []
no_passers own earlier = ap (λ (paths : List Path). if begins_with_grant own then [] else paths) (no_takers earlier) ∙ by (begins_with_grant own)
  where
    by : (gets : Bool) → cond {A = List Path} gets [] [] ≡ []
    by true = refl
    by false = refl

-- ---- the parts that two paths have in common

shared-none : (path : Path) → shared_parts path [] ≡ 0
shared-none [] = refl
shared-none (part ∷ parts) = refl

yes_from_not : (b : Bool) → not b ≡ false → b ≡ true
yes_from_not true is = refl
yes_from_not false is = sym is

no_from_not : (b : Bool) → not b ≡ true → b ≡ false
no_from_not true is = sym is
no_from_not false is = refl

module _ (path other : Path) (i : ℕ) (so_far : shared_parts path other ≡ i + shared_parts (drop i path) (drop i other)) where
  module _ (part another : Text) (at_path : slice_get path i ≡ Some part) (at_other : slice_get other i ≡ Some another) where
    next : shared_parts path other ≡ i + (if same_text part another then suc (shared_parts (drop (i + 1) path) (drop (i + 1) other)) else 0)
    next = so_far ∙ (λ j. i + shared_parts (drop_from_get path i part at_path j) (drop_from_get other i another at_other j))

    pub one_shared : not (same_text part another) ≡ false → shared_parts path other ≡ (i + 1) + shared_parts (drop (i + 1) path) (drop (i + 1) other)
    one_shared same =
        let step : shared_parts path other ≡ i + suc (shared_parts (drop (i + 1) path) (drop (i + 1) other)) =
        next ∙ ap (λ b. i + (if b then suc (shared_parts (drop (i + 1) path) (drop (i + 1) other)) else 0)) (yes_from_not (same_text part another) same) in
        omega (arith, step)

    pub one_other : not (same_text part another) ≡ true → i ≡ shared_parts path other
    one_other differs =
        let step : shared_parts path other ≡ i + 0 =
        next ∙ ap (λ b. i + (if b then suc (shared_parts (drop (i + 1) path) (drop (i + 1) other)) else 0)) (no_from_not (same_text part another) differs) in
        omega (arith, step)

  pub shared_over : min (length path) (length other) ≤ i → shared_parts path other ≡ i
  shared_over past = elim (leb_tells (length path) i) [
    | inl short ↦
        let step : shared_parts path other ≡ i + 0 = so_far ∙ ap (λ ps. i + shared_parts ps (drop i other)) (drop_all i path short.1) in
        omega (arith, step)
    | inr long ↦
        let step : shared_parts path other ≡ i + 0 =
        so_far ∙ ap (λ ps. i + shared_parts (drop i path) ps) (drop_all i other (omega (arith, past, long.1))) ∙ ap (λ n. i + n) (shared-none (drop i path)) in
        omega (arith, step)
  ]
