-- The table of weights as rows.
use Rattle.std.specs.List.{list_any}
use Rattle.std.specs.Map.{lookup}
use Rattle.std.proofs.Common.{refl, ap, ◌∙◌, inl, inr, ◌≡◌, ℕ, List, [], ◌∷◌, is_some, true}
use Rattle.std.proofs.lemmas.Bool.{cases_Bool}
use Rattle.drf_tables.proofs.tables.Names.{insert_entry, Path, same_path, Entry, Rows, Agent, Inside, Text}
use Rattle.drf_role.proofs.PathLaws.{same_path-swap}
use Rattle.drf_role.specs.Role.{IsRole}
use Rattle.drf_rows.specs.Weights.{has_weight, is_weight, weights_with}
use Rattle.drf_row_laws.proofs.WeightLaws.{IsConsistent-weight_set}
use Rattle.drf_tables.specs.Inside.{weight_row, weight_rows, rows_of, rows_in, AreDerived}
use Rattle.drf_tables.proofs.tables.Kept.{AreDerived-same}

-- a role is found among the keys exactly if a row has it
known_weight : (role : Path) (es : List (Path × ℕ))
    → list_any (λ w. same_path w.role role) (weight_rows es) ≡ is_some (lookup (same_path role) es)
known_weight role [] = refl
known_weight role (e ∷ es) =
    let more = known_weight role es in
    let test = same_path-swap e.0 role in
    elim (cases_Bool (same_path role e.0)) [
      | inl same ↦ rw (test ∙ same, same) refl
      | inr other ↦ rw (test ∙ other, other) more
    ]

pub has_weight-rows_in : (t : Inside) (role : Path)
    → has_weight (rows_in t) role ≡ is_some (lookup (same_path role) t.weights.entries)
unfolding rows_of
has_weight-rows_in t role = known_weight role t.weights.entries

-- setting an entry sets the row at its place
weights_put : (es : List (Path × ℕ)) (role : Path) (weight : ℕ)
    → weight_rows (insert_entry same_path es role weight) ≡ weights_with (weight_rows es) role weight
weights_put [] role weight = refl
weights_put (e ∷ es) role weight =
    let more = weights_put es role weight in
    let test = same_path-swap e.0 role in
    elim (cases_Bool (same_path role e.0)) [
      | inl same ↦ rw (test ∙ same, same) refl
      | inr other ↦ rw (test ∙ other, other) (ap (λ ws. weight_row e ∷ ws) more)
    ]

-- the rows after the weight of a role is set
abbrev pub weight_set : Rows → Path → ℕ → Rows
weight_set rows role weight = record rows { weights = weights_with rows.weights role weight }

pub rows_of-weight : (t : Inside) (entries : List (Path × ℕ)) (role : Path) (weight : ℕ)
    → entries ≡ insert_entry same_path t.weights.entries role weight
    → rows_of t.agents.entries t.frameworks.entries t.holdings t.filters entries t.limits t.clock t.next_offer t.events
    ≡ weight_set (rows_in t) role weight
unfolding rows_of
rows_of-weight t entries role weight inserted =
    let read = ap weight_rows inserted ∙ weights_put t.weights.entries role weight in
    λ i. record (rows_in t) { weights = read i }

-- what is stored besides the rows does not depend on weights
pub AreDerived-weight_set : (rows : Rows) (agents : List (Text × Agent)) (sum : List Entry) (number : ℕ) (role : Path) (weight : ℕ)
    → is_weight weight ≡ true → IsRole role → AreDerived rows agents sum number → AreDerived (weight_set rows role weight) agents sum number
AreDerived-weight_set rows agents sum number role weight right valid kept =
    AreDerived-same rows (weight_set rows role weight) agents sum number kept
    (IsConsistent-weight_set rows role weight right valid kept.consistent) refl refl refl
