-- The late tests: free resources, and the names of scalars.
use Rattle.std.proofs.Common.{◌≡◌, true, false, List, Option, Some, None, Result, Ok, Err, length, refl, ap, ◌∙◌, nat_lt}
use Rattle.std.specs.Prelude.{not, filter}
use Rattle.std.specs.Option.{option_map, option_map_or}
use Rattle.std.specs.Result.{IfOk}
use Rattle.drf_role.specs.Text.{Text, same_text}
use Rattle.drf_bundle.specs.Quantities.{plus}
use Rattle.drf_bundle.specs.Bundle.{IsBundle, covers, quantities_of}
use Rattle.drf_bundle.specs.declared.quantities.Entry.{Entry}
use Rattle.drf_bundle.specs.declared.resource.Resource.{Resource}
use Rattle.drf_rows.specs.LimitNumbers.{LimitNumbers}
use Rattle.drf_rows.specs.Consistent.{IsConsistent}
use Rattle.drf_rows.specs.Cycle.{free_of}
use Rattle.drf_rows.specs.Held.{cluster_total}
use Rattle.drf_rows.specs.Members.{has_agent}
use Rattle.drf_row_laws.proofs.ReservationLaws.{found_known}
use Rattle.drf_rows.specs.Step.{first_case, too_many_names}
use Rattle.drf_rows.specs.Totals.{agent_at, is_not_free, with_other_total}
use Rattle.drf_row_laws.proofs.TotalsLaws.{cluster_total-other_total}
use Rattle.drf_rows.specs.declared.limits.TheConstants.{LARGEST_AMOUNT}
use Rattle.drf_rows.specs.declared.rows.AgentRow.{AgentRow}
use Rattle.drf_rows.specs.declared.rows.Rows.{Rows}
use Rattle.drf_core.specs.refusal.Cases.{cases_of_total}
use Rattle.drf_laws.proofs.theorems.Welcome.{no_case, small_amounts}

-- a stronger statement about a result implies a weaker one
pub if_ok : {T F : Type 0} (P Q : T → Type 0) (r : Result T F) → ((x : T) → P x → Q x) → IfOk r P → IfOk r Q
if_ok P Q (Ok x) more reported = more x reported
if_ok P Q (Err fault) more reported = tt

-- ---- free resources

-- the test reads the free resources of the agent, if it is registered
pub not_free : (rows : Rows) (name : Text) (resources : List Resource) (free : Option (List Resource))
    → free ≡ option_map (free_of rows) (agent_at rows name)
    → option_map_or (λ f. not (covers f resources)) free false ≡ is_not_free rows name resources
not_free rows name resources free is =
    ap (λ (o : Option (List Resource)). option_map_or (λ f. not (covers f resources)) o false) is ∙ by (agent_at rows name)
  where
    by : (found : Option AgentRow) → option_map_or (λ f. not (covers f resources)) (option_map (free_of rows) found) false
        ≡ option_map_or (λ a. not (covers (free_of rows a) resources)) found false
    by (Some a) = refl
    by None = refl

-- ---- the names of scalars

pub names-other_total : (limits : LimitNumbers) (rows : Rows) (name : Text) (total : List Resource) → has_agent rows name ≡ true → IsConsistent rows
    → first_case (cases_of_total rows name total) ≡ None → IsBundle total
    → nat_lt limits.scalar_names (length (plus (cluster_total (filter (λ b. not (same_text b.name name)) rows.agents)) (quantities_of total)))
    ≡ too_many_names limits (with_other_total rows name total)
names-other_total limits rows name total known consistent right bundle =
    let at = found_known rows name known in
    let small = (no_case (cases_of_total rows name total) right).1.0 in
    ap (λ (es : List Entry). nat_lt limits.scalar_names (length es))
    (cluster_total-other_total rows name at.0 total consistent at.1
    (record { total = bundle; small = λ label. small_amounts (quantities_of total) LARGEST_AMOUNT label small }))
