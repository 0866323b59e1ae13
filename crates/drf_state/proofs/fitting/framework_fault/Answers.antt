use Rattle.std.proofs.Common.{◌≡◌, Bool, List, ◌∷◌, [], ◌++◌, ◌∙◌, nat_le, not, sym}
use Rattle.drf_rows.specs.LimitNumbers.{LimitNumbers}
use Rattle.drf_rows.specs.declared.reply.Refusal.TheVariants.{KnownFramework, TooMany}
use Rattle.drf_saved.specs.Saved.{first_fault, has_too_many_clients, no_weights, roles_of, row_fault}
use Rattle.drf_rows.specs.Consistent.{are_distinct_roles, offers_counted}
use Rattle.drf_rows.specs.Members.{has_framework}
use Rattle.drf_rows.specs.declared.rows.FrameworkRow.{FrameworkRow}
use Rattle.drf_rows.specs.declared.rows.Rows.{Rows}
use Rattle.drf_saved.specs.declared.fault.RowFault.{RowFault}
use Rattle.drf_saved.specs.declared.fault.RowFault.TheVariants.{Refused, OutOfOrder, KnownRole, BadNumber}
use Rattle.drf_state.proofs.Fits.{first_prefix, first_rest}
use Rattle.drf_state.proofs.fitting.framework_fault.Goals.{After-first_fault-first}
use Rattle.drf_state.proofs.fitting.framework_fault.Goals as goal

abbrev prefix : LimitNumbers → Rows → FrameworkRow → List (Bool × RowFault)
prefix limits rows f =
    (not (no_weights rows), OutOfOrder) ∷ (has_framework rows f.name, Refused KnownFramework)
    ∷ (has_too_many_clients limits rows f, Refused TooMany) ∷ []

abbrev rest : Rows → FrameworkRow → List (Bool × RowFault)
rest rows f =
    (not (are_distinct_roles (roles_of f)), KnownRole) ∷ (nat_le rows.next_offer (offers_counted (rows.frameworks ++ f ∷ [])), BadNumber) ∷ []

reported_at : (c : After-first_fault-first) → c.first_fault-first.result ≡ first_fault (prefix c.args.limits.now c.args.tables.now.rows c.args.row.now)
reported_at c =
    c.first_fault-first.ensures ∙ (λ i. first_fault (
    (not (c.has_no_weights.ensures i), OutOfOrder)
    ∷ (c.has_framework.ensures i, Refused KnownFramework)
    ∷ (c.has_too_many_clients.ensures i, Refused TooMany)
    ∷ []))

pub returns-in-Some : goal.returns-in-Some
unfolding row_fault
returns-in-Some c =
    let rows = c.args.tables.now.rows in
    let reported = reported_at (goal.at.returns-in-Some c).After-first_fault-first in
    sym (first_prefix (prefix c.args.limits.now rows c.args.row.now) (rest rows c.args.row.now) c.in-Some.fault (sym reported ∙ c.in-Some.is))

pub returns : goal.returns
unfolding row_fault
returns c =
    let rows = c.args.tables.now.rows in
    let reported = reported_at (goal.at.returns c).After-first_fault-first in
    c.first_fault.ensures ∙ (λ i. first_fault (
    (c.has_known_role.ensures i, KnownRole)
    ∷ (c.has_bad_counts.ensures i, BadNumber)
    ∷ [])) ∙ sym (first_rest (prefix c.args.limits.now rows c.args.row.now) (rest rows c.args.row.now) (sym reported ∙ c.in_default.is))
