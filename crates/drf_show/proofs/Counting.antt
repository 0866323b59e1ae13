-- What has been counted while a loop goes through rows.
use Rattle.std.specs.Prelude.{◌≡◌, ℕ, ◌+◌, ◌<◌, Bool, cond, List, [], ◌∷◌, fold, get_or, length, map, take}
use Rattle.std.proofs.Common.{sym, ap, ◌∙◌}
use Rattle.std.proofs.lemmas.List.{take_more}
use Rattle.std.proofs.lemmas.List.Sums.{fold-append, sum_by-append}
use Rattle.drf_bundle.specs.Quantities.{with_amount}
use Rattle.drf_bundle.specs.declared.quantities.Entry.{Entry}
use Rattle.drf_role.specs.Path.{Path}
use Rattle.drf_role.specs.Text.{Text}
use Rattle.drf_rows.specs.Holdings.{Holding, holding_of_offer, holding_of_task}
use Rattle.drf_rows.specs.Quota.{consumption_where, held_unreserved, is_within, reserved_for, unreserved_in}
use Rattle.drf_rows.specs.declared.rows.LimitRow.{LimitRow}
use Rattle.drf_rows.specs.declared.rows.Rows.{Rows}
use Rattle.drf_gates.specs.quota.Allowance.{IsConsumptionOf, Usage, used_at}
use Rattle.drf_show.specs.Consuming.{limit_line_by, used_of}
use Rattle.drf_show.specs.Shown.{limit_line}

-- ---- consumption

-- the consumption of roles, table by table
pub consumption_parts : (rows : Rows) (test : Path → Bool) (label : Text)
    → consumption_where test rows label
    ≡ (held_unreserved test (map holding_of_offer rows.offers) label + held_unreserved test (map holding_of_task rows.tasks) label) + reserved_for test rows.agents label
consumption_parts rows test label =
    ap (λ n. n + reserved_for test rows.agents label)
    (sum_by-append (λ (h : Holding). cond (test h.client.role) (unreserved_in label h.bundle) 0) (map holding_of_offer rows.offers) (map holding_of_task rows.tasks))

-- one more scalar of a limit
pub used_more : (used : List Usage) (role : Path) (entries now new : List Entry) (i : ℕ) (e : Entry) → i < length entries → e ≡ get_or entries i e
    → now ≡ used_of used role (take i entries) → new ≡ with_amount now e.label (used_at used role e.label)
    → new ≡ used_of used role (take (i + 1) entries)
used_more used role entries now new i e inside is so_far added =
    let add : List Entry → Entry → List Entry = λ sum e. with_amount sum e.label (used_at used role e.label) in
    added
    ∙ (λ j. add (so_far j) (is j))
    ∙ sym (ap (used_of used role) (take_more entries i e inside) ∙ fold-append add [] (take i entries) (get_or entries i e ∷ []))

-- a line that is made from the counted consumption is the one that the definition gives
pub limit_line_is : (rows : Rows) (used : List Usage) (l : LimitRow)
    → IsConsumptionOf rows used → limit_line_by used l ≡ limit_line rows l
limit_line_is rows used l same = λ i. record {
  role = l.role;
  limit = l.limit;
  consumed = fold (λ sum e. with_amount sum e.label (same (is_within l.role) e.label i)) [] l.limit;
}
