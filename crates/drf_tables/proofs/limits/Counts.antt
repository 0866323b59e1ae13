-- Consumption before and after changes of the rows, and under limits.
use Rattle.std.proofs.Common.{refl, sym, ap, subst, inl, inr, ◌∙◌, ◌≡◌, ◌≢◌, ℕ, ◌+◌, Bool, true, false, List, [], ◌∷◌, Option, Some, None, is_some, sum_by, if◌then◌else◌}
use Rattle.std.specs.List.{list_any}
use Rattle.std.proofs.lemmas.Bool.{cases_Bool, false≢true}
use Rattle.drf_tables.proofs.tables.Names.{Text, same_text, Path, same_path, Entry, holdings_of, sum_by-map, active_at, with_activity, admits, admits_under, consumption, reserved_in, held_unreserved, reserved_for, limit_of, AgentRow, Rows, Allowance, IsAllowanceOf, Usage, quota_under, used_where, CountsAll}
use Rattle.drf_rows.specs.declared.rows.LimitRow.{LimitRow}

-- unknown consumption is right for all rows
pub none_counted : (rows : Rows) (consumption : Option (List Usage)) → is_some consumption ≡ false → CountsAll rows consumption
none_counted rows None none = record { each = tt }
none_counted rows (Some used) none = absurd (false≢true (sym none))

-- if holdings and reservations do not change, consumption does not change
pub counts-same : (old new : Rows) (consumption : Option (List Usage)) → CountsAll old consumption
    → holdings_of old ≡ holdings_of new
    → ((test : Path → Bool) (label : Text) → reserved_for test old.agents label ≡ reserved_for test new.agents label)
    → CountsAll new consumption
counts-same old new None counted held reserved = record { each = tt }
counts-same old new (Some used) counted held reserved = record {
  each = λ test label. counted.each test label ∙ (λ i. held_unreserved test (held i) label + reserved test label i);
}

-- activating or deactivating an agent does not change reservations
pub reserved-with_activity : (rows : Rows) (name : Text) (active : Bool) (test : Path → Bool) (label : Text)
    → reserved_for test rows.agents label ≡ reserved_for test (with_activity rows name active) label
reserved-with_activity rows name active test label =
    sym (sum_by-map (λ (a : AgentRow). reserved_in test label a.total) (active_at name active) rows.agents
    ∙ (λ i. sum_by (λ a. same a i) rows.agents))
  where
    same : (a : AgentRow) → reserved_in test label (active_at name active a).total ≡ reserved_in test label a.total
    same a = by (same_text a.name name)
      where
        by : (b : Bool) → reserved_in test label (if b then record a { active = active } else a).total ≡ reserved_in test label a.total
        by true = refl
        by false = refl

-- ---- consumption is computed from the rows one by one

-- what was added so far, and what remains to be added, is all
abbrev pub IsPartly : List Usage → List Usage → ((Path → Bool) → Text → ℕ) → ((Path → Bool) → Text → ℕ) → Type 0
IsPartly old new all left =
    (test : Path → Bool) (label : Text) → used_where test new label + left test label ≡ used_where test old label + all test label

-- ---- limits

-- a role has a limit exactly if one is found
pub found_limit : (limits : List LimitRow) (role : Path) → is_some (limit_of limits role) ≡ list_any (λ l. same_path l.role role) limits
found_limit [] role = refl
found_limit (l ∷ ls) role = elim (cases_Bool (same_path l.role role)) [
  | inl here ↦ rw here refl
  | inr past ↦ rw past (found_limit ls role)
]

-- without limits, everything is admitted
pub admits-unlimited : (rows : Rows) (role : Path) (amounts : List Entry) → rows.limits ≡ [] → true ≡ admits rows role amounts
admits-unlimited rows role amounts none = sym (ap (λ (ls : List LimitRow). admits_under ls (consumption rows) role amounts) none ∙ by amounts)
  where
    by : (es : List Entry) → admits_under [] (consumption rows) role es ≡ true
    by [] = refl
    by (e ∷ es) = by es

-- if consumption is unknown, and would be known if there were limits, there are none
pub none-unlimited : (limits : List LimitRow) (consumption : Option (List Usage)) (counted : Bool) → quota_under limits consumption ≡ None
    → is_some consumption ≡ counted → (limits ≢ [] → counted ≡ true) → limits ≡ []
none-unlimited [] consumption counted none is reported = refl
none-unlimited (l ∷ ls) None counted none is reported = absurd (false≢true (is ∙ reported (λ (same : l ∷ ls ≡ []). cc)))
none-unlimited (l ∷ ls) (Some used) counted none is reported = cc

-- the limits with known consumption are right for the rows
pub allowance-counted : (rows : Rows) (consumption : Option (List Usage)) (quota : Allowance) → CountsAll rows consumption
    → quota_under rows.limits consumption ≡ Some quota → IsAllowanceOf rows quota
allowance-counted rows None quota counts is = cc
allowance-counted rows (Some used) quota counts is =
    let both : ◌≡◌ {A = Option Allowance} (Some (record { limits = rows.limits; used = used })) (Some quota) = is in
    let same : ◌≡◌ {A = Allowance} (record { limits = rows.limits; used = used }) quota = cc in
    subst (IsAllowanceOf rows) same (record { limits = refl; used = counts.each })
