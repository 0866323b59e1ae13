-- The limits of roles, and what each role consumes.
use Rattle.std.specs.Prelude.{◌≡◌, ℕ, ◌+◌, ◌^◌, ◌<◌, min, Bool, List, [], ◌∷◌, All, map, fold, sum_by, Option, Some, None, if◌then◌else◌, refl}
use Rattle.std.specs.List.{reduce}
use Rattle.std.specs.Coded.{Coded, code_by, coded×, coded_list, coded_ℕ}
use Rattle.std.specs.Map.{lookup}
use Rattle.std.specs.Option.{option_map, option_map_or}
use Rattle.drf_role.specs.Text.{Text, same_text}
use Rattle.drf_role.specs.Path.{Path, same_path}
use Rattle.drf_role.specs.Role.{IsRole}
use Rattle.drf_bundle.specs.Quantities.{amount_of, is_named}
use Rattle.drf_bundle.specs.Value.{Thousandths, units_in}
use Rattle.drf_bundle.specs.Bundle.{same_key, key_of}
use Rattle.drf_bundle.specs.declared.resource.Resource.{Resource}
use Rattle.drf_bundle.specs.contracts.quantities.Entry as entry
use Rattle.drf_bundle.specs.declared.quantities.Entry.{Entry}
use Rattle.drf_rows.specs.Quota.{Consumed, reserves, is_within, consumption_where, room_under}
use Rattle.drf_rows.specs.contracts.rows.LimitRow as limit
use Rattle.drf_rows.specs.declared.rows.LimitRow.{LimitRow}
use Rattle.drf_rows.specs.declared.rows.Rows.{Rows}

-- what a role consumes itself, without the roles below it
abbrev pub Usage : Type 0
Usage = Path × List Entry

-- the limits of roles, and what roles consume
pub record Allowance : Type 0 where
  pub limits : List LimitRow
  pub used : List Usage

-- the same, if it is known what roles consume
abbrev pub quota_under : List LimitRow → Option (List Usage) → Option Allowance
quota_under limits consumption = option_map (λ used. record { limits = limits; used = used }) consumption

-- the codes by which the prover decides equality of these values
abbrev pub usage_code : Coded (List Usage)
usage_code = coded_list (coded× (coded_list (coded_list coded_ℕ)) (coded_list entry.the_row.coded))

abbrev pub allowance_code : Coded Allowance
allowance_code =
    code_by (List LimitRow × List Usage) (coded× (coded_list limit.the_row.coded) usage_code)
    (λ a. (a.limits, a.used)) (λ p. record { limits = p.0; used = p.1 }) (λ _. refl)

-- these amounts if the role passes a test, and 0 otherwise
abbrev pub counted : (Path → Bool) → Path → List Entry → Text → ℕ
counted test role amounts label = if test role then amount_of amounts label else 0

-- an amount of one label
abbrev pub one_entry : Text → ℕ → List Entry
one_entry label amount = record { label = label; amount = amount } ∷ []

-- what the roles that pass a test consume of a scalar, in thousandths
abbrev pub used_where : (Path → Bool) → List Usage → Text → ℕ
used_where test used label = sum_by (λ u. counted test u.0 u.1 label) used

-- what a role itself consumes of a scalar
abbrev pub used_by : List Usage → Path → Text → ℕ
used_by used role label = used_where (same_path role) used label

-- what a role and the roles below it consume of a scalar
abbrev pub used_at : List Usage → Path → Text → ℕ
used_at used role label = used_where (is_within role) used label

-- a role consumes these amounts more, and so do the roles above it
abbrev pub AreRaised : List Usage → List Usage → Path → List Entry → Type 0
AreRaised old new role amounts =
    (test : Path → Bool) (label : Text) → used_where test new label ≡ used_where test old label + counted test role amounts label

-- roles consume more, as a function of the test and the scalar
abbrev pub IsRaisedBy : List Usage → List Usage → ((Path → Bool) → Text → ℕ) → Type 0
IsRaisedBy old new more = (test : Path → Bool) (label : Text) → used_where test new label ≡ used_where test old label + more test label

-- each role consumes the same
abbrev pub IsSame : List Usage → List Usage → Type 0
IsSame one other = (test : Path → Bool) (label : Text) → used_where test other label ≡ used_where test one label

-- the consumption is that of the rows
abbrev pub IsConsumptionOf : Rows → List Usage → Type 0
IsConsumptionOf rows used = (test : Path → Bool) (label : Text) → used_where test used label ≡ consumption_where test rows label

-- the limits and the consumption are those of the rows
pub record IsAllowanceOf (rows : Rows) (a : Allowance) : Type 0 where
  pub limits : a.limits ≡ rows.limits
  pub used : IsConsumptionOf rows a.used

-- each role consumes less than 2^64 thousandths of a scalar
pub record IsBounded (used : List Usage) : Type 0 where
  pub below : (role : Path) (label : Text) → IsRole role → used_at used role label < 2 ^ 64

-- one of the amounts is above 0
pub record IsSomething (amounts : List Entry) : Type 0 where
  pub label : Text
  pub above : 0 < amount_of amounts label

-- each row has an amount above 0
abbrev pub AreSome : List Usage → Type 0
AreSome used = All (λ u. IsSomething u.1) used

-- the amounts in the row of a role
abbrev pub row_of : List Usage → Path → List Entry
row_of used role = option_map_or (λ amounts. amounts) (lookup (same_path role) used) []

-- a limit as a row
abbrev pub limit_row : Path × List Entry → LimitRow
limit_row e = record { role = e.0; limit = e.1 }

abbrev pub limit_rows : List (Path × List Entry) → List LimitRow
limit_rows entries = map limit_row entries

-- the lesser of a number and of one that may be unknown
abbrev pub lesser : Option ℕ → ℕ → ℕ
lesser None n = n
lesser (Some m) n = min m n

abbrev pub least_with : Option ℕ → List ℕ → Option ℕ
least_with None ns = reduce min ns
least_with (Some n) ns = Some (fold min n ns)

-- the least known room, after one more limit is taken into account
abbrev pub lessened : Consumed → LimitRow → Option ℕ → Text → Option ℕ
lessened consumed l known label = if is_named l.limit label then Some (lesser known (room_under consumed label l)) else known

-- the amount of a scalar in one resource: in all, unreserved, and reserved for roles that pass a test
abbrev pub amount_in_one : Text → Resource → ℕ
amount_in_one label r = if same_text r.label label then units_in r.value Thousandths else 0

abbrev pub unreserved_one : Text → Resource → ℕ
unreserved_one label r = if same_key (label, []) (key_of r) then units_in r.value Thousandths else 0

abbrev pub reserved_one : (Path → Bool) → Text → Resource → ℕ
reserved_one test label r = if reserves test label (key_of r) then units_in r.value Thousandths else 0
