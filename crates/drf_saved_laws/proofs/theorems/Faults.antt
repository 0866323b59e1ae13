-- Rows and heads without an error: none of the conditions holds. And what this means for restoring a list.
use Rattle.std.specs.Prelude.{◌≡◌, Bool, true, false, List, [], ◌∷◌, Option, Some, None, is_some, if◌then◌else◌}
use Rattle.std.specs.List.{AllByRecursion}
use Rattle.std.proofs.Common.{refl, ap}
use Rattle.drf_rows.specs.LimitNumbers.{LimitNumbers}
use Rattle.drf_rows.specs.declared.rows.Rows.{Rows}
use Rattle.drf_saved.specs.Saved.{begun, with_row, row_cases, head_cases, first_fault, row_fault, head_fault, restored_from, restored}
use Rattle.drf_saved.specs.declared.fault.RowFault.{RowFault}
use Rattle.drf_saved.specs.declared.saved.Head.{Head}
use Rattle.drf_saved.specs.declared.saved.SavedRow.{SavedRow}

-- none of the conditions holds
abbrev pub NoneHolds : List (Bool × RowFault) → Type 0
NoneHolds cases = AllByRecursion (λ c. c.0 ≡ false) cases

none_from : (cases : List (Bool × RowFault)) → first_fault cases ≡ None → NoneHolds cases
none_from [] none = tt
none_from ((true, fault) ∷ cases) none = cc
none_from ((false, fault) ∷ cases) none = (refl, none_from cases none)

none_to : (cases : List (Bool × RowFault)) → NoneHolds cases → first_fault cases ≡ None
none_to [] none = refl
none_to (c ∷ cases) none = rw none.0 (none_to cases none.1)

module _ (limits : LimitNumbers) (rows : Rows) (row : SavedRow) where
  pub no_row_case : row_fault limits rows row ≡ None → NoneHolds (row_cases limits rows row)
  unfolding row_fault
  no_row_case none = none_from (row_cases limits rows row) none

  pub no_row_fault : NoneHolds (row_cases limits rows row) → row_fault limits rows row ≡ None
  unfolding row_fault
  no_row_fault none = none_to (row_cases limits rows row) none

module _ (limits : LimitNumbers) (head : Head) where
  pub no_head_case : head_fault limits head ≡ None → NoneHolds (head_cases limits head)
  unfolding head_fault
  no_head_case none = none_from (head_cases limits head) none

  pub no_head_fault : NoneHolds (head_cases limits head) → head_fault limits head ≡ None
  unfolding head_fault
  no_head_fault none = none_to (head_cases limits head) none

-- ---- restoring a list

-- rows are restored only if there is no error
goes_on : (fault : Option RowFault) (rest : Option Rows) (made : Rows)
    → (if is_some fault then None else rest) ≡ Some made → (fault ≡ None) × (rest ≡ Some made)
goes_on None rest made is = (refl, is)
goes_on (Some fault) rest made is = cc

pub taken_first : (limits : LimitNumbers) (rows : Rows) (row : SavedRow) (more : List SavedRow) (made : Rows)
    → restored_from limits rows (row ∷ more) ≡ Some made
    → (row_fault limits rows row ≡ None) × (restored_from limits (with_row rows row) more ≡ Some made)
taken_first limits rows row more made is =
    goes_on (row_fault limits rows row) (restored_from limits (with_row rows row) more) made is

pub taken_head : (limits : LimitNumbers) (head : Head) (saved : List SavedRow) (made : Rows)
    → restored limits head saved ≡ Some made
    → (head_fault limits head ≡ None) × (restored_from limits (begun head) saved ≡ Some made)
taken_head limits head saved made is = goes_on (head_fault limits head) (restored_from limits (begun head) saved) made is

-- if there is no error, they are restored
pub goes_first : (limits : LimitNumbers) (rows : Rows) (row : SavedRow) (more : List SavedRow) → row_fault limits rows row ≡ None
    → restored_from limits rows (row ∷ more) ≡ restored_from limits (with_row rows row) more
goes_first limits rows row more none =
    ap (λ (f : Option RowFault). if is_some f then None else restored_from limits (with_row rows row) more) none

pub goes_head : (limits : LimitNumbers) (head : Head) (saved : List SavedRow) → head_fault limits head ≡ None
    → restored limits head saved ≡ restored_from limits (begun head) saved
goes_head limits head saved none =
    ap (λ (f : Option RowFault). if is_some f then None else restored_from limits (begun head) saved) none
