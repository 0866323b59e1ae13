-- Which values the types of rows allow.
use Rattle.std.specs.Prelude.{IsTrue, List, All}
use Rattle.std.specs.List.{AllByRecursion}
use Rattle.drf_bundle.specs.Quantities.{is_in_order}
use Rattle.drf_bundle.specs.declared.quantities.Entry.{Entry}
use Rattle.drf_text.specs.RoundTrip.{IsEntry}
use Rattle.drf_rows.specs.declared.rows.Rows.{Rows}
use Rattle.drf_saved.specs.Saved.{IsTyped, saved_rows}
use Rattle.drf_saved.specs.declared.saved.SavedRow.{SavedRow}
use Rattle.drf_saved.specs.declared.saved.SavedRow.TheVariants.{Agent, Framework, Weight, Limit, Offer, Task, Filter}

-- amounts in order of name, each below 2^64 thousandths
pub record AreQuantities (entries : List Entry) : Type 0 where
  pub in_order : IsTrue (is_in_order entries)
  pub each : All IsEntry entries

-- names and roles are valid, bundles are bundles, and limits are quantities
abbrev pub IsValidRow : SavedRow → Type 0
IsValidRow (Agent a) = IsTyped (Agent a)
IsValidRow (Framework f) = IsTyped (Framework f)
IsValidRow (Weight w) = IsTyped (Weight w)
IsValidRow (Limit l) = IsTyped (Limit l) × AreQuantities l.limit
IsValidRow (Offer o) = IsTyped (Offer o)
IsValidRow (Task t) = IsTyped (Task t)
IsValidRow (Filter f) = IsTyped (Filter f)

-- all rows of the current state are valid
abbrev pub AreValid : Rows → Type 0
AreValid rows = AllByRecursion IsValidRow (saved_rows rows)
