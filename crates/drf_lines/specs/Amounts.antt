-- The text that is still to be written for quantities.
use Rattle.std.specs.Prelude.{Bool, true, List, [], ◌∷◌, ◌++◌, if◌then◌else◌, nat_lt}
use Rattle.json.specs.Print.{escape}
use Rattle.drf_role.specs.Text.{Text}
use Rattle.drf_bundle.specs.declared.quantities.Entry.{Entry}
use Rattle.drf_text.specs.Written.{quantity_text}

-- the entries above 0, separated by `;`; `has_any` says whether entries were written before
abbrev pub left_amounts : Bool → List Entry → Text
left_amounts has_any [] = []
left_amounts has_any (e ∷ es) =
    if nat_lt 0 e.amount then (if has_any then 59 ∷ [] else []) ++ (escape (quantity_text e) ++ left_amounts true es) else left_amounts has_any es
