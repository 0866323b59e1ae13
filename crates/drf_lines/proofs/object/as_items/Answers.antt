use Rattle.std.proofs.Common.{◌≡◌, List, [], ◌∷◌, Some, refl, sym, ap, ◌∙◌}
use Rattle.json.specs.Value.{value_view, items_view}
use Rattle.json.specs.declared.value.Value.{Value}
use Rattle.json.proofs.Trees.{view-Array}
use Rattle.serde_json.specs.Data.{item}
use Rattle.serde_json.specs.Find.{as_array}
use Rattle.drf_lines.specs.LineValue.{data_of, items_of, line_view, items_seen}
use Rattle.drf_lines.proofs.object.as_items.Goals as goal

items_are : {A : Type 0} (values : List (Value A)) → items_of (items_view values) ≡ items_seen values
unfolding line_view
items_are [] = refl
items_are (value ∷ values) = ap (item (data_of (value_view value))) (items_are values)

pub returns-in-Array : goal.returns-in-Array
unfolding line_view
returns-in-Array c =
    ap Some (sym (items_are c.in-Array.items.items))
    ∙ sym (ap (λ v. as_array (line_view v)) c.in-Array.is ∙ ap (λ j. as_array (data_of j)) (view-Array c.in-Array.items))
