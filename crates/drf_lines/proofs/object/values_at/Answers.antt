use Rattle.std.proofs.Common.{◌≡◌, List, [], ◌∷◌, Option, Ok, map, option_map, refl, sym, ap, ◌∙◌}
use Rattle.std.specs.Option.{ok_or}
use Rattle.serde_json.specs.Data.{Data, Items}
use Rattle.json.specs.declared.value.Value.{Value}
use Rattle.drf_lines.specs.LineValue.{line_view, items_seen}
use Rattle.drf_lines.specs.TaskTexts.{values_in, values_at}
use Rattle.drf_lines.specs.declared.fault.LineFault.TheVariants.{BadShape}
use Rattle.drf_lines.proofs.object.values_at.Goals as goal

values_view : {A : Type 0} (values : List (Value A)) → values_in (items_seen values) ≡ map line_view values
values_view [] = refl
values_view (value ∷ values) = ap (λ (ds : List Data). line_view value ∷ ds) (values_view values)

pub returns-in-Some : goal.returns-in-Some
unfolding values_at
returns-in-Some c =
    ap (λ (o : Option Items). ok_or (option_map values_in o) BadShape) (sym c.in-Some.ensures)
    ∙ ap Ok (values_view c.in-Some.items.now.items ∙ ap (map line_view) (sym c.as_slice.ensures.value))
