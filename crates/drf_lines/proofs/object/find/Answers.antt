use Rattle.std.proofs.Common.{◌≡◌, Option, None, Some, Bor, option_map, refl, ap, sym, ◌∙◌}
use Rattle.json.specs.Json as json
use Rattle.json.specs.Find as found_in
use Rattle.json.specs.Value.{value_view, members_view}
use Rattle.json.specs.declared.value.Value.{Value}
use Rattle.json.proofs.Trees.{view-Object}
use Rattle.serde_json.specs.Find.{get}
use Rattle.drf_lines.specs.LineValue.{data_of, line_view}
use Rattle.drf_lines.proofs.LineValues.{get_seen}
use Rattle.drf_lines.proofs.object.find.Goals as goal

seen : {A : Type 0} (r : Option (Bor (Value A))) → option_map (λ v. line_view v.now) r ≡ option_map data_of (option_map (λ v. value_view v.now) r)
unfolding line_view
seen None = refl
seen (Some v) = refl

pub returns-in-Object : goal.returns-in-Object
unfolding line_view
returns-in-Object c =
    let key = c.args.key.now in
    let members = c.in-Object.members.items in
    seen _ ∙ ap (option_map data_of) (c.find_member.ensures ∙ ap (λ xs. found_in.get_member key (members_view xs)) c.deref.ensures.value)
    ∙ sym (get_seen key (json.object (members_view members)))
    ∙ sym (ap (λ v. get key (line_view v)) c.in-Object.is ∙ ap (λ j. get key (data_of j)) (view-Object c.in-Object.members))
