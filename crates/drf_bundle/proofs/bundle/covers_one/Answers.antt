use Rattle.std.proofs.Common.{◌≡◌, Option, Some, false, sym, ap, ◌∙◌}
use Rattle.std.specs.Option.{option_map_or}
use Rattle.drf_bundle.specs.Bundle.{key_of, value_at}
use Rattle.drf_bundle.specs.Value.{has_all_of}
use Rattle.drf_bundle.specs.declared.value.Value.{Value}
use Rattle.drf_bundle.proofs.SearchLemmas.{found_value, key_here}
use Rattle.drf_bundle.proofs.bundle.covers_one.Goals as goal

pub returns-then-is_same_role : goal.returns-then-is_same_role
returns-then-is_same_role c =
    let whole = c.args.whole.now in
    let likely = c.in-Some.likely.now in
    let part = c.args.resource.now in
    let there = c.in-Some.ensures.lookup.3 in
    let here = key_here whole c.args.hint likely part.label part.role there.0 there.1 (sym c.if-eq.ensures) (sym c.is_same_role.ensures ∙ c.if-is_same_role.true) in
    let value : Some likely.value ≡ value_at whole (key_of part) = found_value whole (key_of part) c.requires c.args.hint likely here (there.1 likely) in
    c.covers.ensures ∙ ap (λ (v : Option Value). option_map_or (λ v. has_all_of v part.value) v false) value
