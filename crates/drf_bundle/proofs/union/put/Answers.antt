use Rattle.std.proofs.Common.{List, set, sym, ap, ◌∙◌, subst}
use Rattle.drf_bundle.specs.Bundle.{key_of, with_value}
use Rattle.drf_bundle.specs.KeyPlaces.{IsKeyAt, IsKeyFreeSlot}
use Rattle.drf_bundle.specs.declared.resource.Resource.{Resource}
use Rattle.drf_bundle.specs.declared.value.Value.{Value}
use Rattle.drf_bundle.proofs.SearchLemmas.{merged_at, small_at}
use Rattle.drf_bundle.proofs.union.put.Goals as goal

pub unite-requires : goal.unite-requires
unite-requires c =
    let rs = c.args.resources.now.items in
    let r = c.args.resource in
    let at : IsKeyAt rs (key_of r) c.in-Ok.at = subst (λ (l : List Resource). IsKeyAt l (key_of r) c.in-Ok.at) c.deref.ensures.value c.in-Ok.ensures.found in
    small_at rs c.args.sums.now r c.index_mut-had.result.now c.in-Ok.at c.requires.kept at c.index_mut-had.ensures.value c.requires.fits

pub returns-in_ok-add_scalar-in-Ok-clause-ok : goal.returns-in_ok-add_scalar-in-Ok-clause-ok
returns-in_ok-add_scalar-in-Ok-clause-ok c =
    let rs = c.args.resources.now.items in
    let r = c.args.resource in
    let had = c.index_mut-had.result.now in
    let at : IsKeyAt rs (key_of r) c.in-Ok.at = subst (λ (l : List Resource). IsKeyAt l (key_of r) c.in-Ok.at) c.deref.ensures.value c.in-Ok.ensures.found in (
      ap (λ (v : Value). set rs c.in-Ok.at (with_value had v)) c.in_ok-value-in-Ok.ensures ∙ sym (merged_at rs r had c.in-Ok.at c.requires.kept.bundle.in_order at c.index_mut-had.ensures.value),
      c.in_ok-add_scalar-in-Ok.ensures.ok,
    )

pub put_in_free_slot-requires-clause-free_slot : goal.put_in_free_slot-requires-clause-free_slot
put_in_free_slot-requires-clause-free_slot c =
    subst (λ (l : List Resource). IsKeyFreeSlot l (key_of c.args.resource) c.in-Err.at) c.deref.ensures.value c.in-Err.ensures.absent
