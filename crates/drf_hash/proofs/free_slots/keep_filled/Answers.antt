use Rattle.std.proofs.Common.{is_some, rules, ◌∙◌}
use Rattle.std.proofs.lemmas.Fn.{filter_same}
use Rattle.drf_hash.proofs.FreeSlotLaws.{keep-some}
use Rattle.drf_hash.proofs.free_slots.keep_filled.Goals as goal

pub returns : goal.returns
returns g c = filter_same _ (λ s. is_some s) _ (λ x b f k. search rules) _ _ c.retain.ensures.filtered ∙ keep-some c.args.slots.now.items
