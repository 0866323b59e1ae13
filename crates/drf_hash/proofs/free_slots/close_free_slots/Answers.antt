use Rattle.std.proofs.Common.{◌≡◌, List, ℕ, map, get_or, ap, ◌∙◌}
use Rattle.drf_hash.specs.Slots.{ranks_of}
use Rattle.drf_hash.proofs.free_slots.close_free_slots.Goals as goal

pub returns-clause-places : goal.returns-clause-places
returns-clause-places g c =
    let ranks : c.deref-2.result.now ≡ ranks_of 0 c.args.slots.now.items =
    c.deref-2.ensures.value ∙ c.in_ok-ranks.ensures ∙ ap (ranks_of 0) c.deref.ensures.value in
    c.move_all.ensures ∙ ap (λ (ks : List ℕ). map (λ e. (e.0, get_or ks e.1 0)) c.args.places.now.entries) ranks
