use Rattle.std.proofs.Common.{◌≡◌, ◌+◌, true, false, sym, ap, ◌∙◌, refl, get_or, set}
use Rattle.drf_tables.proofs.tables.Names.{same_path, Client, counted, holding_of_offer, ClientRow}
use Rattle.drf_tables.proofs.cycle.Counted.{map_next, counted_here, counted_other}
use Rattle.drf_tables.proofs.cycle.count_at.Goals as goal
use Rattle.drf_tables.proofs.cycle.count_at.Goals.{then-eq, else-eq}

pub loop-client-preserved : goal.loop-client-preserved
loop-client-preserved c =
    let at = c.loop-client in
    let client : Client = (holding_of_offer c.args.offer.now).client in
    let here : ClientRow = get_or at.clients at.client-index c.client-item.result in
    let next =
    map_next (counted client) c.args.clients.now at.clients at.client-index (at.client-index + 1) c.client-item.result
    refl c.loop-client-test.true at.invariant in
    elim c.if-eq.branch [
      | then-eq w ↦
          let test : same_path here.role client.role ≡ true = sym c.eq.ensures ∙ w.if-eq.true in
          w.clients-is ∙ ap (set at.clients at.client-index) (sym (counted_here client here test)) ∙ next
      | else-eq w ↦
          let test : same_path here.role client.role ≡ false = sym c.eq.ensures ∙ w.if-eq.false in
          w.clients-is ∙ ap (set at.clients at.client-index) (sym (counted_other client here test)) ∙ next
    ]
