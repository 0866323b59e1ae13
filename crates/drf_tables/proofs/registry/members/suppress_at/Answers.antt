use Rattle.std.proofs.Common.{◌≡◌, ◌+◌, true, false, sym, ap, ◌∙◌, refl, get_or, set, if◌then◌else◌}
use Rattle.drf_tables.proofs.tables.Names.{same_path, ClientRow}
use Rattle.drf_tables.proofs.cycle.Counted.{map_next}
use Rattle.drf_tables.proofs.registry.members.suppress_at.Goals as goal
use Rattle.drf_tables.proofs.registry.members.suppress_at.Goals.{then-eq, else-eq}

pub loop-client-preserved : goal.loop-client-preserved
loop-client-preserved c =
    let at = c.loop-client in
    let change : ClientRow → ClientRow =
    λ (r : ClientRow). if same_path r.role c.args.role.now then record r { suppressed = c.args.suppressed } else r in
    let here : ClientRow = get_or at.clients at.client-index c.client-item.result in
    let next =
    map_next change c.args.clients.now at.clients at.client-index (at.client-index + 1) c.client-item.result
    refl c.loop-client-test.true at.invariant in
    elim c.if-eq.branch [
      | then-eq w ↦
          let test : same_path here.role c.args.role.now ≡ true = sym c.eq.ensures ∙ w.if-eq.true in
          let changed : change here ≡ record here { suppressed = c.args.suppressed } =
          ap (λ b. if b then record here { suppressed = c.args.suppressed } else here) test in
          w.clients-is ∙ ap (set at.clients at.client-index) (sym changed) ∙ next
      | else-eq w ↦
          let test : same_path here.role c.args.role.now ≡ false = sym c.eq.ensures ∙ w.if-eq.false in
          let changed : change here ≡ here = ap (λ b. if b then record here { suppressed = c.args.suppressed } else here) test in
          w.clients-is ∙ ap (set at.clients at.client-index) (sym changed) ∙ next
    ]
