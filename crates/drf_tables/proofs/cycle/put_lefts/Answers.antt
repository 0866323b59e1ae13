use Rattle.std.proofs.Common.{◌≡◌, ℕ, Option, Some, ◌∷◌, ◌<◌, List, length, map, slice_set, sym, ap, ◌∙◌, subst, arith}
use Rattle.std.specs.List.{AllByRecursion}
use Rattle.std.specs.Vec.Iter.{into_iter_items}
use Rattle.drf_tables.proofs.tables.Names.{Resource, agent_row, frees_in, known_after}
use Rattle.drf_tables.specs.declared.tables.Left.{Left}
use Rattle.drf_tables.proofs.registry.Known.{frees-free_at, length-free_at, rows-free_at}
use Rattle.drf_tables.proofs.cycle.put_lefts.Goals as goal

pub loop-left-preserved : goal.loop-left-preserved
loop-left-preserved c =
    let at = c.loop-left in
    let left : Left = c.in-Some.left in
    let rest : List Left = into_iter_items c.next.new.self in
    let split : into_iter_items at.left-iterator ≡ left ∷ rest = c.in-Some.ensures.steps.0 in
    record {
      rows = ap (map agent_row) c.set_free_at.ensures ∙ rows-free_at at.agents.entries left.agent c.new.result ∙ at.invariant.rows;
      places =
          let within : AllByRecursion (λ left. left.agent < length at.agents.entries) (left ∷ rest) =
          subst (AllByRecursion (λ (l : Left). l.agent < length at.agents.entries)) split at.invariant.places in
          subst (λ (n : ℕ). AllByRecursion (λ (l : Left). l.agent < n) rest)
          (sym (ap length c.set_free_at.ensures ∙ length-free_at at.agents.entries left.agent c.new.result)) within.1;
      free = ap (λ (frees : List (Option (List Resource))). known_after frees rest)
          (ap frees_in c.set_free_at.ensures ∙ frees-free_at at.agents.entries left.agent c.new.result ∙ ap (λ free. slice_set (frees_in at.agents.entries) left.agent (Some free)) c.new.ensures)
          ∙ sym (ap (known_after (frees_in at.agents.entries)) split) ∙ at.invariant.free;
      number =
          let was = at.invariant.number in
          let gone = c.in-Some.ensures.steps.1 in
          let short = ap length split in
          omega arith;
    }
