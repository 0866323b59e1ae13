use Rattle.std.proofs.Common.{◌≡◌, [], ◌==◌, ℕ, not, filter, Some, None, is_some, refl, sym, ap, subst, ◌∙◌}
use Rattle.std.specs.VecDeque.{deque_items}
use Rattle.std.specs.Map.{lookup}
use Rattle.std.specs.Option.{option_copied_mut}
use Rattle.drf_role.specs.Text.{Text, same_text}
use Rattle.drf_holdings.specs.Rising.{IsRising}
use Rattle.drf_holdings.proofs.Lists.{items_or, changed_at, taken_out}
use Rattle.drf_holdings.proofs.index.Index.remove.Goals as goal

pub returns-then-is_spent : goal.returns-then-is_spent
returns-then-is_spent c rising =
    let name : Text = c.args.name.now in
    let old = c.args.self.now.lists.entries in
    let found : lookup (same_text name) old ≡ Some c.in-Some.numbers.now = sym c.get_mut.ensures.value ∙ ap option_copied_mut c.in-Some.is in
    let w = c.take_out.new.numbers in
    let wrote = (c.get_mut.follows.holds w).3 (ap is_some found) in
    let kept = c.take_out.ensures (subst (λ o. IsRising (items_or deque_items o)) found rising) in
    let empty : w.items ≡ [] = c.if-is_spent.ensures refl in
    let updates = c.swap_remove.ensures.updates in
    let out = taken_out deque_items old (c.get_mut.follows.lender w).entries c.swap_remove.new.self.entries name (Some w) wrote.0 updates.0 in
    changed_at deque_items old c.swap_remove.new.self.entries name None out (filter (λ (m : ℕ). not (m == c.args.number)))
    (sym empty ∙ kept ∙ ap (λ o. filter (λ (m : ℕ). not (m == c.args.number)) (items_or deque_items o)) (sym found))

pub returns-else-is_spent : goal.returns-else-is_spent
returns-else-is_spent c rising =
    let name : Text = c.args.name.now in
    let old = c.args.self.now.lists.entries in
    let found : lookup (same_text name) old ≡ Some c.in-Some.numbers.now = sym c.get_mut.ensures.value ∙ ap option_copied_mut c.in-Some.is in
    let w = c.take_out.new.numbers in
    let wrote = (c.get_mut.follows.holds w).3 (ap is_some found) in
    let kept = c.take_out.ensures (subst (λ o. IsRising (items_or deque_items o)) found rising) in
    changed_at deque_items old (c.get_mut.follows.lender w).entries name (Some w) wrote.0 (filter (λ (m : ℕ). not (m == c.args.number)))
    (kept ∙ ap (λ o. filter (λ (m : ℕ). not (m == c.args.number)) (items_or deque_items o)) (sym found))
