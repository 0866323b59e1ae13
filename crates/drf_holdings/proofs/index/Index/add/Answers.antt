use Rattle.std.proofs.Common.{◌≡◌, ◌∷◌, [], ◌++◌, cond, Some, None, is_some, sym, ap, ◌∙◌}
use Rattle.std.specs.VecDeque.{deque_items}
use Rattle.std.specs.Map.{lookup}
use Rattle.std.specs.Option.{option_copied_mut}
use Rattle.drf_role.specs.Text.{Text, same_text}
use Rattle.drf_holdings.proofs.Lists.{items_or, numbers_at, same_at, added_at, on_err}
use Rattle.drf_holdings.proofs.index.Index.add.Goals as goal

pub returns-in_err-push_back-clause-err : goal.returns-in_err-push_back-clause-err
returns-in_err-push_back-clause-err c =
    let name : Text = c.args.name.now in
    let old = c.args.self.now.lists.entries in
    let found : lookup (same_text name) old ≡ Some c.in-Some.numbers.now = sym c.get_mut.ensures.value ∙ ap option_copied_mut c.in-Some.is in
    let wrote = (c.get_mut.follows.holds c.push_back.new.self).3 (ap is_some found) in
    let kept : items_or deque_items (Some c.push_back.new.self) ≡ numbers_at deque_items old name = c.in_err-push_back.ensures.items ∙ sym (ap (items_or deque_items) found) in
    on_err _ _ (same_at deque_items old (c.get_mut.follows.lender c.push_back.new.self).entries name (Some c.push_back.new.self) wrote.0 kept)

pub returns-clause-ok : goal.returns-clause-ok
returns-clause-ok c =
    let name : Text = c.args.name.now in
    let old = c.args.self.now.lists.entries in
    let none : lookup (same_text name) old ≡ None = sym c.get_mut.ensures.value ∙ ap option_copied_mut c.in_default.is in
    let same = c.get_mut.follows.holds-at-none in
    let mid = c.make_room.new.self.lists.entries in
    let kept : (q : Text) → numbers_at deque_items mid q ≡ numbers_at deque_items old q = λ q. c.make_room.ensures q ∙ (λ i. numbers_at deque_items (same i).entries q) in
    let key : Text = c.in_ok-copy.field-0 in
    let copied : key ≡ name = c.in_ok-copy.ensures in
    let free : numbers_at deque_items mid key ≡ [] = (λ i. numbers_at deque_items mid (copied i)) ∙ kept name ∙ ap (items_or deque_items) none in
    let v = c.push_back_reserved.new.self in
    let pushed : items_or deque_items (Some v) ≡ numbers_at deque_items mid key ++ c.args.number ∷ [] =
    c.push_back_reserved.ensures.items ∙ ap (λ ns. ns ++ c.args.number ∷ []) (c.in_ok-numbers.ensures.items ∙ sym free) in
    let updates = c.in_ok-insert.ensures.updates in
    λ q. added_at deque_items mid c.insert.new.self.entries key (Some v) updates.0 c.args.number pushed q
    ∙ (λ i. kept q i ++ cond (same_text (copied i) q) (c.args.number ∷ []) [])
