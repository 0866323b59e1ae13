use Rattle.std.proofs.Common.{◌≡◌, ◌+◌, ◌-◌, ◌<◌, length, [], ◌∷◌, ◌++◌, get_or, true, IfSome, refl, sym, ap, subst, arith, rules}
use Rattle.json.specs.Lex.{fresh, after_comma}
use Rattle.json.specs.Value.{value_view, items_view, members_view}
use Rattle.json.proofs.Trees.{view-Array, view-Object}
use Rattle.drf_lines.specs.LineValue.{is_in_range, items_in_range, members_in_range}
use Rattle.drf_lines.specs.Usual.{tokens_from, IsValueAt, AreItemsAt, AreMembersAt}
use Rattle.drf_lines.proofs.Ranges.{items_one_more, members_one_more}
use Rattle.drf_lines.proofs.UsualSteps.{HasItems, HasMembers, no_items_yet, no_members_yet, item_turn, member_turn, items_go_on, members_go_on, items_done, members_done, object_value, array_value}
use Rattle.drf_lines.proofs.usual.+value_at.Goals as goal

pub items_at-loop-at-init : goal.items_at-loop-at-init
items_at-loop-at-init t c =
    let text = c.args.text.now in (
      fresh,
      refl,
      length (tokens_from fresh text c.args.from),
      no_items_yet c.args.depth text c.args.from _ c.new-found.ensures.items,
      omega arith,
      ap (λ vs. items_in_range (items_view vs)) c.new-found.ensures.items,
    )

pub items_at-loop-at-preserved : goal.items_at-loop-at-preserved
items_at-loop-at-preserved t c =
    let text = c.args.text.now in
    let l = c.loop-at in
    let next = c.in-Some.next in
    let found = subst (λ o. IfSome o (λ f. IsValueAt c.args.depth text l.at (value_view f.0) f.1)) c.in-Some.is c.in_ok-item.ensures.found in
    let order = subst (λ o. IfSome o (λ f. l.at < f.1)) c.in-Some.is c.in_ok-item.ensures.order in
    let range = subst (λ o. IfSome o (λ f. is_in_range (value_view f.0) ≡ true)) c.in-Some.is c.in_ok-item.ensures.range in
    let pushed : c.push.new.self.items ≡ l.found.items ++ c.in-Some.item ∷ [] = search rules in
    let comma : get_or text next 32 ≡ 44 = omega (arith, c.byte_at.ensures, c.in-44.is, ap (λ t. get_or t next 32) c.as_bytes.ensures.value) in
    let turn = item_turn c.args.depth text c.args.from l.invariant.2 l.at next l.invariant.0 l.found.items c.in-Some.item l.invariant.1 l.invariant.3 found in (
      after_comma,
      refl,
      l.invariant.2 - 1,
      subst (λ vs. HasItems c.args.depth text c.args.from vs after_comma (next + 1) (l.invariant.2 - 1)) (sym pushed) (items_go_on c.args.depth text c.args.from _ next _ comma turn),
      omega (arith, l.invariant.4, order),
      subst (λ vs. items_in_range (items_view vs) ≡ true) (sym pushed) (items_one_more l.found.items c.in-Some.item l.invariant.5 range),
    )

pub items_at-returns-in-93-clause-found : goal.items_at-returns-in-93-clause-found
items_at-returns-in-93-clause-found t c =
    let text = c.args.text.now in
    let l = c.loop-at in
    let next = c.in-Some.next in
    let found = subst (λ o. IfSome o (λ f. IsValueAt c.args.depth text l.at (value_view f.0) f.1)) c.in-Some.is c.in_ok-item.ensures.found in
    let pushed : c.push.new.self.items ≡ l.found.items ++ c.in-Some.item ∷ [] = search rules in
    let bracket : get_or text next 32 ≡ 93 = omega (arith, c.byte_at.ensures, c.in-93.is, ap (λ t. get_or t next 32) c.as_bytes.ensures.value) in
    let turn = item_turn c.args.depth text c.args.from l.invariant.2 l.at next l.invariant.0 l.found.items c.in-Some.item l.invariant.1 l.invariant.3 found in
    subst (λ vs. AreItemsAt c.args.depth text c.args.from (items_view vs) (next + 1)) (sym pushed) (items_done c.args.depth text c.args.from _ next _ bracket turn)

pub items_at-returns-in-93-clause-range : goal.items_at-returns-in-93-clause-range
items_at-returns-in-93-clause-range t c =
    let l = c.loop-at in
    let range = subst (λ o. IfSome o (λ f. is_in_range (value_view f.0) ≡ true)) c.in-Some.is c.in_ok-item.ensures.range in
    let pushed : c.push.new.self.items ≡ l.found.items ++ c.in-Some.item ∷ [] = search rules in
    subst (λ vs. items_in_range (items_view vs) ≡ true) (sym pushed) (items_one_more l.found.items c.in-Some.item l.invariant.5 range)

pub members_at-loop-at-init : goal.members_at-loop-at-init
members_at-loop-at-init t c =
    let text = c.args.text.now in (
      fresh,
      refl,
      length (tokens_from fresh text c.args.from),
      no_members_yet c.args.depth text c.args.from _ c.in_ok-found.ensures.items,
      omega arith,
      ap (λ ms. members_in_range (members_view ms)) c.in_ok-found.ensures.items,
    )

pub members_at-loop-at-preserved : goal.members_at-loop-at-preserved
members_at-loop-at-preserved t c =
    let text = c.args.text.now in
    let l = c.loop-at in
    let next = c.in-Some-2.next in
    let found = subst (λ o. IfSome o (λ f. IsValueAt c.args.depth text c.in-Some.begin (value_view f.0) f.1)) c.in-Some-2.is c.in_ok-member.ensures.found in
    let order = subst (λ o. IfSome o (λ f. c.in-Some.begin < f.1)) c.in-Some-2.is c.in_ok-member.ensures.order in
    let range = subst (λ o. IfSome o (λ f. is_in_range (value_view f.0) ≡ true)) c.in-Some-2.is c.in_ok-member.ensures.range in
    let pushed : c.push.new.self.items ≡ l.found.items ++ (c.in-Some.key, c.in-Some-2.member) ∷ [] = search rules in
    let comma : get_or text next 32 ≡ 44 = omega (arith, c.byte_at.ensures, c.in-44.is, ap (λ t. get_or t next 32) c.as_bytes.ensures.value) in
    let turn = member_turn c.args.depth text c.args.from l.invariant.2 l.at c.in-Some.begin next l.invariant.0 l.found.items c.in-Some.key c.in-Some-2.member l.invariant.1 l.invariant.3 c.in-Some.ensures.found found in (
      after_comma,
      refl,
      l.invariant.2 - 1,
      subst (λ ms. HasMembers c.args.depth text c.args.from ms after_comma (next + 1) (l.invariant.2 - 1)) (sym pushed) (members_go_on c.args.depth text c.args.from _ next _ comma turn),
      omega (arith, l.invariant.4, order, c.in-Some.ensures.order),
      subst (λ ms. members_in_range (members_view ms) ≡ true) (sym pushed) (members_one_more l.found.items (c.in-Some.key, c.in-Some-2.member) l.invariant.5 range),
    )

pub members_at-returns-in-125-clause-found : goal.members_at-returns-in-125-clause-found
members_at-returns-in-125-clause-found t c =
    let text = c.args.text.now in
    let l = c.loop-at in
    let next = c.in-Some-2.next in
    let found = subst (λ o. IfSome o (λ f. IsValueAt c.args.depth text c.in-Some.begin (value_view f.0) f.1)) c.in-Some-2.is c.in_ok-member.ensures.found in
    let pushed : c.push.new.self.items ≡ l.found.items ++ (c.in-Some.key, c.in-Some-2.member) ∷ [] = search rules in
    let brace : get_or text next 32 ≡ 125 = omega (arith, c.byte_at.ensures, c.in-125.is, ap (λ t. get_or t next 32) c.as_bytes.ensures.value) in
    let turn = member_turn c.args.depth text c.args.from l.invariant.2 l.at c.in-Some.begin next l.invariant.0 l.found.items c.in-Some.key c.in-Some-2.member l.invariant.1 l.invariant.3 c.in-Some.ensures.found found in
    subst (λ ms. AreMembersAt c.args.depth text c.args.from (members_view ms) (next + 1)) (sym pushed) (members_done c.args.depth text c.args.from _ next _ brace turn)

pub members_at-returns-in-125-clause-range : goal.members_at-returns-in-125-clause-range
members_at-returns-in-125-clause-range t c =
    let l = c.loop-at in
    let range = subst (λ o. IfSome o (λ f. is_in_range (value_view f.0) ≡ true)) c.in-Some-2.is c.in_ok-member.ensures.range in
    let pushed : c.push.new.self.items ≡ l.found.items ++ (c.in-Some.key, c.in-Some-2.member) ∷ [] = search rules in
    subst (λ ms. members_in_range (members_view ms) ≡ true) (sym pushed) (members_one_more l.found.items (c.in-Some.key, c.in-Some-2.member) l.invariant.5 range)

pub value_at-returns-in-Some-clause-found : goal.value_at-returns-in-Some-clause-found
value_at-returns-in-Some-clause-found t c =
    let text = c.args.text.now in
    let at = c.args.at in
    let brace : get_or text at 32 ≡ 123 = omega (arith, c.byte_at.ensures, c.in-123.is, ap (λ t. get_or t at 32) c.as_bytes.ensures.value) in
    let found = subst (λ o. IfSome o (λ f. AreMembersAt (c.args.depth - 1) text (at + 1) (members_view f.0.items) f.1)) c.in-Some.is c.in_ok-members-in-123.ensures.found in
    subst (λ j. IsValueAt c.args.depth text at j c.in-Some.next) (sym (view-Object c.in-Some.members)) (object_value text at c.in-Some.next c.args.depth _ brace (omega arith) found)

pub value_at-returns-in-Some-2-clause-found : goal.value_at-returns-in-Some-2-clause-found
value_at-returns-in-Some-2-clause-found t c =
    let text = c.args.text.now in
    let at = c.args.at in
    let bracket : get_or text at 32 ≡ 91 = omega (arith, c.byte_at.ensures, c.in-91.is, ap (λ t. get_or t at 32) c.as_bytes.ensures.value) in
    let found = subst (λ o. IfSome o (λ f. AreItemsAt (c.args.depth - 1) text (at + 1) (items_view f.0.items) f.1)) c.in-Some-2.is c.in_ok-items-in-91.ensures.found in
    subst (λ j. IsValueAt c.args.depth text at j c.in-Some-2.next) (sym (view-Array c.in-Some-2.items)) (array_value text at c.in-Some-2.next c.args.depth _ bracket (omega arith) found)

pub value_at-returns-in-Some-clause-range : goal.value_at-returns-in-Some-clause-range
value_at-returns-in-Some-clause-range t c =
    let range = subst (λ o. IfSome o (λ f. members_in_range (members_view f.0.items) ≡ true)) c.in-Some.is c.in_ok-members-in-123.ensures.range in
    subst (λ j. is_in_range j ≡ true) (sym (view-Object c.in-Some.members)) range

pub value_at-returns-in-Some-2-clause-range : goal.value_at-returns-in-Some-2-clause-range
value_at-returns-in-Some-2-clause-range t c =
    let range = subst (λ o. IfSome o (λ f. items_in_range (items_view f.0.items) ≡ true)) c.in-Some-2.is c.in_ok-items-in-91.ensures.range in
    subst (λ j. is_in_range j ≡ true) (sym (view-Array c.in-Some-2.items)) range
