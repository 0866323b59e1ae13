use Rattle.std.proofs.Common.{◌≡◌, get_or, true, sym, ap, ◌∙◌, subst, arith, rules}
use Rattle.json.specs.Json.{Json}
use Rattle.json.specs.Value.{value_view}
use Rattle.json.specs.declared.value.Value.{String, Number, the_lemmas}
use Rattle.drf_lines.specs.Usual.{is_end, IsValueAt}
use Rattle.drf_lines.proofs.UsualSteps.{string_value, number_value}
use Rattle.drf_lines.proofs.usual.leaf_at.Goals as goal

pub returns-then-byte_at-ne34-clause-found : goal.returns-then-byte_at-ne34-clause-found
returns-then-byte_at-ne34-clause-found c depth =
    let seen : value_view (Number c.in_ok-number.number) ≡ Json.number c.in_ok-number.number.now = search (rules, the_lemmas) in
    subst (λ j. IsValueAt depth c.args.text.now c.args.at j c.in_ok-number.next) (sym seen) (number_value c.args.text.now c.args.at c.in_ok-number.next _ c.in_ok-number.ensures.found depth)

pub returns-clause-found : goal.returns-clause-found
returns-clause-found c depth =
    let text = c.args.text.now in
    let next = c.in_ok-found.next in
    let byte : get_or text next 32 ≡ c.byte_at-2.result = omega (arith, c.byte_at-2.ensures, ap (λ t. get_or t next 32) c.as_bytes-2.ensures.value) in
    let ended : is_end (get_or text next 32) ≡ true = ap is_end byte ∙ sym c.is_end.ensures ∙ c.if-not-is_end.false in
    let seen : value_view (String c.in_ok-found.found) ≡ Json.string c.in_ok-found.found.now = search (rules, the_lemmas) in
    subst (λ j. IsValueAt depth text c.args.at j next) (sym seen) (string_value text c.args.at next _ c.in_ok-found.ensures.found ended depth)
