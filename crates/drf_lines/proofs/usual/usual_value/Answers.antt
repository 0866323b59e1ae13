use Rattle.std.proofs.Common.{IfSome, Some, refl, ap, subst, ◌∙◌, arith}
use Rattle.json.specs.Lex.{fresh}
use Rattle.json.specs.Value.{value_view}
use Rattle.drf_lines.specs.Usual.{IsValueAt}
use Rattle.drf_lines.proofs.UsualSteps.{nothing_behind}
use Rattle.drf_lines.proofs.usual.usual_value.Goals as goal

pub returns-in-Some-clause-found : goal.returns-in-Some-clause-found
returns-in-Some-clause-found c =
    let text = c.args.text.now in
    let found = subst (λ o. IfSome o (λ f. IsValueAt 127 text 0 (value_view f.0) f.1)) c.in-Some.is c.in_ok-next.ensures.found in
    found fresh refl ∙ ap (λ r. Some (value_view c.in-Some.found, r)) (nothing_behind text c.in-Some.next (omega arith))
