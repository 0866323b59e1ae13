use Rattle.std.proofs.Common.{◌≡◌, ◌++◌, [], length, sym, ◌∙◌, ap, arith}
use Rattle.std.proofs.lemmas.List.{at_drop_all}
use Rattle.drf_role.proofs.SpanLemmas.{spans_at, spans_at-start}
use Rattle.drf_role.proofs.joined.Joined.spans.Goals as goal

pub returns : goal.returns
returns c =
    let text = c.args.text.now in
    let at_end : length text ≡ c.loop-i.i = omega arith in
    c.in_ok-push-2.ensures.ok
    ∙ ap (λ end. c.loop-i.spans.items ++ spans_at c.loop-i.start end []) at_end
    ∙ ap (λ rest. c.loop-i.spans.items ++ rest) (sym (at_drop_all (spans_at c.loop-i.start c.loop-i.i) text c.loop-i.i (omega arith)))
    ∙ c.loop-i.invariant.0
    ∙ spans_at-start text
