use Rattle.std.proofs.Common.{◌++◌, ◌∷◌, [], ap, ◌∙◌}
use Rattle.json.specs.Print.{print}
use Rattle.serde_json.proofs.Texts.{print-outline}
use Rattle.drf_audit.specs.AuditText.{audit_value, audit_text}
use Rattle.drf_audit.proofs.Lines.{IsText, next}
use Rattle.drf_audit.proofs.line.line_text.Goals as goal

pub returns : goal.returns
unfolding audit_text
returns c =
    let opened : IsText c.new-out.result [] = record { before = c.new-out.ensures.before ∙ c.new.ensures.items; all = c.new-out.ensures.tokens } in
    let reported = rw (c.text.ensures.text, c.as_str.ensures.value, c.in_ok-free.ensures, c.as_str-2.ensures.value, c.in_ok-total.ensures) at
    (next (next (next (next (next (next (next (next (next (next opened
    c.in_ok-begin_object.ensures) c.in_ok-key.ensures) c.in_ok-string.ensures) c.in_ok-key-2.ensures) c.in_ok-string-2.ensures)
    c.in_ok-key-3.ensures) c.in_ok-u64.ensures) c.in_ok-key-4.ensures) c.in_ok-string-3.ensures) c.in_ok-end_object.ensures) in
    c.in_ok-push.ensures.items
    ∙ ap (λ text. text ++ 10 ∷ []) (c.into_inner-text.ensures.items ∙ (λ i. reported.before i ++ print (reported.all i)) ∙ print-outline (audit_value c.args.line.now))
