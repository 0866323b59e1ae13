use Rattle.std.proofs.Common.{◌≡◌, ◌-◌, [], ◌∷◌, ◌++◌, ℕ, List, drop, decimal, slice_set, length-set, ap, sym, ◌∙◌, append_assoc, arith}
use Rattle.std.proofs.lemmas.Fmt.{length-decimal-le}
use Rattle.std.proofs.lemmas.List.{drop-set, length-drop, take_all}
use Rattle.drf_lines.proofs.Appends.{appended}
use Rattle.drf_lines.proofs.ReplyTexts.{fraction_utf8}
use Rattle.drf_lines.proofs.fraction.put_short_fraction.Goals as goal

pub write_digits-slash-requires : goal.write_digits-slash-requires
write_digits-slash-requires c = omega (arith, length-decimal-le 20 c.args.whole (omega arith) (omega arith) (omega arith))

pub overflow_sub-slash : goal.overflow_sub-slash
overflow_sub-slash c = omega (arith, length-decimal-le 20 c.args.whole (omega arith) (omega arith) (omega arith))

pub write_digits-start-requires : goal.write_digits-start-requires
write_digits-start-requires c =
    omega (
      arith,
      length-decimal-le 20 c.args.whole (omega arith) (omega arith) (omega arith),
      length-decimal-le 20 c.args.part (omega arith) (omega arith) (omega arith),
      length-set c.write_digits-slash.new.buf (c.write_digits-slash.result - 1) 47,
      c.write_digits-slash.auto.buf,
    )

pub returns : goal.returns
returns c =
    let part = decimal c.args.part in
    let whole = decimal c.args.whole in
    let behind = c.write_digits-slash.result in
    let filled = c.write_digits-slash.new.buf in
    let start = c.write_digits-start.result in
    let text = c.write_digits-start.new.buf in
    let short = length-decimal-le 20 c.args.whole (omega arith) (omega arith) (omega arith) in
    let slashed : drop (behind - 1) (slice_set filled (behind - 1) 47) ≡ 47 ∷ drop behind filled =
    drop-set filled (behind - 1) 47 (omega (arith, short, c.write_digits-slash.auto.buf)) ∙ ap (λ n. 47 ∷ drop n filled) (omega (arith, short)) in
    let written : drop start text ≡ part ++ (47 ∷ whole ++ 34 ∷ []) =
    c.write_digits-start.ensures.written ∙ ap (λ (rest : List ℕ). part ++ rest) (slashed ∙ ap (λ (rest : List ℕ). 47 ∷ rest) c.write_digits-slash.ensures.written) in
    appended c.extend_from_slice.result c.args.line.now.items ((part ++ 47 ∷ whole) ++ 34 ∷ []) c.extend_from_slice.ensures.items
    (take_all _ (drop start text) (omega (arith, length-drop start text, c.write_digits-start.auto.buf)) ∙ written ∙ sym (append_assoc part (47 ∷ whole) (34 ∷ [])))
    (fraction_utf8 c.args.part c.args.whole (omega arith) (omega arith))
