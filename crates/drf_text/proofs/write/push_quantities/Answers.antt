use Rattle.std.proofs.Common.{All, ap, subst, ◌∙◌, ◌++◌, List, ℕ, string_bytes, take_all}
use Rattle.std.proofs.lemmas.List.Elements.{All-more}
use Rattle.drf_text.proofs.Names.{IsEntry, quantity_text}
use Rattle.drf_text.proofs.Joined.{mapped_more}
use Rattle.drf_text.proofs.QuantityText.{quantities_read}
use Rattle.drf_text.proofs.write.push_quantities.Goals as goal

pub loop-i-preserved : goal.loop-i-preserved
loop-i-preserved c =
    let entries = c.entries-entries.result.now in
    let e = c.index-entries-i.result in
    let inside = c.loop-i-test.true in
    let so_far = c.loop-i.invariant in (
      mapped_more quantity_text (string_bytes c.args.text.now) 59 entries c.loop-i.i e (string_bytes c.loop-i.text) (string_bytes c.push_quantity.new.text) inside c.index-entries-i.is so_far.0
          (c.in_ok-push_quantity.ensures.text ∙ ap (λ (b : List ℕ). b ++ quantity_text e) c.in_ok-push_separator.ensures),
      All-more IsEntry entries c.loop-i.i e inside so_far.1 (subst IsEntry c.index-entries-i.is c.in_ok-push_quantity.ensures.entry),
    )

pub returns-clause-read : goal.returns-clause-read
returns-clause-read c =
    let entries : All IsEntry c.args.quantities.now =
    subst (All IsEntry) (take_all c.loop-i.i c.entries-entries.result.now c.loop-i-test.false ∙ c.entries-entries.ensures.value) c.loop-i.invariant.1 in
    quantities_read c.args.quantities.now c.entries-entries.ensures.in_order entries
