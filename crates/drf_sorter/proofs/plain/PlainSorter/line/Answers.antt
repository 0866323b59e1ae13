use Rattle.std.proofs.Common.{◌≡◌, ◌∙◌, arith, subst, sym, ap, List}
use Rattle.drf_role.specs.Text.{Text}
use Rattle.drf_bundle.specs.Quantities.{amount_of}
use Rattle.drf_sorter.specs.declared.client.Client.{Client}
use Rattle.drf_sorter.proofs.theorems.LineLaws.{IsLineOf-with}
use Rattle.drf_sorter.specs.Lines.{IsLineOf}
use Rattle.drf_sorter.specs.Plain.{count_by, held_by, plain_content}
use Rattle.drf_sorter.proofs.PlainLemmas.{count-fits, count-standing, held-standing, held-within, weight-standing}
use Rattle.drf_sorter.proofs.plain.PlainSorter.line.Goals as goal

pub held-requires : goal.held-requires
held-requires c label =
    rw c.deref.ensures.value
    (omega (arith, held-within c.args.self.now c.requires.sound c.args.node label, c.requires.sound.total label))

pub count-count-requires : goal.count-count-requires
count-count-requires c = rw c.deref.ensures.value (count-fits c.args.self.now c.requires.sound c.args.node)

pub node_line-requires-clause-within : goal.node_line-requires-clause-within
node_line-requires-clause-within c label =
    let is = c.in_ok-held.ensures label ∙ ap (λ (clients : List Client). held_by clients c.args.node label) c.deref.ensures.value in
    omega (arith, is, held-within c.args.self.now c.requires.sound c.args.node label)

pub returns-clause-line : goal.returns-clause-line
returns-clause-line c =
    let s = c.args.self.now in
    let node = c.args.node in
    let amounts : (label : Text) → amount_of c.in_ok-held.held label ≡ held_by s.clients.items node label =
    λ label. c.in_ok-held.ensures label ∙ ap (λ (clients : List Client). held_by clients node label) c.deref.ensures.value in
    subst (IsLineOf (plain_content s)) (sym c.node_line.ensures.line)
    (IsLineOf-with (plain_content s) c.of.result node c.in_ok-held.held c.count-count.result
    (omega (arith, c.len.ensures.len, c.len.ensures.some)) c.requires.clients c.node_line.ensures.in_order
    (λ label. amounts label ∙ held-standing s node label)
    (c.count-count.ensures ∙ ap (λ (clients : List Client). count_by clients node) c.deref.ensures.value ∙ count-standing s node)
    (c.of.ensures.value ∙ weight-standing s node))
