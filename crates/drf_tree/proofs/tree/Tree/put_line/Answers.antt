use Rattle.std.proofs.Common.{◌≡◌, ◌∙◌, true, ap, arith, option_copied, refl, subst, sym, List}
use Rattle.std.specs.List.{AllByRecursion}
use Rattle.std.proofs.lemmas.Bool.{false≢true}
use Rattle.std.proofs.lemmas.Result.{on_ok_weaker}
use Rattle.drf_tree.proofs.Names.{Path, ledger_content, path_at, IsSumOf}
use Rattle.drf_rows.specs.declared.report.NodeLine.{NodeLine}
use Rattle.drf_sorter.proofs.theorems.LineLaws.{each-with, has_line-new, has_line-others}
use Rattle.drf_sorter.specs.Lines.{IsLineOf, has_line, line_with, with_line}
use Rattle.drf_tree.proofs.lines.Nodes.{line_is, live_place, path_place}
use Rattle.drf_tree.proofs.keys.Renew.{weighs_within}
use Rattle.drf_tree.proofs.sums.Share.{held_within, nobody, sum_is}
use Rattle.drf_tree.proofs.tree.Tree.put_line.Goals.{After-sum-sum}
use Rattle.drf_tree.proofs.tree.Tree.put_line.Goals as goal

pub returns-then-sum-eq0-clause-put : goal.returns-then-sum-eq0-clause-put
returns-then-sum-eq0-clause-put c live has =
    absurd (false≢true (sym (nobody (ledger_content c.args.ledger.now) c.args.self.now c.requires.tree c.args.node
    (path_at c.args.self.now.places.items c.args.node) live refl
    c.sum-sum.result.now c.sum-sum.ensures c.if-sum-eq0.true) ∙ has))

pub node_line-requires-clause-within : goal.node_line-requires-clause-within
node_line-requires-clause-within c label =
    let at = sym c.place.ensures ∙ ap option_copied c.in-Some.is in
    let content = ledger_content c.args.ledger.now in
    let tree = c.args.self.now in
    let within = held_within content tree c.requires.tree c.args.node c.in-Some.place.now.path
    (live_place content tree c.requires.tree c.args.node c.in-Some.place.now at)
    (path_place content tree c.requires.tree c.args.node c.in-Some.place.now at) c.sum-sum.result.now c.sum-sum.ensures
    c.requires.sound label in
    rw (c.in_ok-held.ensures label, c.total.ensures) within

is_at : (c : After-sum-sum) → IsSumOf (ledger_content c.args.ledger.now) c.in-Some.place.now.path c.sum-sum.result.now
is_at c =
    let at = sym c.place.ensures ∙ ap option_copied c.in-Some.is in
    let content = ledger_content c.args.ledger.now in
    sum_is content c.args.self.now c.requires.tree c.args.node c.in-Some.place.now.path
    (live_place content c.args.self.now c.requires.tree c.args.node c.in-Some.place.now at)
    (path_place content c.args.self.now c.requires.tree c.args.node c.in-Some.place.now at) c.sum-sum.result.now c.sum-sum.ensures

pub node_line-requires-clause-weighs : goal.node_line-requires-clause-weighs
node_line-requires-clause-weighs c =
    let is = is_at (goal.at.node_line-requires-clause-weighs c).After-sum-sum in
    omega (arith, is.weight, (weighs_within c.args.ledger.now c.in-Some.place.now.path).0)

pub node_line-requires-clause-light : goal.node_line-requires-clause-light
node_line-requires-clause-light c =
    let is = is_at (goal.at.node_line-requires-clause-light c).After-sum-sum in
    omega (arith, is.weight, (weighs_within c.args.ledger.now c.in-Some.place.now.path).1)

pub returns-clause-each : goal.returns-clause-each
returns-clause-each c =
    let at = sym c.place.ensures ∙ ap option_copied c.in-Some.is in
    let content = ledger_content c.args.ledger.now in
    let sum = c.sum-sum.result.now in
    let held = c.in_ok-held.held in
    let same = c.node_line.ensures.line
    ∙ (λ i. line_with (c.total.ensures i) sum.weight (c.in_ok-path.ensures i) held sum.count) in
    let reported : IsLineOf content c.node_line.result =
    subst (IsLineOf content) (sym same)
    (line_is content c.args.self.now c.requires.tree c.args.node c.in-Some.place.now at sum held c.sum-sum.ensures
    (omega (arith, c.if-sum-eq0.false)) c.node_line.ensures.in_order c.in_ok-held.ensures) in
    on_ok_weaker c.put.result
    (λ new. subst (AllByRecursion (IsLineOf content)) (sym new)
    (each-with (IsLineOf content) c.args.lines.now c.node_line.result c.requires.each reported))
    c.put.ensures.ok

pub returns-clause-stay : goal.returns-clause-stay
returns-clause-stay c =
    on_ok_weaker c.put.result
    (λ new path had. subst (λ (ls : List NodeLine). has_line ls path ≡ true) (sym new)
    (has_line-others c.args.lines.now c.node_line.result path had))
    c.put.ensures.ok

pub returns-clause-put : goal.returns-clause-put
returns-clause-put c =
    let at = sym c.place.ensures ∙ ap option_copied c.in-Some.is in
    let content = ledger_content c.args.ledger.now in
    let place = c.in-Some.place.now in
    let path = path_place content c.args.self.now c.requires.tree c.args.node place at in
    let same : c.node_line.result.path ≡ place.path = ap (λ (l : NodeLine). l.path) c.node_line.ensures.line ∙ c.in_ok-path.ensures in
    on_ok_weaker c.put.result
    (λ new live has. subst (λ (ls : List NodeLine). has_line ls (path_at c.args.self.now.places.items c.args.node) ≡ true) (sym new)
    (subst (λ (p : Path). has_line (with_line c.args.lines.now c.node_line.result) p ≡ true) (same ∙ sym path)
    (has_line-new c.args.lines.now c.node_line.result)))
    c.put.ensures.ok
