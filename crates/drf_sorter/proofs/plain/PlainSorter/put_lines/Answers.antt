use Rattle.std.proofs.Common.{◌≡◌, ◌+◌, ◌∙◌, arith, subst, sym, take, true, List}
use Rattle.std.specs.List.{AllByRecursion}
use Rattle.drf_role.specs.Path.{Path}
use Rattle.drf_rows.specs.declared.report.NodeLine.{NodeLine}
use Rattle.drf_sorter.specs.Content.{has_node}
use Rattle.drf_sorter.proofs.theorems.LineLaws.{each-with, has_line-others}
use Rattle.drf_sorter.specs.Lines.{IsLineOf, has_line}
use Rattle.drf_sorter.specs.Plain.{plain_content}
use Rattle.drf_sorter.proofs.LineLemmas.{prefixes-more, has_line-prefixes, has_node-prefix}
use Rattle.drf_sorter.proofs.plain.PlainSorter.put_lines.Goals as goal

pub line-requires-clause-clients : goal.line-requires-clause-clients
line-requires-clause-clients c =
    let content = plain_content c.args.self.now in
    subst (λ (n : Path). has_node content n ≡ true) (sym c.in_ok-node.ensures)
    (has_node-prefix content c.args.path.now (c.loop-i.i + 1) c.requires.client)

pub loop-i-preserved : goal.loop-i-preserved
loop-i-preserved c =
    let content = plain_content c.args.self.now in
    let old = c.loop-i.lines in
    let line = c.in_ok-line.field-0 in
    let new = sym c.in_ok-put.ensures.ok in
    record {
      each = subst (AllByRecursion (IsLineOf content)) new
          (each-with (IsLineOf content) old line c.loop-i.invariant.each c.in_ok-line.ensures.line);
      stay = λ node had.
          subst (λ (ls : List NodeLine). has_line ls node ≡ true) new
          (has_line-others old line node (c.loop-i.invariant.stay node had));
      put = λ k some within.
          subst (λ (ls : List NodeLine). has_line ls (take k c.args.path.now) ≡ true) new
          (prefixes-more old line c.args.path.now c.loop-i.i (c.in_ok-line.ensures.path ∙ c.in_ok-node.ensures)
          c.loop-i.invariant.put k some within);
    }

pub returns-clause-put : goal.returns-clause-put
returns-clause-put c node some begins =
    has_line-prefixes c.loop-i.lines c.args.path.now node some begins
    (λ k first within. c.loop-i.invariant.put k first (omega (arith, within, c.len-i-end.ensures.len, c.loop-i-test.false)))
