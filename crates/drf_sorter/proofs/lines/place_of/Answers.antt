use Rattle.std.proofs.Common.{◌∙◌, ◌≡◌, ◌-◌, ◌+◌, ap, arith, subst, sym}
use Rattle.drf_rows.specs.Report.{path_cmp}
use Rattle.drf_rows.specs.declared.report.NodeLine.{NodeLine}
use Rattle.drf_sorter.specs.Lines.{BelongsBehind}
use Rattle.drf_sorter.proofs.LineLemmas.{among_all, among_less, belongs_behind, stands_at}
use Rattle.drf_sorter.proofs.lines.place_of.Goals as goal

pub loop-i-init : goal.loop-i-init
loop-i-init c = among_all c.args.path.now c.args.lines.now _ (omega arith)

pub loop-i-preserved : goal.loop-i-preserved
loop-i-preserved c =
    among_less c.args.path.now c.args.lines.now c.loop-i.i c.index-lines-i.result (omega arith) (omega arith)
    c.index-lines-i.is c.loop-i.invariant
    (ap (λ (l : NodeLine). path_cmp c.args.path.now l.path) c.index-lines-i.is ∙ sym c.cmp.ensures ∙ c.in-Less.is)

pub returns-in-Equal-clause-found : goal.returns-in-Equal-clause-found
returns-in-Equal-clause-found c =
    stands_at c.args.path.now c.args.lines.now c.loop-i.i c.index-lines-i.result (omega arith) (omega arith)
    c.index-lines-i.is c.loop-i.invariant
    (ap (λ (l : NodeLine). path_cmp c.args.path.now l.path) c.index-lines-i.is ∙ sym c.cmp.ensures ∙ c.in-Equal.is) c.requires

pub returns-in-Greater-clause-absent : goal.returns-in-Greater-clause-absent
returns-in-Greater-clause-absent c =
    let back : c.loop-i.i ≡ c.loop-i.i - 1 + 1 = omega arith in
    subst (BelongsBehind c.args.path.now c.args.lines.now) back
    (belongs_behind c.args.path.now c.args.lines.now c.loop-i.i c.index-lines-i.result (omega arith) (omega arith)
    c.index-lines-i.is c.loop-i.invariant
    (ap (λ (l : NodeLine). path_cmp c.args.path.now l.path) c.index-lines-i.is ∙ sym c.cmp.ensures ∙ c.in-Greater.is) c.requires)
