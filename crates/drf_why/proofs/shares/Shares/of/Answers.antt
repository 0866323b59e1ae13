use Rattle.std.proofs.Common.{◌≡◌, ◌-◌, Some, cond, length, drop, sym, ap, ◌∙◌, arith}
use Rattle.std.specs.Option.{option_map}
use Rattle.std.specs.Map.{lookup}
use Rattle.std.specs.Prelude.{List, string_bytes}
use Rattle.std.specs.Str.{bytes_eq}
use Rattle.std.proofs.lemmas.List.{drop_all}
use Rattle.drf_lines.specs.ReportLine.{fraction_text}
use Rattle.drf_role.specs.Parts.{text_of}
use Rattle.drf_role.specs.Text.{same_text}
use Rattle.drf_rows.specs.declared.report.NodeLine.{NodeLine}
use Rattle.drf_why.specs.Shares.{reported_share}
use Rattle.drf_why.proofs.Shared.{share_more}
use Rattle.drf_why.proofs.shares.Shares.of.Goals as goal

pub loop-i-init : goal.loop-i-init
loop-i-init c = λ node.
    let nodes = c.as_slice-nodes.result.now in
    ap (λ entries. option_map string_bytes (lookup (λ key. bytes_eq node (string_bytes key)) entries)) c.with_hasher-by_node.ensures.empty
    ∙ sym (ap (λ (lines : List NodeLine). reported_share lines node) (drop_all (length nodes) nodes (omega arith)))

pub loop-i-preserved : goal.loop-i-preserved
loop-i-preserved c = λ node.
    let nodes = c.as_slice-nodes.result.now in
    let line = c.index-nodes-i.result in
    c.in_ok-put_share.ensures node
    ∙ ap (cond (same_text (text_of line.path) node) (Some (fraction_text line.weighted))) (c.loop-i.invariant node)
    ∙ share_more nodes c.loop-i.i (c.loop-i.i - 1) line node (omega arith) (omega arith) c.index-nodes-i.is

pub returns-clause-shares : goal.returns-clause-shares
returns-clause-shares c = λ node.
    let done : c.loop-i.i ≡ 0 = omega arith in
    c.loop-i.invariant node
    ∙ (λ k. reported_share (drop (done k) (c.as_slice-nodes.ensures k)) node)
