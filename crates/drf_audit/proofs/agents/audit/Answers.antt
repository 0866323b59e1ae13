use Rattle.std.proofs.Common.{◌≡◌, List, map, ap, subst, ◌∙◌}
use Rattle.std.specs.Prelude.{IfOk}
use Rattle.rayon.proofs.ToStd.{slice-AllZip}
use Rattle.drf_rows.specs.declared.rows.AgentRow.{AgentRow}
use Rattle.drf_audit.specs.Audit.{line_of, line_with}
use Rattle.drf_audit.specs.Held.{parts_in}
use Rattle.drf_audit.specs.declared.agents.AuditLine.{AuditLine}
use Rattle.drf_audit.proofs.Lines.{collected, line_is}
use Rattle.drf_audit.proofs.agents.audit.Goals as goal

pub returns : goal.returns
returns g c =
    let rows = c.args.rows.now in
    let held = c.map.result.f.0.now in
    let borrowed : held ≡ c.in_ok-held.held = ap (λ f. f.0.now) c.map.ensures.f in
    let reported : AgentRow → AuditLine = λ agent. line_with agent (parts_in held agent.name) in
    let same : (agent : AgentRow) → reported agent ≡ line_of rows agent =
    λ agent. (λ i. line_with agent (parts_in (borrowed i) agent.name)) ∙ ap (line_with agent) (c.in_ok-held.ensures agent.name) ∙ line_is rows agent in
    let slice = ap (λ it. it.slice.now) c.map.ensures.base ∙ c.par_iter.ensures ∙ c.as_slice.ensures in
    let h = c.in_ok-collect.ensures in
    let chain = h.1 in
    let each = slice-AllZip chain.0 rows.agents (chain.1 ∙ slice) (λ agent line. IfOk line (λ l. l ≡ reported agent)) h.0 chain.2 in
    let as_reported = collected c.in_ok-collect.field-0 reported rows.agents h.0 each h.2 in
    subst (λ (ls : List AuditLine). IfOk c.in_ok-collect.field-0 (λ lines. lines.items ≡ ls)) (λ i. map (λ agent. same agent i) rows.agents) as_reported
