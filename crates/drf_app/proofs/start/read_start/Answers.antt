use Rattle.std.proofs.Common.{ℕ, List, subst, ◌∙◌}
use Rattle.drf_rows.specs.LimitNumbers.{LimitNumbers, ceilings}
use Rattle.drf_state.specs.Reading.{IsReadState}
use Rattle.drf_app.proofs.Started.{is_in_file}
use Rattle.drf_app.proofs.start.read_start.Goals as goal

pub returns-clause-ok : goal.returns-clause-ok
returns-clause-ok g c =
    let core = c.in_ok-read_state.field-0 in
    let within = subst (λ (limits : LimitNumbers). IsReadState limits c.deref.result.now core) c.full.ensures c.in_ok-read_state.ensures.ok in
    let read = subst (λ (bytes : List ℕ). IsReadState ceilings bytes core) c.deref.ensures.value within in
    is_in_file (g.F.FileBytes.known c.args.files.now) c.args.name.now c.in_ok-bytes.bytes.items core c.in_ok-bytes.ensures.whole read

pub returns-clause-limits : goal.returns-clause-limits
returns-clause-limits g c = c.in_ok-read_state.ensures.ok.limits ∙ c.full.ensures
