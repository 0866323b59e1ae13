use Rattle.std.proofs.Common.{sym, subst}
use Rattle.drf_rows.specs.LimitNumbers.{LimitNumbers}
use Rattle.drf_saved_laws.specs.SavedLaws.{IsSaveable}
use Rattle.drf_sorter.proofs.theorems.SameLaws.{IsSame-from}
use Rattle.drf_content.specs.Content.{content_of}
use Rattle.drf_state.proofs.Placed.{standing}
use Rattle.drf_state.proofs.restoring.Restoring.end.Goals as goal

pub assemble-requires-clause-standing : goal.assemble-requires-clause-standing
assemble-requires-clause-standing g c =
    let parts = c.self.inside.parts in
    standing c.self.inside.limits parts.tables (g.S.Sorter.content parts.sorter) parts.counted c.self.invariant

pub assemble-requires-clause-content : goal.assemble-requires-clause-content
assemble-requires-clause-content g c =
    let parts = c.self.inside.parts in
    IsSame-from (g.S.Sorter.content parts.sorter) (content_of parts.tables.rows) c.self.invariant.agree.sorted

pub returns-clause-saveable : goal.returns-clause-saveable
returns-clause-saveable g c =
    let core = c.in_ok-core.core in
    subst (λ (limits : LimitNumbers). IsSaveable limits core.rows) (sym c.in_ok-core.ensures.limits)
    (subst (IsSaveable c.self.inside.limits) (sym c.in_ok-core.ensures.rows) c.self.invariant.saveable)
