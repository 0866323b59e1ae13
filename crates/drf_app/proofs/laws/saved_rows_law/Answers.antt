use Rattle.std.proofs.Common.{true, sym, subst}
use Rattle.drf_core.specs.Machine.{Machine}
use Rattle.drf_rows.specs.declared.rows.Rows.{Rows}
use Rattle.drf_saved_laws.specs.SavedLaws.{IsKeptByEpoch, IsNewEpoch}
use Rattle.drf_journal.specs.Lines.{lines_of}
use Rattle.drf_journal.specs.Resumed.{resumed}
use Rattle.drf_app.proofs.Left.{read_is_saved}
use Rattle.drf_app.proofs.laws.saved_rows_law.Goals as goal

pub returns-clause-goes_on : goal.returns-clause-goes_on
returns-clause-goes_on c = read_is_saved

pub returns-clause-rest : goal.returns-clause-rest
returns-clause-rest c =
    λ machine start first text saved from.
    let rows : Rows = (resumed machine (lines_of first)).rows in
    subst (λ (m : Machine). IsKeptByEpoch rows m.rows × IsNewEpoch m.rows) (sym (read_is_saved machine start true first text saved from)) (c.epoch_law.ensures.rest rows)
