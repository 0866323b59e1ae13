use Rattle.std.proofs.Common.{ℕ, List, sym, ap, subst, ◌∙◌, ◌++◌}
use Rattle.drf_core.specs.Machine.{Machine}
use Rattle.drf_journal.specs.Audited.{agents_text, cycle_text, reported_of_lines}
use Rattle.drf_journal.specs.Lines.{lines_of}
use Rattle.drf_journal.specs.Output.{output_of}
use Rattle.drf_journal.specs.Resumed.{resumed}
use Rattle.drf_app.specs.ResumeLaws.{with_last_feed}
use Rattle.drf_app.specs.Saving.{IsTextOf, saved_of}
use Rattle.drf_app.proofs.Feeds.{fed, whole_stays}
use Rattle.drf_app.proofs.Left.{left_is_read}
use Rattle.drf_app.proofs.laws.resume_law.Goals as goal

pub returns-clause-lines : goal.returns-clause-lines
returns-clause-lines c =
    λ first second.
    c.cut_law.ensures.lines (with_last_feed first) second (fed first).cut ∙ ap (λ (ls : List (List ℕ)). ls ++ lines_of second) (fed first).lines

pub returns-clause-whole : goal.returns-clause-whole
returns-clause-whole c = whole_stays

pub returns-clause-exact : goal.returns-clause-exact
returns-clause-exact c =
    λ machine start first second text saved from echo.
    c.cut_law.ensures.output machine echo (with_last_feed first) second (fed first).cut
    ∙ (λ i. output_of machine echo ((fed first).lines i) ++ output_of (left_is_read machine start first text saved from i) echo (lines_of second))

pub returns-clause-same : goal.returns-clause-same
returns-clause-same c =
    λ machine start first second text saved from.
    c.cut_law.ensures.allocator machine (with_last_feed first) second (fed first).cut
    ∙ ap (λ (m : Machine). resumed m (lines_of second)) (left_is_read machine start first text saved from)

pub returns-clause-audit : goal.returns-clause-audit
returns-clause-audit c =
    λ machine start first second text saved from.
    c.cut_law.ensures.audit machine (with_last_feed first) second (fed first).cut
    ∙ ap (λ (m : Machine). reported_of_lines agents_text m (lines_of second)) (left_is_read machine start first text saved from)

pub returns-clause-explanation : goal.returns-clause-explanation
returns-clause-explanation c =
    λ machine start first second text saved from at.
    c.cut_law.ensures.explanation machine at (with_last_feed first) second (fed first).cut
    ∙ ap (λ (m : Machine). reported_of_lines (cycle_text at) m (lines_of second)) (left_is_read machine start first text saved from)

pub returns-clause-saved : goal.returns-clause-saved
returns-clause-saved c =
    λ machine start first second text saved from new_epoch later.
    let same = c.cut_law.ensures.allocator machine (with_last_feed first) second (fed first).cut
    ∙ ap (λ (m : Machine). resumed m (lines_of second)) (left_is_read machine start first text saved from) in
    let is_saved : Machine → Type 0 = λ m. IsTextOf m.limits (saved_of new_epoch m.rows) later in
    (subst is_saved same, subst is_saved (sym same))
