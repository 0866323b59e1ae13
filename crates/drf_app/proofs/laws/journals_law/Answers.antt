use Rattle.std.proofs.Common.{◌≡◌, ℕ, List, length, false, sym, ap, subst, ◌∙◌}
use Rattle.drf_core.specs.Machine.{Machine}
use Rattle.drf_rows.specs.Step.{live_rows}
use Rattle.drf_rows.specs.declared.rows.Rows.{Rows}
use Rattle.drf_journal.specs.declared.journal.Verdict.TheVariants.{Good}
use Rattle.drf_journal.specs.Journal.{event_lines, reply_lines, replies_due, replies_there, IsVerdict}
use Rattle.drf_journal.specs.JournalLaws.{RepliesArePassedOver, JournalInTwo}
use Rattle.drf_journal.specs.Lines.{lines_of}
use Rattle.drf_journal.specs.Resumed.{resumed}
use Rattle.drf_journal.proofs.Pairs.{is_even}
use Rattle.drf_app.specs.ResumeLaws.{GoodJournalsArePairs, JournalsAreGlued, with_last_feed}
use Rattle.drf_app.proofs.Feeds.{fed}
use Rattle.drf_app.proofs.Left.{read_is_saved}
use Rattle.drf_app.proofs.laws.journals_law.Goals as goal

good_pairs : GoodJournalsArePairs
good_pairs machine journal events good = record {
  events = sym good.1;
  replies = sym (is_even machine (lines_of journal) good.0) ∙ sym good.1;
}

pub returns-clause-pairs : goal.returns-clause-pairs
returns-clause-pairs c = good_pairs

glued : RepliesArePassedOver → JournalInTwo → JournalsAreGlued
glued passed_over in_two machine start first second text saved from pairs more are =
    let feed = fed first in
    let both = in_two machine (with_last_feed first) second pairs more (record {
      whole = feed.cut;
      events = ap (λ (ls : List (List ℕ)). length (event_lines ls)) feed.lines ∙ are.events;
      replies = ap (λ (ls : List (List ℕ)). length (reply_lines ls)) feed.lines ∙ are.replies;
    }) in
    let is_good : List (List ℕ) → Type 0 = λ ls. (replies_due machine ls ≡ replies_there ls) × (pairs ≡ length (event_lines ls)) in
    let goes_on : Machine → Type 0 = λ m. IsVerdict m second (Good more) in
    let left : IsVerdict machine first (Good pairs) → resumed machine (event_lines (lines_of (with_last_feed first))) ≡ start =
    λ good. ap (λ (ls : List (List ℕ)). resumed machine (event_lines ls)) feed.lines
    ∙ ap (λ (rows : Rows). record { limits = machine.limits; rows = live_rows rows }) (sym (passed_over machine first pairs good))
    ∙ sym (read_is_saved machine start false first text saved from) in (
      λ h.
          let parts = both.0 h in
          let good = subst is_good feed.lines parts.0 in
          (good, subst goes_on (left good) parts.1),
      λ h. both.1 (subst is_good (sym feed.lines) h.0, subst goes_on (sym (left h.0)) h.1),
    )

pub returns-clause-glued : goal.returns-clause-glued
returns-clause-glued c = glued c.reply_lines_law.ensures.passed_over c.glue_law.ensures
