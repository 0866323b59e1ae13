-- A journal that is cut after a whole pair of lines.
use Rattle.std.proofs.Common.{◌≡◌, ℕ, ◌+◌, true, List, [], ◌∷◌, ◌++◌, length, map, take, is_err, Result, Ok, Err, refl, sym, ap, ◌∙◌, arith}
use Rattle.std.proofs.Math.Seq.{take-append_seam}
use Rattle.std.proofs.lemmas.Bool.{false≢true}
use Rattle.std.proofs.lemmas.List.{length-append, append_cancel_left, map-append}
use Rattle.drf_core.specs.Machine.{Machine}
use Rattle.drf_lines.specs.Meaning.{meaning_of}
use Rattle.drf_lines.specs.declared.fault.LineFault.{LineFault}
use Rattle.drf_rows.specs.LimitNumbers.{LimitNumbers}
use Rattle.drf_rows.specs.Step.{live_rows, reply_to}
use Rattle.drf_row_laws.proofs.LiveLaws.{live_rows-twice}
use Rattle.drf_rows.specs.declared.event.Event.{Event}
use Rattle.drf_rows.specs.declared.rows.Rows.{Rows}
use Rattle.drf_journal.specs.declared.journal.Verdict.TheVariants.{Good}
use Rattle.drf_journal.specs.Audited.{rows_after_lines}
use Rattle.drf_journal.specs.Journal.{event_lines, reply_lines, replies_from, replies_due, replies_there, IsVerdict}
use Rattle.drf_journal.specs.JournalLaws.{RepliesArePassedOver, AreWholePairs, JournalInTwo}
use Rattle.drf_journal.specs.Lines.{lines_of}
use Rattle.drf_journal.specs.Output.{reply_line_after, rows_after_line}
use Rattle.drf_journal.specs.Resumed.{resumed}
use Rattle.drf_journal.proofs.Pairs.{ended, events-even, replies-even, replies-same_live, length_due, length_there}
use Rattle.drf_journal.proofs.ReplyLines.{replies_no_events, faults_no_events}
use Rattle.drf_journal.proofs.Resumes.{lines-in-two}

-- ---- reply lines are skipped

-- a line that is a reply is not an event
answer_is_no_event : (limits : LimitNumbers) (rows : Rows) (meaning : Result Event LineFault) (line : List ℕ)
    → reply_line_after limits rows meaning ≡ line ++ 10 ∷ [] → is_err (meaning_of line) ≡ true
answer_is_no_event limits rows (Ok event) line reported = replies_no_events (reply_to limits rows event) line reported
answer_is_no_event limits rows (Err fault) line reported = faults_no_events fault line reported

-- such a line changes no rows
no_event_changes : (limits : LimitNumbers) (rows : Rows) (meaning : Result Event LineFault) → is_err meaning ≡ true
    → rows_after_line limits rows meaning ≡ rows
no_event_changes limits rows (Ok event) none = absurd (false≢true none)
no_event_changes limits rows (Err fault) none = refl

first_same : (x y : List ℕ) (xs ys : List (List ℕ)) → x ∷ xs ≡ y ∷ ys → (x ≡ y) × (xs ≡ ys)
first_same x y xs ys same = (cc, cc)

passed_over : (limits : LimitNumbers) (rows : Rows) (lines : List (List ℕ))
    → replies_from limits rows (event_lines lines) ≡ map ended (reply_lines lines)
    → rows_after_lines limits rows lines ≡ rows_after_lines limits rows (event_lines lines)
passed_over limits rows [] right = refl
passed_over limits rows (event ∷ []) right = refl
passed_over limits rows (event ∷ reply ∷ lines) right =
    let next = rows_after_line limits rows (meaning_of event) in
    let parts = first_same _ _ _ _ right in
    let none = answer_is_no_event limits rows (meaning_of event) reply parts.0 in
    ap (λ (r : Rows). rows_after_lines limits r lines) (no_event_changes limits next (meaning_of reply) none)
    ∙ passed_over limits next lines parts.1

pub replies-passed : RepliesArePassedOver
unfolding replies_due replies_there
replies-passed machine journal events verdict = passed_over machine.limits machine.rows (lines_of journal) verdict.0

-- ---- lines in two parts

replies-append : (limits : LimitNumbers) (rows : Rows) (prefix more : List (List ℕ))
    → replies_from limits rows (prefix ++ more) ≡ replies_from limits rows prefix ++ replies_from limits (rows_after_lines limits rows prefix) more
replies-append limits rows [] more = refl
replies-append limits rows (line ∷ prefix) more =
    ap (λ l. reply_line_after limits rows (meaning_of line) ∷ l) (replies-append limits (rows_after_line limits rows (meaning_of line)) prefix more)

-- equal texts whose prefixes have the same length have the same prefixes
prefixes_same : {A : Type 0} (a b c d : List A) → length a ≡ length c → a ++ b ≡ c ++ d → (a ≡ c) × (b ≡ d)
prefixes_same a b c d long same =
    let prefix : a ≡ c = sym (take-append_seam a b) ∙ (λ i. take (long i) (same i)) ∙ take-append_seam c d in
    (prefix, append_cancel_left c b d (ap (λ l. l ++ b) (sym prefix) ∙ same))

module _ (machine : Machine) (a b : List ℕ) (pairs : ℕ) (whole : AreWholePairs pairs a) where
  abbrev after_first : Machine
  after_first = resumed machine (event_lines (lines_of a))

  events-in-two : event_lines (lines_of (a ++ b)) ≡ event_lines (lines_of a) ++ event_lines (lines_of b)
  events-in-two =
      ap event_lines (lines-in-two a b whole.whole)
      ∙ events-even (lines_of a) (lines_of b) (whole.events ∙ sym whole.replies)

  due-in-two : replies_due machine (lines_of (a ++ b)) ≡ replies_due machine (lines_of a) ++ replies_due after_first (lines_of b)
  unfolding replies_due
  due-in-two =
      let rows = rows_after_lines machine.limits machine.rows (event_lines (lines_of a)) in
      ap (replies_from machine.limits machine.rows) events-in-two
      ∙ replies-append machine.limits machine.rows (event_lines (lines_of a)) (event_lines (lines_of b))
      ∙ ap (λ l. replies_from machine.limits machine.rows (event_lines (lines_of a)) ++ l)
      (replies-same_live machine.limits rows (live_rows rows) (event_lines (lines_of b)) (sym (live_rows-twice rows)))

  there-in-two : replies_there (lines_of (a ++ b)) ≡ replies_there (lines_of a) ++ replies_there (lines_of b)
  unfolding replies_there
  there-in-two =
      ap (map ended)
      (ap reply_lines (lines-in-two a b whole.whole)
      ∙ replies-even (lines_of a) (lines_of b) (whole.events ∙ sym whole.replies))
      ∙ map-append ended (reply_lines (lines_of a)) (reply_lines (lines_of b))

  number-in-two : length (event_lines (lines_of (a ++ b))) ≡ pairs + length (event_lines (lines_of b))
  number-in-two =
      ap length events-in-two ∙ length-append (event_lines (lines_of a)) (event_lines (lines_of b))
      ∙ ap (λ n. n + length (event_lines (lines_of b))) whole.events

  parted : (more : ℕ) → IsVerdict machine (a ++ b) (Good (pairs + more))
      → IsVerdict machine a (Good pairs) × IsVerdict after_first b (Good more)
  parted more right =
      let long : length (replies_due machine (lines_of a)) ≡ length (replies_there (lines_of a)) =
      length_due machine (lines_of a) ∙ whole.events ∙ sym whole.replies ∙ sym (length_there machine (lines_of a)) in
      let both =
      prefixes_same (replies_due machine (lines_of a)) (replies_due after_first (lines_of b)) (replies_there (lines_of a))
      (replies_there (lines_of b)) long (sym due-in-two ∙ right.0 ∙ there-in-two) in
      let number = number-in-two in
      ((both.0, sym whole.events), (both.1, (let all = right.1 in omega arith)))

  joined : (more : ℕ) → IsVerdict machine a (Good pairs) × IsVerdict after_first b (Good more)
      → IsVerdict machine (a ++ b) (Good (pairs + more))
  joined more right = (
    due-in-two ∙ (λ i. right.0.0 i ++ right.1.0 i) ∙ sym there-in-two,
    ap (λ n. pairs + n) right.1.1 ∙ sym number-in-two,
  )

pub journal-in-two : JournalInTwo
journal-in-two machine a b pairs more whole = (parted machine a b pairs whole more, joined machine a b pairs whole more)
