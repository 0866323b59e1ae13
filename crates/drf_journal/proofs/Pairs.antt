-- Event lines and reply lines of a journal, line by line.
use Rattle.std.proofs.Common.{◌≡◌, ℕ, ◌+◌, ◌*◌, List, [], ◌∷◌, ◌++◌, length, take, map, Some, None, refl, sym, ap, ◌∙◌, append_assoc, append-nil, Result, Ok, Err, arith}
use Rattle.std.specs.Prelude.{slice_get}
use Rattle.std.proofs.Math.Seq.{take-append_seam}
use Rattle.std.proofs.lemmas.List.{length-map, length-append, map-append}
use Rattle.drf_core.specs.Machine.{Machine, after}
use Rattle.drf_rows.specs.LimitNumbers.{LimitNumbers}
use Rattle.drf_rows.specs.Step.{live_rows, rows_after}
use Rattle.drf_row_laws.proofs.LiveLaws.{reply_to-same_live, rows_after-same_live, live_rows-twice}
use Rattle.drf_rows.specs.declared.rows.Rows.{Rows}
use Rattle.drf_rows.specs.declared.event.Event.{Event}
use Rattle.drf_lines.specs.declared.fault.LineFault.{LineFault}
use Rattle.drf_lines.specs.Meaning.{meaning_of}
use Rattle.drf_lines.specs.ReplyLine.{reply_line, fault_line}
use Rattle.drf_journal.specs.Journal.{event_lines, reply_lines, replies_from, replies_due, replies_there, IsFirstDifference}
use Rattle.drf_journal.specs.Output.{reply_line_after, rows_after_line}
use Rattle.drf_journal.specs.State.{machine_after, machine_after_lines}

-- ---- lines in pairs

pub events-cons : (x : List ℕ) (ys : List (List ℕ)) → event_lines (x ∷ ys) ≡ x ∷ reply_lines ys
events-cons x [] = refl
events-cons x (y ∷ []) = refl
events-cons x (y ∷ z ∷ ys) = ap (λ l. x ∷ l) (events-cons z ys)

pub replies-cons : (x : List ℕ) (ys : List (List ℕ)) → reply_lines (x ∷ ys) ≡ event_lines ys
replies-cons x [] = refl
replies-cons x (y ∷ ys) = sym (events-cons y ys)

-- there are as many event lines as reply lines, or one more
abbrev pub IsEven : List (List ℕ) → Type 0
IsEven lines = length (event_lines lines) ≡ length (reply_lines lines)

abbrev pub IsOdd : List (List ℕ) → Type 0
IsOdd lines = length (event_lines lines) ≡ length (reply_lines lines) + 1

pub events-even : (xs ys : List (List ℕ)) → IsEven xs → event_lines (xs ++ ys) ≡ event_lines xs ++ event_lines ys
events-even [] ys even = refl
events-even (e ∷ []) ys even = absurd (omega arith)
events-even (e ∷ r ∷ xs) ys even = ap (λ l. e ∷ l) (events-even xs ys (omega arith))

pub replies-even : (xs ys : List (List ℕ)) → IsEven xs → reply_lines (xs ++ ys) ≡ reply_lines xs ++ reply_lines ys
replies-even [] ys even = refl
replies-even (e ∷ []) ys even = absurd (omega arith)
replies-even (e ∷ r ∷ xs) ys even = ap (λ l. r ∷ l) (replies-even xs ys (omega arith))

events-odd : (xs ys : List (List ℕ)) → IsOdd xs → event_lines (xs ++ ys) ≡ event_lines xs ++ reply_lines ys
events-odd [] ys odd = absurd (omega arith)
events-odd (e ∷ []) ys odd = events-cons e ys
events-odd (e ∷ r ∷ xs) ys odd = ap (λ l. e ∷ l) (events-odd xs ys (omega arith))

replies-odd : (xs ys : List (List ℕ)) → IsOdd xs → reply_lines (xs ++ ys) ≡ reply_lines xs ++ event_lines ys
replies-odd [] ys odd = absurd (omega arith)
replies-odd (e ∷ []) ys odd = replies-cons e ys
replies-odd (e ∷ r ∷ xs) ys odd = ap (λ l. r ∷ l) (replies-odd xs ys (omega arith))

-- ---- replies, computed from the view of the allocator

abbrev pub replies_by : Machine → List (List ℕ) → List (List ℕ)
replies_by machine [] = []
replies_by machine (line ∷ lines) =
    reply_line_after machine.limits machine.rows (meaning_of line) ∷ replies_by (machine_after machine (meaning_of line)) lines

-- rows with the same current state give the same replies
pub replies-same_live : (limits : LimitNumbers) (a b : Rows) (lines : List (List ℕ)) → live_rows a ≡ live_rows b
    → replies_from limits a lines ≡ replies_from limits b lines
replies-same_live limits a b [] same = refl
replies-same_live limits a b (line ∷ lines) same =
    by_meaning (meaning_of line) (λ a b same. replies-same_live limits a b lines same)
  where
    by_meaning : (meaning : Result Event LineFault)
        → ((a b : Rows) → live_rows a ≡ live_rows b → replies_from limits a lines ≡ replies_from limits b lines)
        → reply_line_after limits a meaning ∷ replies_from limits (rows_after_line limits a meaning) lines
        ≡ reply_line_after limits b meaning ∷ replies_from limits (rows_after_line limits b meaning) lines
    by_meaning (Ok event) rest =
        let reply = reply_to-same_live limits a b same event in
        let more = rest (rows_after limits a event) (rows_after limits b event) (rows_after-same_live limits a b same event) in
        λ i. reply_line (reply i) ∷ more i
    by_meaning (Err fault) rest = ap (λ l. fault_line fault ∷ l) (rest a b same)

replies_from-lines : (machine : Machine) (lines : List (List ℕ))
    → replies_from machine.limits machine.rows lines ≡ replies_by machine lines
unfolding after
replies_from-lines machine [] = refl
replies_from-lines machine (line ∷ lines) = by_meaning (meaning_of line) (λ machine. replies_from-lines machine lines)
  where
    by_meaning : (meaning : Result Event LineFault)
        → ((machine : Machine) → replies_from machine.limits machine.rows lines ≡ replies_by machine lines)
        → reply_line_after machine.limits machine.rows meaning
        ∷ replies_from machine.limits (rows_after_line machine.limits machine.rows meaning) lines
        ≡ reply_line_after machine.limits machine.rows meaning ∷ replies_by (machine_after machine meaning) lines
    by_meaning (Ok event) rest =
        let next : Rows = rows_after machine.limits machine.rows event in
        ap (λ l. reply_line_after machine.limits machine.rows (Ok event) ∷ l)
        (replies-same_live machine.limits next (live_rows next) lines (sym (live_rows-twice next))
        ∙ rest (machine_after machine (Ok event)))
    by_meaning (Err fault) rest = ap (λ l. fault_line fault ∷ l) (rest machine)

replies_by-append : (machine : Machine) (prefix more : List (List ℕ))
    → replies_by machine (prefix ++ more) ≡ replies_by machine prefix ++ replies_by (machine_after_lines machine prefix) more
replies_by-append machine [] more = refl
replies_by-append machine (line ∷ prefix) more =
    ap (λ l. reply_line_after machine.limits machine.rows (meaning_of line) ∷ l)
    (replies_by-append (machine_after machine (meaning_of line)) prefix more)

length-replies_by : (machine : Machine) (lines : List (List ℕ)) → length (replies_by machine lines) ≡ length lines
length-replies_by machine [] = refl
length-replies_by machine (line ∷ lines) =
    let rest = length-replies_by (machine_after machine (meaning_of line)) lines in omega arith

machine-append : (machine : Machine) (prefix : List (List ℕ)) (line : List ℕ)
    → machine_after_lines machine (prefix ++ line ∷ []) ≡ machine_after (machine_after_lines machine prefix) (meaning_of line)
machine-append machine [] line = refl
machine-append machine (first ∷ prefix) line = machine-append (machine_after machine (meaning_of first)) prefix line

-- ---- the first difference of two lists

get_seam : (prefix : List (List ℕ)) (x : List ℕ) (xs : List (List ℕ)) → slice_get (prefix ++ x ∷ xs) (length prefix) ≡ Some x
get_seam [] x xs = refl
get_seam (y ∷ prefix) x xs = get_seam prefix x xs

get_end : (prefix : List (List ℕ)) → slice_get prefix (length prefix) ≡ None
get_end [] = refl
get_end (y ∷ prefix) = get_end prefix

pub differs-at : (prefix : List (List ℕ)) (x y : List ℕ) (xs ys : List (List ℕ)) → ¬ (x ≡ y)
    → IsFirstDifference (prefix ++ x ∷ xs) (prefix ++ y ∷ ys) (length prefix)
differs-at prefix x y xs ys other = record {
  before = take-append_seam prefix (x ∷ xs) ∙ sym (take-append_seam prefix (y ∷ ys));
  there = λ e. other (some_same (sym (get_seam prefix x xs) ∙ e ∙ get_seam prefix y ys));
}
  where
    some_same : Some x ≡ Some y → x ≡ y
    some_same e = cc

pub differs-end : (prefix : List (List ℕ)) (x : List ℕ) (xs : List (List ℕ))
    → IsFirstDifference (prefix ++ x ∷ xs) prefix (length prefix)
differs-end prefix x xs = record {
  before = take-append_seam prefix (x ∷ xs) ∙ sym (ap (take (length prefix)) (sym (append-nil prefix)) ∙ take-append_seam prefix []);
  there = λ e. some_none (sym (get_seam prefix x xs) ∙ e ∙ get_end prefix);
}
  where
    some_none : Some x ≡ None → ⊥
    some_none e = cc

-- ---- one line more

abbrev pub ended : List ℕ → List ℕ
ended line = line ++ 10 ∷ []

module _ (start : Machine) (lines : List (List ℕ)) where
  due_by : replies_due start lines ≡ replies_by start (event_lines lines)
  unfolding replies_due
  due_by = replies_from-lines start (event_lines lines)

  pub length_due : length (replies_due start lines) ≡ length (event_lines lines)
  length_due = ap length due_by ∙ length-replies_by start (event_lines lines)

  pub length_there : length (replies_there lines) ≡ length (reply_lines lines)
  unfolding replies_there
  length_there = length-map (reply_lines lines) ended

  pub is_even : replies_due start lines ≡ replies_there lines → IsEven lines
  is_even right = let a = ap length right in let b = length_due in let c = length_there in omega arith

  is_odd : (due : List ℕ) → replies_due start lines ≡ replies_there lines ++ due ∷ [] → IsOdd lines
  is_odd due right =
      let a = ap length right in let b = length_due in let c = length_there in
      let d = length-append (replies_there lines) (due ∷ []) in omega arith

pub there_more : (lines more others : List (List ℕ)) → reply_lines more ≡ reply_lines lines ++ others
    → replies_there more ≡ replies_there lines ++ map ended others
unfolding replies_there
there_more lines more others e = ap (map ended) e ∙ map-append ended (reply_lines lines) others

due_more : (start : Machine) (lines more others : List (List ℕ)) → event_lines more ≡ event_lines lines ++ others
    → replies_due start more ≡ replies_due start lines ++ replies_by (machine_after_lines start (event_lines lines)) others
due_more start lines more others e =
    due_by start more ∙ ap (replies_by start) e
    ∙ replies_by-append start (event_lines lines) others
    ∙ ap (λ l. l ++ replies_by (machine_after_lines start (event_lines lines)) others) (sym (due_by start lines))

-- an event line was added: its reply is expected
pub record HasOneDue (start : Machine) (lines : List (List ℕ)) (line : List ℕ) (more : List (List ℕ)) (before : Machine)
    : Type 0 where
  pub replies : replies_due start more
      ≡ replies_there more ++ reply_line_after before.limits before.rows (meaning_of line) ∷ []
  pub machine : machine_after before (meaning_of line) ≡ machine_after_lines start (event_lines more)
  pub events : length (event_lines more) ≡ length (event_lines lines) + 1

pub event-more : (start : Machine) (lines : List (List ℕ)) (line : List ℕ) (machine : Machine)
    → replies_due start lines ≡ replies_there lines
    → machine ≡ machine_after_lines start (event_lines lines)
    → HasOneDue start lines line (lines ++ line ∷ []) machine
event-more start lines line machine right is =
    let more = lines ++ line ∷ [] in
    let events : event_lines more ≡ event_lines lines ++ line ∷ [] =
    events-even lines (line ∷ []) (is_even start lines right) in
    let replies : reply_lines more ≡ reply_lines lines ++ [] =
    replies-even lines (line ∷ []) (is_even start lines right) in
    let there : replies_there more ≡ replies_there lines =
    there_more lines more [] replies ∙ append-nil (replies_there lines) in
    record {
      replies =
          due_more start lines more (line ∷ []) events
          ∙ (λ i. (right ∙ sym there) i ++ replies_by (sym is i) (line ∷ []));
      machine =
          ap (λ (m : Machine). machine_after m (meaning_of line)) is
          ∙ sym (ap (machine_after_lines start) events ∙ machine-append start (event_lines lines) line);
      events = ap length events ∙ length-append (event_lines lines) (line ∷ []);
    }

module _ (start : Machine) (lines : List (List ℕ)) (due : List ℕ)
    (right : replies_due start lines ≡ replies_there lines ++ due ∷ []) where
  -- the expected reply arrives
  pub reply-more : (line : List ℕ) → due ≡ ended line
      → (replies_due start (lines ++ line ∷ []) ≡ replies_there (lines ++ line ∷ []))
      × (event_lines (lines ++ line ∷ []) ≡ event_lines lines)
  reply-more line same =
      let odd = is_odd start lines due right in
      let more = lines ++ line ∷ [] in
      let events : event_lines more ≡ event_lines lines ++ [] = events-odd lines (line ∷ []) odd in
      let replies : reply_lines more ≡ reply_lines lines ++ line ∷ [] = replies-odd lines (line ∷ []) odd in (
        due_more start lines more [] events ∙ append-nil (replies_due start lines) ∙ right
            ∙ ap (λ (l : List ℕ). replies_there lines ++ l ∷ []) same
            ∙ sym (there_more lines more (line ∷ []) replies),
        events ∙ append-nil (event_lines lines),
      )

  -- the number of the reply line, counted from 1
  reply-number : 2 * (length (replies_there lines) + 1) ≡ 2 * length (event_lines lines)
  reply-number = let odd = is_odd start lines due right in let there = length_there start lines in omega arith

  -- another line arrives
  pub reply-wrong : (line : List ℕ) (others : List (List ℕ)) → ¬ (due ≡ ended line)
      → (place : ℕ) × IsFirstDifference (replies_due start (lines ++ line ∷ others)) (replies_there (lines ++ line ∷ others)) place
      × (2 * length (event_lines lines) ≡ 2 * (place + 1))
  reply-wrong line others other =
      let odd = is_odd start lines due right in
      let more = lines ++ line ∷ others in
      let events : event_lines more ≡ event_lines lines ++ reply_lines (line ∷ others) = events-odd lines (line ∷ others) odd in
      let replies : reply_lines more ≡ reply_lines lines ++ line ∷ reply_lines others =
      replies-odd lines (line ∷ others) odd ∙ ap (λ l. reply_lines lines ++ l) (events-cons line others) in
      let later = replies_by (machine_after_lines start (event_lines lines)) (reply_lines (line ∷ others)) in
      let due_all : replies_due start more ≡ replies_there lines ++ due ∷ later =
      due_more start lines more (reply_lines (line ∷ others)) events ∙ ap (λ l. l ++ later) right
      ∙ append_assoc (replies_there lines) (due ∷ []) later in
      let there : replies_there more ≡ replies_there lines ++ ended line ∷ map ended (reply_lines others) =
      there_more lines more (line ∷ reply_lines others) replies in
      let found = differs-at (replies_there lines) due (ended line) later (map ended (reply_lines others)) other in (
        length (replies_there lines),
        rw (due_all, there) found,
        sym reply-number,
      )

  -- no line arrives
  pub reply-missing : (place : ℕ) × IsFirstDifference (replies_due start lines) (replies_there lines) place
      × (2 * length (event_lines lines) ≡ 2 * (place + 1))
  reply-missing =
      let found = differs-end (replies_there lines) due [] in (
        length (replies_there lines),
        rw right found,
        sym reply-number,
      )
