-- A check processes bytes of a journal.
use Rattle.std.proofs.Common.{◌≡◌, ℕ, ◌+◌, ◌*◌, ◌≤◌, ◌<◌, Bool, true, false, List, [], ◌∷◌, ◌++◌, length, take, drop, get_or, Option, Some, None, Result, Ok, Err, ⊎_elim, refl, sym, ap, ◌∙◌, subst, append_assoc, append-nil, arith}
use Rattle.std.specs.Prelude.{IfSome}
use Rattle.std.specs.Io.KnownBytes.{Consumes, IsAtEnd}
use Rattle.std.proofs.KnownBytes.{Consumes-nil, Consumes-trans}
use Rattle.std.proofs.Math.Seq.{drop-append_seam}
use Rattle.std.proofs.lemmas.Bool.{ne_eqb, cases_lt}
use Rattle.std.proofs.lemmas.List.{length-append, append_cancel_left}
use Rattle.std.proofs.lemmas.List.Elements.{All-append}
use Rattle.drf_core.specs.Machine.{Machine}
use Rattle.drf_rows.specs.declared.event.Event.{Event}
use Rattle.drf_lines.specs.declared.fault.LineFault.{LineFault}
use Rattle.drf_lines.specs.Meaning.{meaning_of}
use Rattle.drf_lines.specs.ReplyLine.{reply_line, fault_line}
use Rattle.drf_journal.specs.declared.journal.Verdict.{Verdict}
use Rattle.drf_journal.specs.declared.journal.Verdict.TheVariants.{Good, Bad}
use Rattle.drf_journal.specs.Checking.{DueLine, HasCome, Check, after_event_line, IsCheckedTo, HasChecked}
use Rattle.drf_journal.specs.Journal.{event_lines, replies_due, replies_there, IsVerdict}
use Rattle.drf_journal.specs.Lines.{is_line_feed, ended_lines_of, open_line_of, lines_of, IsWithinLine}
use Rattle.drf_journal.specs.Output.{kept_of, reply_line_after}
use Rattle.drf_journal.specs.State.{machine_after, machine_after_lines}
use Rattle.drf_journal.proofs.Cuts.{ended-within, open-within, within-nil, ended-feed, open-feed, goes_on, cut_at, lines-goes_on, lines-feed, lines-begun, lines-none}
use Rattle.drf_journal.proofs.Kept.{kept-append, meaning-kept}
use Rattle.drf_journal.proofs.Pairs.{ended, event-more, reply-more, reply-wrong, reply-missing}

-- ---- how the bytes extend the lines

within-append : (prefix more : List ℕ) → IsWithinLine prefix → IsWithinLine more → IsWithinLine (prefix ++ more)
within-append prefix more a b = All-append (λ b. is_line_feed b ≡ false) prefix more a b

module _ (read end : List ℕ) (within : IsWithinLine end) where
  joined : IsWithinLine (open_line_of read ++ end)
  joined = within-append (open_line_of read) end (goes_on read []).within within

  -- the current line continues
  same_lines : ended_lines_of (read ++ end) ≡ ended_lines_of read
  same_lines =
      (goes_on read end).lines ∙ ap (λ ls. ended_lines_of read ++ ls) (ended-within (open_line_of read ++ end) joined)
      ∙ append-nil (ended_lines_of read)

  longer_line : open_line_of (read ++ end) ≡ open_line_of read ++ end
  longer_line = (goes_on read end).line ∙ open-within (open_line_of read ++ end) joined

  -- the current line ends
  one_line_more : ended_lines_of (read ++ (end ++ 10 ∷ [])) ≡ ended_lines_of read ++ (open_line_of read ++ end) ∷ []
  one_line_more =
      (goes_on read (end ++ 10 ∷ [])).lines
      ∙ ap (λ ls. ended_lines_of read ++ ls)
      (ap ended_lines_of (sym (append_assoc (open_line_of read) end (10 ∷ [])))
      ∙ ended-feed (open_line_of read ++ end) 10 [] joined refl
      ∙ ap (λ ls. (open_line_of read ++ end) ∷ ls) (ended-within [] within-nil))

  nothing_open : open_line_of (read ++ (end ++ 10 ∷ [])) ≡ []
  nothing_open =
      (goes_on read (end ++ 10 ∷ [])).line
      ∙ ap open_line_of (sym (append_assoc (open_line_of read) end (10 ∷ [])))
      ∙ open-feed (open_line_of read ++ end) 10 [] joined refl ∙ open-within [] within-nil

  lines_then : (more : List ℕ)
      → lines_of ((read ++ (end ++ 10 ∷ [])) ++ more) ≡ ended_lines_of read ++ (open_line_of read ++ end) ∷ lines_of more
  lines_then more =
      let bytes : open_line_of read ++ ((end ++ 10 ∷ []) ++ more) ≡ (open_line_of read ++ end) ++ 10 ∷ more =
      ap (λ l. open_line_of read ++ l) (append_assoc end (10 ∷ []) more)
      ∙ sym (append_assoc (open_line_of read) end (10 ∷ more)) in
      ap lines_of (append_assoc read (end ++ 10 ∷ []) more)
      ∙ lines-goes_on read ((end ++ 10 ∷ []) ++ more)
      ∙ ap (λ ls. ended_lines_of read ++ ls) (ap lines_of bytes ∙ lines-feed (open_line_of read ++ end) more joined)

-- ---- a reply line is not empty

reply-some : (machine : Machine) (meaning : Result Event LineFault)
    → 0 < length (reply_line_after machine.limits machine.rows meaning)
unfolding reply_line fault_line
reply-some machine (Ok event) = simp length-append (omega arith)
reply-some machine (Err fault) = simp length-append (omega arith)

-- ---- more bytes of a reply line have arrived

pub come-more : (text line bytes rest : List ℕ) (come : ℕ) → HasCome (record { text = text; come = come }) line
    → drop come text ≡ bytes ++ rest → HasCome (record { text = text; come = come + length bytes }) (line ++ bytes)
come-more text line bytes rest come has next =
    let whole : text ≡ (line ++ bytes) ++ rest =
    has.text ∙ ap (λ l. line ++ l) next ∙ sym (append_assoc line bytes rest) in
    let count : come + length bytes ≡ length (line ++ bytes) =
    let a = has.count in let b = length-append line bytes in omega arith in
    let left : drop (come + length bytes) text ≡ rest =
    ap (drop (come + length bytes)) whole ∙ ap (λ (n : ℕ). drop n ((line ++ bytes) ++ rest)) count
    ∙ drop-append_seam (line ++ bytes) rest in
    record { text = whole ∙ ap (λ l. (line ++ bytes) ++ l) (sym left); count = count }

pub come-next : (text line bytes rest : List ℕ) (come : ℕ) → HasCome (record { text = text; come = come }) line
    → text ≡ line ++ (bytes ++ rest) → drop come text ≡ bytes ++ rest
come-next text line bytes rest come has same = append_cancel_left line _ _ (sym has.text ∙ same)

-- ---- single steps

abbrev begun_check : Machine → Check
begun_check start = record { machine = start; line = []; due = record { text = []; come = 0 }; events = 0 }

due_none : (start : Machine) → replies_due start [] ≡ replies_there []
unfolding replies_due replies_there
due_none start = refl

pub checked-none : (start : Machine) → IsCheckedTo start [] (begun_check start)
checked-none start =
    let none : ended_lines_of [] ≡ [] = ended-within [] within-nil in
    record {
      machine = ap (λ ls. machine_after_lines start (event_lines ls)) (sym none);
      events = ap (λ ls. length (event_lines ls)) (sym none);
      event = λ _. record {
        replies = rw none (due_none start);
        line = ap kept_of (sym (open-within [] within-nil));
      };
      reply = λ some. absurd (omega arith);
    }

pub checked-first : (start : Machine) (check : Check) → IsCheckedTo start [] check → check.events ≡ 0
checked-first start check at = at.events ∙ ap (λ ls. length (event_lines ls)) (ended-within [] within-nil)

module _ (old : Check) (end : List ℕ) where
  pub event-line-is : (machine : Machine) (line text : List ℕ) (due : DueLine)
      → machine ≡ machine_after old.machine (meaning_of (old.line ++ end)) → line ≡ []
      → due ≡ record { text = text; come = 0 }
      → text ≡ reply_line_after old.machine.limits old.machine.rows (meaning_of (old.line ++ end))
      → record { machine = machine; line = line; due = due; events = old.events + 1 } ≡ after_event_line old end
  unfolding after_event_line
  event-line-is machine line text due taken cleared reported is =
      let due_is : due ≡ record { text = reply_line_after old.machine.limits old.machine.rows (meaning_of (old.line ++ end)); come = 0 } =
      reported ∙ ap (λ (t : List ℕ). record { text = t; come = 0 }) is in
      λ i. record { machine = taken i; line = cleared i; due = due_is i; events = old.events + 1 }

  pub event-line-counted : (after_event_line old end).events ≡ old.events + 1
  unfolding after_event_line
  event-line-counted = refl

module _ (old : Check) (end : List ℕ) (within : IsWithinLine end) where
  event-line : length old.due.text ≡ 0 → (start : Machine) (read : List ℕ) → IsCheckedTo start read old
      → IsCheckedTo start (read ++ (end ++ 10 ∷ [])) (after_event_line old end)
  unfolding after_event_line
  event-line none start read at =
      let line = open_line_of read ++ end in
      let was = at.event none in
      let meant : meaning_of (old.line ++ end) ≡ meaning_of line =
      ap (λ (l : List ℕ). meaning_of (l ++ end)) was.line
      ∙ sym (meaning-kept (kept_of (open_line_of read) ++ end)) ∙ ap meaning_of (kept-append (open_line_of read) end)
      ∙ meaning-kept line in
      let more = one_line_more read end within in
      let open_now = nothing_open read end within in
      let one = event-more start (ended_lines_of read) line old.machine was.replies at.machine in
      let text = reply_line_after old.machine.limits old.machine.rows (meaning_of (old.line ++ end)) in
      let some : 0 < length text = reply-some old.machine (meaning_of (old.line ++ end)) in
      record {
        machine = ap (machine_after old.machine) meant ∙ one.machine
            ∙ ap (λ ls. machine_after_lines start (event_lines ls)) (sym more);
        events = ap (λ (n : ℕ). n + 1) at.events ∙ sym one.events ∙ ap (λ ls. length (event_lines ls)) (sym more);
        event = λ empty. absurd (omega arith);
        reply = λ _. record {
          replies = ap (replies_due start) more ∙ one.replies
              ∙ (λ i. replies_there (sym more i) ++ reply_line_after old.machine.limits old.machine.rows (sym meant i) ∷ []);
          line = refl;
          come = record { text = ap (λ (l : List ℕ). l ++ text) (sym open_now); count = ap length (sym open_now) };
        };
      }

  pub checked-event : (new : Check) → length old.due.text ≡ 0 → new ≡ after_event_line old end
      → HasChecked (end ++ 10 ∷ []) old new true
  checked-event new none is = record {
    goes_on = λ _ start read at.
        subst (IsCheckedTo start (read ++ (end ++ 10 ∷ []))) (sym is) (event-line none start read at);
    wrong = λ no. absurd (true_is_false no);
  }
    where
      true_is_false : true ≡ false → ⊥
      true_is_false e = cc

  -- the expected reply arrives
  pub checked-reply : (new : Check) → 0 < length old.due.text
      → ((line : List ℕ) → HasCome old.due line → old.due.text ≡ line ++ (end ++ 10 ∷ []))
      → new ≡ record old { due = record { text = []; come = 0 } }
      → HasChecked (end ++ 10 ∷ []) old new true
  checked-reply new some whole is = record {
    goes_on = λ _ start read at. subst (IsCheckedTo start (read ++ (end ++ 10 ∷ []))) (sym is) (replied start read at);
    wrong = λ no. absurd (true_is_false no);
  }
    where
      true_is_false : true ≡ false → ⊥
      true_is_false e = cc

      replied : (start : Machine) (read : List ℕ) → IsCheckedTo start read old
          → IsCheckedTo start (read ++ (end ++ 10 ∷ [])) (record old { due = record { text = []; come = 0 } })
      replied start read at =
          let line = open_line_of read ++ end in
          let was = at.reply some in
          let same : old.due.text ≡ ended line =
          whole (open_line_of read) was.come ∙ sym (append_assoc (open_line_of read) end (10 ∷ [])) in
          let more = one_line_more read end within in
          let one = reply-more start (ended_lines_of read) old.due.text was.replies line same in
          let events : event_lines (ended_lines_of read) ≡ event_lines (ended_lines_of (read ++ (end ++ 10 ∷ []))) =
          sym one.1 ∙ ap event_lines (sym more) in
          record {
            machine = at.machine ∙ ap (machine_after_lines start) events;
            events = at.events ∙ ap length events;
            event = λ _. record {
              replies = rw more one.0;
              line = was.line ∙ ap kept_of (sym (nothing_open read end within));
            };
            reply = λ some. absurd (omega arith);
          }

  -- another line arrives
  pub checked-other : (new : Check) → 0 < length old.due.text
      → ((line : List ℕ) → HasCome old.due line → ¬ (old.due.text ≡ line ++ (end ++ 10 ∷ [])))
      → new.events ≡ old.events
      → HasChecked (end ++ 10 ∷ []) old new false
  checked-other new some other counted = record {
    goes_on = λ no. absurd (false_is_true no);
    wrong = λ _ start read more at.
        let line = open_line_of read ++ end in
        let was = at.reply some in
        let found = reply-wrong start (ended_lines_of read) old.due.text was.replies line (lines_of more)
        (λ same. other (open_line_of read) was.come (same ∙ append_assoc (open_line_of read) end (10 ∷ []))) in
        rw (lines_then read end within more, counted, at.events) found;
  }
    where
      false_is_true : false ≡ true → ⊥
      false_is_true e = cc

module _ (old : Check) (more : List ℕ) (within : IsWithinLine more) where
  pub checked-part : (new : Check) → length old.due.text ≡ 0 → new ≡ record old { line = kept_of (old.line ++ more) }
      → HasChecked more old new true
  checked-part new none is = record {
    goes_on = λ _ start read at. subst (IsCheckedTo start (read ++ more)) (sym is) (longer start read at);
    wrong = λ no. absurd (true_is_false no);
  }
    where
      true_is_false : true ≡ false → ⊥
      true_is_false e = cc

      longer : (start : Machine) (read : List ℕ) → IsCheckedTo start read old
          → IsCheckedTo start (read ++ more) (record old { line = kept_of (old.line ++ more) })
      longer start read at =
          let was = at.event none in
          let same = same_lines read more within in
          record {
            machine = rw same at.machine;
            events = rw same at.events;
            event = λ _. record {
              replies = rw same was.replies;
              line = ap (λ (l : List ℕ). kept_of (l ++ more)) was.line ∙ kept-append (open_line_of read) more
                  ∙ ap kept_of (sym (longer_line read more within));
            };
            reply = λ some. absurd (omega arith);
          }

  pub checked-come : (new : Check) (due : DueLine) → 0 < length old.due.text → due.text ≡ old.due.text
      → ((line : List ℕ) → HasCome old.due line → HasCome due (line ++ more))
      → new ≡ record old { due = due }
      → HasChecked more old new true
  checked-come new due some kept comes is = record {
    goes_on = λ _ start read at. subst (IsCheckedTo start (read ++ more)) (sym is) (longer start read at);
    wrong = λ no. absurd (true_is_false no);
  }
    where
      true_is_false : true ≡ false → ⊥
      true_is_false e = cc

      longer : (start : Machine) (read : List ℕ) → IsCheckedTo start read old
          → IsCheckedTo start (read ++ more) (record old { due = due })
      longer start read at =
          let was = at.reply some in
          let same = same_lines read more within in
          let sized = ap length kept in
          record {
            machine = rw same at.machine;
            events = rw same at.events;
            event = λ empty. absurd (omega arith);
            reply = λ _. record {
              replies = rw (same, kept) was.replies;
              line = was.line;
              come = subst (HasCome due) (sym (longer_line read more within)) (comes (open_line_of read) was.come);
            };
          }

  pub checked-strange : (new : Check) → 0 < length old.due.text
      → ((line : List ℕ) → HasCome old.due line → (rest : List ℕ) → ¬ (old.due.text ≡ line ++ (more ++ rest)))
      → new.events ≡ old.events
      → HasChecked more old new false
  checked-strange new some strange counted = record {
    goes_on = λ no. absurd (false_is_true no);
    wrong = λ _ start read later at.
        let line = open_line_of read ++ more in
        let was = at.reply some in
        let begun : 0 < length line = longer start read at in
        let bytes : lines_of ((read ++ more) ++ later) ≡ ended_lines_of read ++ lines_of (line ++ later) =
        ap lines_of (append_assoc read more later) ∙ lines-goes_on read (more ++ later)
        ∙ ap (λ l. ended_lines_of read ++ lines_of l) (sym (append_assoc (open_line_of read) more later)) in
        let on = lines-begun line later (joined read more within) begun in
        let found = reply-wrong start (ended_lines_of read) old.due.text was.replies (line ++ on.0) on.1.0
        (λ same. strange (open_line_of read) was.come (on.0 ++ 10 ∷ [])
        (same ∙ ap ended (append_assoc (open_line_of read) more on.0)
        ∙ append_assoc (open_line_of read) (more ++ on.0) (10 ∷ [])
        ∙ ap (λ l. open_line_of read ++ l) (append_assoc more on.0 (10 ∷ [])))) in
        rw (bytes, on.1.1, counted, at.events) found;
  }
    where
      false_is_true : false ≡ true → ⊥
      false_is_true e = cc

      not_none : (more : List ℕ) (line : List ℕ) → HasCome old.due line
          → ((line : List ℕ) → HasCome old.due line → (rest : List ℕ) → ¬ (old.due.text ≡ line ++ (more ++ rest)))
          → 0 < length more
      not_none [] line come strange = absurd (strange line come (drop old.due.come old.due.text) come.text)
      not_none (b ∷ more) line come strange = omega arith

      longer : (start : Machine) (read : List ℕ) → IsCheckedTo start read old → 0 < length (open_line_of read ++ more)
      longer start read at =
          let some_more = not_none more (open_line_of read) (at.reply some).come strange in
          let sum = length-append (open_line_of read) more in omega arith

-- whether the bytes are right or wrong
pub checked-by : (piece : List ℕ) (old new : Check) (right : Bool) → (right ≡ true → HasChecked piece old new true)
    → (right ≡ false → HasChecked piece old new false) → HasChecked piece old new right
checked-by piece old new true passed failed = passed refl
checked-by piece old new false passed failed = failed refl

-- ---- one step after another

pub checked-nothing : (check : Check) → HasChecked [] check check true
checked-nothing check = record {
  goes_on = λ _ start read at. subst (λ (l : List ℕ). IsCheckedTo start l check) (sym (append-nil read)) at;
  wrong = λ no. absurd (true_is_false no);
}
  where
    true_is_false : true ≡ false → ⊥
    true_is_false e = cc

pub checked-then : (prefix next : List ℕ) (old now new : Check) (right : Bool) → HasChecked prefix old now true
    → HasChecked next now new right → HasChecked (prefix ++ next) old new right
checked-then prefix next old now new right first second = record {
  goes_on = λ yes start read at.
      subst (λ (l : List ℕ). IsCheckedTo start l new) (append_assoc read prefix next)
      (second.goes_on yes start (read ++ prefix) (first.goes_on refl start read at));
  wrong = λ no start read more at.
      subst (λ (l : List ℕ). IsVerdict start (l ++ more) (Bad (2 * new.events))) (append_assoc read prefix next)
      (second.wrong no start (read ++ prefix) more (first.goes_on refl start read at));
}

pub checked-stop : (prefix rest : List ℕ) (old now : Check) → HasChecked prefix old now false
    → HasChecked (prefix ++ rest) old now false
checked-stop prefix rest old now first = record {
  goes_on = λ no. absurd (false_is_true no);
  wrong = λ _ start read more at.
      subst (λ (l : List ℕ). IsVerdict start l (Bad (2 * now.events)))
      (sym (ap (λ l. l ++ more) (sym (append_assoc read prefix rest)) ∙ append_assoc (read ++ prefix) rest more))
      (first.wrong refl start read (rest ++ more) at);
}
  where
    false_is_true : false ≡ true → ⊥
    false_is_true e = cc

-- the check has processed a prefix of a chunk, and the rest remains
pub record CheckedPrefix (old now : Check) (piece rest : List ℕ) : Type 0 where
  pub prefix : List ℕ
  pub whole : piece ≡ prefix ++ rest
  pub checked : HasChecked prefix old now true

pub prefix-begins : (old : Check) (piece : List ℕ) → CheckedPrefix old old piece piece
prefix-begins old piece = record { prefix = []; whole = refl; checked = checked-nothing old }

module _ (old now new : Check) (piece rest : List ℕ) (at : ℕ) (prefix : CheckedPrefix old now piece rest)
    (inside : at < length rest) (feed : get_or rest at 0 ≡ 10) where
  abbrev line : List ℕ
  line = take at rest ++ 10 ∷ []

  longer_prefix : piece ≡ (prefix.prefix ++ line) ++ drop (at + 1) rest
  longer_prefix =
      prefix.whole ∙ ap (λ l. prefix.prefix ++ l) (cut_at rest at inside feed)
      ∙ sym (append_assoc prefix.prefix line (drop (at + 1) rest))

  pub prefix-line : HasChecked line now new true → CheckedPrefix old new piece (drop (at + 1) rest)
  prefix-line checked = record {
    prefix = prefix.prefix ++ line;
    whole = longer_prefix;
    checked = checked-then prefix.prefix line old now new true prefix.checked checked;
  }

  pub prefix-wrong : HasChecked line now new false → HasChecked piece old new false
  prefix-wrong checked =
      subst (λ (l : List ℕ). HasChecked l old new false) (sym longer_prefix)
      (checked-stop (prefix.prefix ++ line) (drop (at + 1) rest) old new
      (checked-then prefix.prefix line old now new false prefix.checked checked))

pub prefix-rest : (old now new : Check) (piece rest : List ℕ) (right : Bool) → CheckedPrefix old now piece rest
    → HasChecked rest now new right → HasChecked piece old new right
prefix-rest old now new piece rest right prefix checked =
    subst (λ (l : List ℕ). HasChecked l old new right) (sym prefix.whole)
    (checked-then prefix.prefix rest old now new right prefix.checked checked)

-- ---- the end of the journal

lines-last : (read : List ℕ) → 0 < length (open_line_of read) → lines_of read ≡ ended_lines_of read ++ open_line_of read ∷ []
unfolding lines_of
lines-last read some = rw (ne_eqb (length (open_line_of read)) 0 (λ e. omega arith)) refl

length-kept : (line : List ℕ) → length (kept_of line) ≡ 0 → length line ≡ 0
length-kept [] none = refl
length-kept (b ∷ line) none = absurd (omega arith)

module _ (start : Machine) (read : List ℕ) (check : Check) (at : IsCheckedTo start read check) where
  -- the current line is an event line: it is the last line, and its reply is missing
  pub ends-open : 0 < length check.line → IsVerdict start read (Bad (2 * (check.events + 1)))
  ends-open some =
      ⊎_elim (λ (due : 0 < length check.due.text). absurd (let none = ap length (at.reply due).line in omega arith))
      (λ (none : length check.due.text ≤ 0).
      let was = at.event (omega arith) in
      let line = open_line_of read in
      let last : 0 < length line = some_line line (subst (λ (l : List ℕ). 0 < length l) was.line some) in
      let one = event-more start (ended_lines_of read) line check.machine was.replies at.machine in
      let found = reply-missing start (ended_lines_of read ++ line ∷ []) _ one.replies in
      rw (lines-last read last) (found.0, found.1, (let a = one.events in let b = at.events in let c = found.2 in omega arith)))
      (cases_lt 0 (length check.due.text))
    where
      some_line : (line : List ℕ) → 0 < length (kept_of line) → 0 < length line
      some_line [] some = some
      some_line (b ∷ line) some = omega arith

  -- there is no current line
  pub ends-good : length check.line ≡ 0 → length check.due.text ≡ 0 → IsVerdict start read (Good check.events)
  ends-good empty none =
      let was = at.event none in
      let nothing = length-kept (open_line_of read) (ap length (sym was.line) ∙ empty) in
      rw (lines-none read nothing) (was.replies, at.events)

  -- no byte of the last reply has arrived
  pub ends-missing : 0 < length check.due.text → check.due.come ≡ 0 → IsVerdict start read (Bad (2 * check.events))
  ends-missing some none =
      let was = at.reply some in
      let nothing : length (open_line_of read) ≡ 0 = sym was.come.count ∙ none in
      rw (lines-none read nothing, at.events) (reply-missing start (ended_lines_of read) check.due.text was.replies)

  -- the last reply is right except for its line feed
  pub ends-whole : 0 < length check.due.text → 0 < check.due.come
      → ((line : List ℕ) → HasCome check.due line → check.due.text ≡ line ++ 10 ∷ [])
      → IsVerdict start read (Good check.events)
  ends-whole some begun whole =
      let was = at.reply some in
      let line = open_line_of read in
      let last : 0 < length line = let count = was.come.count in omega arith in
      let one = reply-more start (ended_lines_of read) check.due.text was.replies line (whole line was.come) in
      rw (lines-last read last) (one.0, at.events ∙ ap length (sym one.1))

  -- the last reply is wrong
  pub ends-wrong : 0 < length check.due.text → 0 < check.due.come
      → ((line : List ℕ) → HasCome check.due line → ¬ (check.due.text ≡ line ++ 10 ∷ []))
      → IsVerdict start read (Bad (2 * check.events))
  ends-wrong some begun other =
      let was = at.reply some in
      let line = open_line_of read in
      let last : 0 < length line = let count = was.come.count in omega arith in
      rw (lines-last read last, at.events)
      (reply-wrong start (ended_lines_of read) check.due.text was.replies line [] (other line was.come))

-- ---- between two reads

-- for every continuation of the input
journal_of : (unread_first unread : Option (List ℕ)) (read : List ℕ) (verdict : Verdict) (start : Machine)
    → Consumes unread_first unread read → ((more : List ℕ) → IsVerdict start (read ++ more) verdict)
    → IfSome unread_first (λ journal. IsVerdict start journal verdict)
journal_of None unread read verdict start consumed is = tt
journal_of (Some all) None read verdict start consumed is = absurd consumed
journal_of (Some all) (Some more) read verdict start consumed is =
    subst (λ (l : List ℕ). IsVerdict start l verdict) (sym consumed) (is more)

-- at the end of the input
whole_of : (unread_first unread : Option (List ℕ)) (read : List ℕ) (verdict : Verdict) (start : Machine)
    → Consumes unread_first unread read → IsAtEnd unread → IsVerdict start read verdict
    → IfSome unread_first (λ journal. IsVerdict start journal verdict)
whole_of None unread read verdict start consumed end is = tt
whole_of (Some all) None read verdict start consumed end is = absurd consumed
whole_of (Some all) (Some more) read verdict start consumed end is =
    subst (λ (l : List ℕ). IsVerdict start l verdict)
    (sym (consumed ∙ ap (λ l. read ++ l) end ∙ append-nil read)) is

pub record IsReading (unread_first unread : Option (List ℕ)) (first now : Check) : Type 0 where
  pub read : List ℕ
  pub consumed : Consumes unread_first unread read
  pub checked : HasChecked read first now true

pub reading-begins : (unread : Option (List ℕ)) (first : Check) → IsReading unread unread first first
reading-begins unread first = record { read = []; consumed = Consumes-nil unread; checked = checked-nothing first }

module _ (unread_first unread unread_next : Option (List ℕ)) (first now : Check)
    (reading : IsReading unread_first unread first now) where
  pub reading-takes : (piece : List ℕ) (next : Check) → Consumes unread unread_next piece → HasChecked piece now next true
      → IsReading unread_first unread_next first next
  reading-takes piece next consumed checked = record {
    read = reading.read ++ piece;
    consumed = Consumes-trans unread_first unread unread_next reading.read piece reading.consumed consumed;
    checked = checked-then reading.read piece first now next true reading.checked checked;
  }

  pub reading-wrong : (piece : List ℕ) (next : Check) (start : Machine) → Consumes unread unread_next piece
      → HasChecked piece now next false → IsCheckedTo start [] first
      → IfSome unread_first (λ journal. IsVerdict start journal (Bad (2 * next.events)))
  reading-wrong piece next start consumed checked begun =
      let all = checked-then reading.read piece first now next false reading.checked checked in
      journal_of unread_first unread_next (reading.read ++ piece) (Bad (2 * next.events)) start
      (Consumes-trans unread_first unread unread_next reading.read piece reading.consumed consumed)
      (λ more. all.wrong refl start [] more begun)

  pub reading-ends : (verdict : Verdict) (start : Machine) → Consumes unread unread_next [] → IsAtEnd unread_next
      → ((start : Machine) (read : List ℕ) → IsCheckedTo start read now → IsVerdict start read verdict)
      → IsCheckedTo start [] first
      → IfSome unread_first (λ journal. IsVerdict start journal verdict)
  reading-ends verdict start consumed end is begun =
      whole_of unread_first unread_next (reading.read ++ []) verdict start
      (Consumes-trans unread_first unread unread_next reading.read [] reading.consumed consumed) end
      (subst (λ (l : List ℕ). IsVerdict start l verdict) (sym (append-nil reading.read))
      (is start reading.read (reading.checked.goes_on refl start [] begun)))
