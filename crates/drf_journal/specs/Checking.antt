-- The check of a journal between two reads.
use Rattle.std.specs.Prelude.{refl, ◌≡◌, ℕ, ◌+◌, ◌*◌, ◌<◌, Bool, true, false, List, [], ◌∷◌, ◌++◌, length, drop}
use Rattle.std.specs.Coded.{Coded, code_by, coded×, coded_ℕ, coded_list}
use Rattle.drf_core.specs.Machine.{Machine, machine_code}
use Rattle.drf_lines.specs.Meaning.{meaning_of}
use Rattle.drf_journal.specs.declared.journal.Verdict.TheVariants.{Bad}
use Rattle.drf_journal.specs.Journal.{event_lines, replies_due, replies_there, IsVerdict}
use Rattle.drf_journal.specs.Lines.{ended_lines_of, open_line_of}
use Rattle.drf_journal.specs.Output.{kept_of, reply_line_after}
use Rattle.drf_journal.specs.State.{machine_after, machine_after_lines}

-- the reply line that is expected, if there is one, and how many of its bytes have arrived
pub record DueLine : Type 0 where
  pub text : List ℕ
  pub come : ℕ

-- an encoding by which proofs tell two of them apart
abbrev pub due_code : Coded DueLine
due_code = code_by (List ℕ × ℕ) (coded× (coded_list coded_ℕ) coded_ℕ) (λ d. (d.text, d.come)) (λ p. record { text = p.0; come = p.1 }) (λ _. refl)

-- these bytes of the expected line have arrived
pub record HasCome (due : DueLine) (bytes : List ℕ) : Type 0 where
  pub text : due.text ≡ bytes ++ drop due.come due.text
  pub count : due.come ≡ length bytes

-- the allocator after the event lines so far, the kept bytes of the current event line, the expected reply line, and
-- the number of event lines
pub record Check : Type 0 where
  pub machine : Machine
  pub line : List ℕ
  pub due : DueLine
  pub events : ℕ

-- an encoding by which proofs tell two of them apart
abbrev pub check_code : Coded Check
check_code = code_by (Machine × (List ℕ × (DueLine × ℕ)))
    (coded× machine_code (coded× (coded_list coded_ℕ) (coded× due_code coded_ℕ)))
    (λ c. (c.machine, (c.line, (c.due, c.events))))
    (λ p. record { machine = p.0; line = p.1.0; due = p.1.1.0; events = p.1.1.1 }) (λ _. refl)

-- an event line ended with these bytes: its event was taken, and its reply is expected
unfoldable pub after_event_line : Check → List ℕ → Check
after_event_line check end = record {
  machine = machine_after check.machine (meaning_of (check.line ++ end));
  line = [];
  due = record { text = reply_line_after check.machine.limits check.machine.rows (meaning_of (check.line ++ end)); come = 0 };
  events = check.events + 1;
}

-- all replies have arrived, and the current line is an event line
pub record ExpectsEvent (start : Machine) (read : List ℕ) (check : Check) : Type 0 where
  pub replies : replies_due start (ended_lines_of read) ≡ replies_there (ended_lines_of read)
  pub line : check.line ≡ kept_of (open_line_of read)

-- one reply is still missing, and the current line is this reply
pub record ExpectsReply (start : Machine) (read : List ℕ) (check : Check) : Type 0 where
  pub replies : replies_due start (ended_lines_of read) ≡ replies_there (ended_lines_of read) ++ check.due.text ∷ []
  pub line : check.line ≡ []
  pub come : HasCome check.due (open_line_of read)

-- the state of a check after these bytes of a journal that begins with this allocator, if no reply line was wrong
pub record IsCheckedTo (start : Machine) (read : List ℕ) (check : Check) : Type 0 where
  pub machine : check.machine ≡ machine_after_lines start (event_lines (ended_lines_of read))
  pub events : check.events ≡ length (event_lines (ended_lines_of read))
  pub event : length check.due.text ≡ 0 → ExpectsEvent start read check
  pub reply : 0 < length check.due.text → ExpectsReply start read check

-- A check processed the next bytes, and returned whether they are right. If they are not, the current reply line is the
-- first wrong one, whatever follows.
pub record HasChecked (piece : List ℕ) (old new : Check) (right : Bool) : Type 0 where
  pub goes_on : right ≡ true
      → (start : Machine) (read : List ℕ) → IsCheckedTo start read old → IsCheckedTo start (read ++ piece) new
  pub wrong : right ≡ false
      → (start : Machine) (read more : List ℕ) → IsCheckedTo start read old
      → IsVerdict start ((read ++ piece) ++ more) (Bad (2 * new.events))
