-- The lines of the output, and which of them are answers.
use Rattle.std.proofs.Common.{◌≡◌, ℕ, zero, suc, Bool, true, false, not, cond, if◌then◌else◌, All, List, [], ◌∷◌, ◌++◌, map, take, Ok, Err, Result, refl, sym, ap, ◌∙◌, append_assoc}
use Rattle.std.proofs.lemmas.List.Elements.{All-nil, All-cons, All-head, All-tail}
use Rattle.json.specs.Print.{escape_byte}
use Rattle.serde_json.specs.Data.{Data}
use Rattle.serde_json.specs.Written.{compact_text}
use Rattle.drf_core.specs.Machine.{Machine}
use Rattle.drf_rows.specs.declared.event.Event.{Event}
use Rattle.drf_rows.specs.declared.reply.Reply.{Reply}
use Rattle.drf_rows.specs.declared.reply.Reply.TheVariants.{Done, Offers, Report, Refused}
use Rattle.drf_rows.specs.Step.{reply_to}
use Rattle.drf_lines.specs.declared.fault.LineFault.{LineFault}
use Rattle.drf_lines.specs.Fault.{fault_name, fault_number}
use Rattle.drf_lines.specs.Meaning.{meaning_of}
use Rattle.drf_lines.specs.ReplyLine.{line_of, refused_value, reply_value, reply_line, fault_line}
use Rattle.drf_lines.proofs.OneLines.{written_once}
use Rattle.drf_journal.specs.JournalLaws.{OutputLineByLine}
use Rattle.drf_journal.specs.Lines.{is_line_feed, IsWithinLine}
use Rattle.drf_journal.specs.Output.{kept_of, reply_line_after, output_of}
use Rattle.drf_journal.specs.State.{machine_after, machine_after_lines, answer_to}
use Rattle.drf_ask.specs.Answer.{answer_value, answer_line}
use Rattle.drf_ask.specs.Asked.{after_asked, after_all_asked, event_lines_of, Written, event_written, written_of, text_of_all, without_answers, begins_as_answer, IsWrittenInLines, IsLine, EachIsLine, AnswersAreMarked, AnswersStandBeside, QuestionsChangeNothing}
use Rattle.drf_ask.specs.Question.{is_question}
use Rattle.drf_ask.proofs.Answers.{answer_begins}

-- ---- these lines are the output

event_text : (echo : Bool) (machine : Machine) (line rest : List ℕ) (others : List Written)
    → text_of_all others ≡ rest → text_of_all (event_written echo machine line ++ others) ≡ answer_to echo machine line ++ rest
event_text true machine line rest others same =
    let reply = reply_line_after machine.limits machine.rows (meaning_of line) in
    ap (λ (text : List ℕ). (kept_of line ++ 10 ∷ []) ++ (reply ++ text)) same
    ∙ sym (append_assoc (kept_of line ++ 10 ∷ []) reply rest)
event_text false machine line rest others same =
    ap (λ (text : List ℕ). reply_line_after machine.limits machine.rows (meaning_of line) ++ text) same

line_text : (asks : Bool) (echo : Bool) (machine : Machine) (line rest : List ℕ) (others : List Written) → text_of_all others ≡ rest
    → text_of_all ((if asks then record { is_answer = true; text = answer_line echo machine line } ∷ [] else event_written echo machine line) ++ others)
    ≡ (if asks then answer_line echo machine line else answer_to echo machine line) ++ rest
line_text true echo machine line rest others same = ap (λ (text : List ℕ). answer_line echo machine line ++ text) same
line_text false echo machine line rest others same = event_text echo machine line rest others same

pub in_lines : IsWrittenInLines
in_lines machine echo [] = refl
in_lines machine echo (line ∷ lines) =
    line_text (is_question line) echo machine line _ (written_of (after_asked machine line) echo lines)
    (in_lines (after_asked machine line) echo lines)

-- ---- each output line is one line

within_take : (n : ℕ) (line : List ℕ) → IsWithinLine line → IsWithinLine (take n line)
within_take zero line is = All-nil (λ b. is_line_feed b ≡ false)
within_take (suc n) [] is = is
within_take (suc n) (b ∷ line) is =
    All-cons (λ b. is_line_feed b ≡ false) b (take n line) (All-head (λ b. is_line_feed b ≡ false) b line is)
    (within_take n line (All-tail (λ b. is_line_feed b ≡ false) b line is))

value_is_line : (value : Data) → IsLine (line_of value)
value_is_line value = (compact_text value, (written_once value, refl))

reply_is_line : (reply : Reply) → IsLine (reply_line reply)
unfolding reply_line
reply_is_line reply = value_is_line (reply_value reply)

fault_is_line : (fault : LineFault) → IsLine (fault_line fault)
unfolding fault_line
fault_is_line fault = value_is_line (refused_value (fault_name fault) (fault_number fault))

reply_written : (machine : Machine) (meaning : Result Event LineFault) → IsLine (reply_line_after machine.limits machine.rows meaning)
reply_written machine (Ok event) = reply_is_line (reply_to machine.limits machine.rows event)
reply_written machine (Err fault) = fault_is_line fault

answer_is_line : (echo : Bool) (machine : Machine) (line : List ℕ) → IsLine (answer_line echo machine line)
answer_is_line true machine line =
    let text = compact_text (answer_value machine line) in
    (63 ∷ text, (All-cons (λ b. is_line_feed b ≡ false) 63 text refl (written_once (answer_value machine line)), refl))
answer_is_line false machine line = value_is_line (answer_value machine line)

event_is_line : (echo : Bool) (machine : Machine) (line : List ℕ) (others : List Written) → IsWithinLine line
    → All (λ (w : Written). IsLine w.text) others → All (λ (w : Written). IsLine w.text) (event_written echo machine line ++ others)
event_is_line true machine line others is rest =
    let reply : Written = record { is_answer = false; text = reply_line_after machine.limits machine.rows (meaning_of line) } in
    All-cons (λ (w : Written). IsLine w.text) (record { is_answer = false; text = kept_of line ++ 10 ∷ [] }) (reply ∷ others)
    (kept_of line, (within_take 65537 line is, refl))
    (All-cons (λ (w : Written). IsLine w.text) reply others (reply_written machine (meaning_of line)) rest)
event_is_line false machine line others is rest =
    All-cons (λ (w : Written). IsLine w.text)
    (record { is_answer = false; text = reply_line_after machine.limits machine.rows (meaning_of line) }) others
    (reply_written machine (meaning_of line)) rest

each_written : (asks : Bool) (echo : Bool) (machine : Machine) (line : List ℕ) (others : List Written) → IsWithinLine line
    → All (λ (w : Written). IsLine w.text) others
    → All (λ (w : Written). IsLine w.text)
    ((if asks then record { is_answer = true; text = answer_line echo machine line } ∷ [] else event_written echo machine line) ++ others)
each_written true echo machine line others is rest =
    All-cons (λ (w : Written). IsLine w.text) (record { is_answer = true; text = answer_line echo machine line }) others
    (answer_is_line echo machine line) rest
each_written false echo machine line others is rest = event_is_line echo machine line others is rest

pub each_is_line : EachIsLine
each_is_line machine echo [] are = All-nil (λ (w : Written). IsLine w.text)
each_is_line machine echo (line ∷ lines) are =
    each_written (is_question line) echo machine line _ (All-head IsWithinLine line lines are)
    (each_is_line (after_asked machine line) echo lines (All-tail IsWithinLine line lines are))

-- ---- the output without the answers

nothing_written : (machine : Machine) (echo : Bool) → output_of machine echo [] ≡ []
unfolding output_of
nothing_written machine echo = refl

events_stay : (echo : Bool) (machine : Machine) (line : List ℕ) (others : List Written)
    → without_answers (event_written echo machine line ++ others) ≡ event_written echo machine line ++ without_answers others
events_stay true machine line others = refl
events_stay false machine line others = refl

module _ (by_line : OutputLineByLine) (echo : Bool) (machine : Machine) (line : List ℕ) (lines : List (List ℕ)) where
  beside_line : (asks : Bool)
      → ((m : Machine) → text_of_all (without_answers (written_of m echo lines)) ≡ output_of m echo (event_lines_of lines))
      → text_of_all (without_answers ((if asks then record { is_answer = true; text = answer_line echo machine line } ∷ [] else event_written echo machine line)
      ++ written_of (if asks then machine else machine_after machine (meaning_of line)) echo lines))
      ≡ output_of machine echo (cond (not asks) (line ∷ event_lines_of lines) (event_lines_of lines))
  beside_line true rest = rest machine
  beside_line false rest =
      let next = machine_after machine (meaning_of line) in
      ap text_of_all (events_stay echo machine line (written_of next echo lines))
      ∙ event_text echo machine line _ (without_answers (written_of next echo lines)) (rest next)
      ∙ sym (by_line machine echo line (event_lines_of lines))

pub beside : OutputLineByLine → AnswersStandBeside
beside by_line machine echo [] = sym (nothing_written machine echo)
beside by_line machine echo (line ∷ lines) =
    beside_line by_line echo machine line lines (is_question line) (λ m. beside by_line m echo lines)

after_line_asked : (asks : Bool) (machine : Machine) (line : List ℕ) (lines : List (List ℕ))
    → ((m : Machine) → after_all_asked m lines ≡ machine_after_lines m (event_lines_of lines))
    → after_all_asked (if asks then machine else machine_after machine (meaning_of line)) lines
    ≡ machine_after_lines machine (cond (not asks) (line ∷ event_lines_of lines) (event_lines_of lines))
after_line_asked true machine line lines rest = rest machine
after_line_asked false machine line lines rest = rest (machine_after machine (meaning_of line))

pub nothing_changed : QuestionsChangeNothing
nothing_changed machine [] = refl
nothing_changed machine (line ∷ lines) =
    after_line_asked (is_question line) machine line lines (λ m. nothing_changed m lines)

-- ---- how lines begin

begins_other : (echo : Bool) (reply : Reply) → begins_as_answer echo (reply_line reply) ≡ false
unfolding reply_line escape_byte
begins_other true Done = refl
begins_other true (Offers offers) = refl
begins_other true (Report report) = refl
begins_other true (Refused refusal) = refl
begins_other false Done = refl
begins_other false (Offers offers) = refl
begins_other false (Report report) = refl
begins_other false (Refused refusal) = refl

begins_fault : (echo : Bool) (fault : LineFault) → begins_as_answer echo (fault_line fault) ≡ false
unfolding fault_line escape_byte
begins_fault true fault = refl
begins_fault false fault = refl

reply_begins : (echo : Bool) (machine : Machine) (meaning : Result Event LineFault)
    → begins_as_answer echo (reply_line_after machine.limits machine.rows meaning) ≡ false
reply_begins echo machine (Ok event) = begins_other echo (reply_to machine.limits machine.rows event)
reply_begins echo machine (Err fault) = begins_fault echo fault

reported_begins : (line : List ℕ) → is_question line ≡ false → begins_as_answer true (kept_of line ++ 10 ∷ []) ≡ false
reported_begins [] other = refl
reported_begins (b ∷ line) other = rw other refl

event_begins : (echo : Bool) (machine : Machine) (line : List ℕ) (others : List Written) → is_question line ≡ false
    → map (λ (w : Written). begins_as_answer echo w.text) others ≡ map (λ (w : Written). w.is_answer) others
    → map (λ (w : Written). begins_as_answer echo w.text) (event_written echo machine line ++ others)
    ≡ map (λ (w : Written). w.is_answer) (event_written echo machine line ++ others)
event_begins true machine line others other rest =
    λ i. reported_begins line other i ∷ reply_begins true machine (meaning_of line) i ∷ rest i
event_begins false machine line others other rest =
    λ i. reply_begins false machine (meaning_of line) i ∷ rest i

line_begins : (asks : Bool) (echo : Bool) (machine : Machine) (line : List ℕ) (others : List Written) → is_question line ≡ asks
    → map (λ (w : Written). begins_as_answer echo w.text) others ≡ map (λ (w : Written). w.is_answer) others
    → map (λ (w : Written). begins_as_answer echo w.text)
    ((if asks then record { is_answer = true; text = answer_line echo machine line } ∷ [] else event_written echo machine line) ++ others)
    ≡ map (λ (w : Written). w.is_answer)
    ((if asks then record { is_answer = true; text = answer_line echo machine line } ∷ [] else event_written echo machine line) ++ others)
line_begins true echo machine line others is rest = λ i. answer_begins echo machine line i ∷ rest i
line_begins false echo machine line others is rest = event_begins echo machine line others is rest

pub marked : AnswersAreMarked
marked machine echo [] = refl
marked machine echo (line ∷ lines) =
    line_begins (is_question line) echo machine line _ refl (marked (after_asked machine line) echo lines)
