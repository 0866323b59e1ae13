-- What was read and written so far, and how a run ends.
use Rattle.std.proofs.Common.{◌≡◌, ℕ, ◌+◌, ◌-◌, ◌≤◌, Bool, true, false, List, [], ◌∷◌, ◌++◌, length, take, drop, Option, Ok, Err, ◌⊎◌, ⊎_elim, inl, inr, refl, sym, ap, ◌∙◌, subst, append_assoc, append-nil, take-append-drop, if◌then◌else◌, ◌==◌, arith}
use Rattle.std.proofs.Math.Seq.{take-append_seam}
use Rattle.std.specs.Io.{StartsWith}
use Rattle.std.specs.Io.KnownBytes.{Appends, Consumes, Keeps, IsAtEnd}
use Rattle.std.proofs.KnownBytes.{Appends-nil, Appends-trans, Consumes-nil, Consumes-trans, Consumes-kept}
use Rattle.std.proofs.lemmas.Bool.{ne_eqb}
use Rattle.std.proofs.lemmas.List.{length-append, take_all, take-append-le}
use Rattle.drf_core.specs.Machine.{Machine}
use Rattle.drf_lines.specs.Meaning.{meaning_of}
use Rattle.drf_journal.specs.declared.fault.RunFault.{RunFault}
use Rattle.drf_journal.specs.declared.fault.RunFault.TheVariants.{Read, Write, Memory}
use Rattle.drf_journal.specs.Device.{AppendsPrefixOf}
use Rattle.drf_journal.specs.Lines.{ended_lines_of, open_line_of, lines_of}
use Rattle.drf_journal.specs.Output.{output_of}
use Rattle.drf_journal.specs.State.{State, IsBegun, machine_after, machine_after_lines, after_line, after_piece, at_end, AnswersPrefixOf}
use Rattle.drf_journal.specs.Ended.{HaveEnded, HasTaken, HasServed, HasStopped, HasCause, HasFlushed}
use Rattle.drf_journal.proofs.Cuts.{within-nil, ended-within, goes_on}
use Rattle.drf_journal.proofs.Kept.{answer-kept, meaning-kept}
use Rattle.drf_journal.proofs.Pieces.{answers_from, after_lines, after_piece-lines, piece-nil, end-none, end-line, end-sent, end-counted, end-machine}
use Rattle.drf_journal.proofs.Parts.{prefix_of, reported-before, reported-more}
use Rattle.drf_journal.proofs.Texts.{text-lines, text-append, answers-append}

-- ---- the end of the input, given the lines that had ended and the open line

line_last : (s : State) (lines : List (List ℕ)) (next : List ℕ)
    → (after_line (after_lines s lines next)).unsent ≡ s.unsent ++ answers_from s.echo s.machine (lines ++ next ∷ [])
unfolding after_line
line_last s lines next =
    append_assoc s.unsent (answers_from s.echo s.machine lines) _
    ∙ ap (λ l. s.unsent ++ (answers_from s.echo s.machine lines ++ l))
    (answer-kept s.echo (machine_after_lines s.machine lines) next ∙ sym (append-nil _))
    ∙ ap (λ l. s.unsent ++ l) (sym (answers-append s.echo s.machine lines (next ∷ [])))

counted_last : (s : State) (lines : List (List ℕ)) (next : List ℕ)
    → (after_line (after_lines s lines next)).lines ≡ s.lines + length (lines ++ next ∷ [])
unfolding after_line
counted_last s lines next = let more = length-append lines (next ∷ []) in omega arith

machine_more : (machine : Machine) (lines : List (List ℕ)) (next : List ℕ)
    → machine_after (machine_after_lines machine lines) (meaning_of next) ≡ machine_after_lines machine (lines ++ next ∷ [])
machine_more machine [] next = refl
machine_more machine (line ∷ lines) next = machine_more (machine_after machine (meaning_of line)) lines next

machine_last : (s : State) (lines : List (List ℕ)) (next : List ℕ)
    → (after_line (after_lines s lines next)).machine ≡ machine_after_lines s.machine (lines ++ next ∷ [])
unfolding after_line
machine_last s lines next =
    ap (machine_after (machine_after_lines s.machine lines)) (meaning-kept next) ∙ machine_more s.machine lines next

-- the lines, and the open line if it is not empty
abbrev lines_with : List (List ℕ) → List ℕ → List (List ℕ)
lines_with lines next = lines ++ (if length next == 0 then [] else next ∷ [])

at_end_all : (s : State) (lines : List (List ℕ)) (next : List ℕ)
    → ((at_end (after_lines s lines next)).unsent ≡ s.unsent ++ answers_from s.echo s.machine (lines_with lines next))
    × ((at_end (after_lines s lines next)).lines ≡ s.lines + length (lines_with lines next))
    × ((at_end (after_lines s lines next)).machine ≡ machine_after_lines s.machine (lines_with lines next))
at_end_all s lines [] =
    let same = end-none (after_lines s lines []) refl in (
      ap (λ (t : State). t.unsent) same
          ∙ ap (λ l. s.unsent ++ answers_from s.echo s.machine l) (sym (append-nil lines)),
      ap (λ (t : State). t.lines) same ∙ ap (λ l. s.lines + length l) (sym (append-nil lines)),
      ap (λ (t : State). t.machine) same ∙ ap (machine_after_lines s.machine) (sym (append-nil lines)),
    )
at_end_all s lines (b ∷ next) =
    let whole = after_lines s lines (b ∷ next) in
    let ended : at_end whole ≡ after_line whole = end-line whole (omega arith) in
    let some = ne_eqb (length (b ∷ next)) 0 (λ e. omega arith) in
    rw some (
      ap (λ (t : State). t.unsent) ended ∙ line_last s lines (b ∷ next),
      ap (λ (t : State). t.lines) ended
          ∙ counted_last s lines (b ∷ next),
      ap (λ (t : State). t.machine) ended ∙ machine_last s lines (b ∷ next),
    )

-- ---- a prefix of an input

module _ (prefix more read : List ℕ) (whole : read ≡ prefix ++ more) where
  others : List (List ℕ)
  others = ended_lines_of (open_line_of prefix ++ more)

  parted : ended_lines_of read ≡ ended_lines_of prefix ++ others
  unfolding others
  parted = ap ended_lines_of whole ∙ (goes_on prefix more).lines

  parted_all : (last : List (List ℕ)) × (lines_of read ≡ ended_lines_of prefix ++ last)
  unfolding lines_of
  parted_all =
      let last = if length (open_line_of read) == 0 then [] else open_line_of read ∷ [] in
      (others ++ last, ap (λ l. l ++ last) parted ∙ append_assoc (ended_lines_of prefix) others last)

  -- the lines of the prefix come first
  ended_first : take (length (ended_lines_of prefix)) (ended_lines_of read) ≡ ended_lines_of prefix
  ended_first = ap (take (length (ended_lines_of prefix))) parted ∙ take-append_seam (ended_lines_of prefix) others

  lines_first : take (length (ended_lines_of prefix)) (lines_of read) ≡ ended_lines_of prefix
  lines_first = ap (take (length (ended_lines_of prefix))) parted_all.1
      ∙ take-append_seam (ended_lines_of prefix) parted_all.0

  ended_few : length (ended_lines_of prefix) ≤ length (ended_lines_of read)
  ended_few =
      let all = ap length parted in
      let sum = length-append (ended_lines_of prefix) others in
      omega arith

-- the bytes before the last 65,536 were read before the last chunk
early_count : (before piece : List ℕ) → length piece ≤ 65536
    → take (length (before ++ piece) - 65536) (before ++ piece) ≡ take (length (before ++ piece) - 65536) before
early_count before piece short =
    take-append-le _ before piece (let sum = length-append before piece in omega arith)

-- one line more than those of the prefix: the last line, if there is one
take_past : {A : Type 0} (prefix : List A) (last : Bool) (x : A)
    → take (length prefix + 1) (prefix ++ (if last then [] else x ∷ [])) ≡ prefix ++ (if last then [] else x ∷ [])
take_past prefix true x = let sum = length-append prefix [] in take_all _ _ (omega arith)
take_past prefix false x = let sum = length-append prefix (x ∷ []) in take_all _ _ (omega arith)

-- the state of reader, writer and run before the next read
pub record IsServing (old : State) (unread_first unread written_first written : Option (List ℕ)) (session : State)
    : Type 0 where
  pub read : List ℕ
  pub reported : List ℕ
  pub consumed : Consumes unread_first unread read
  pub appended : Appends written_first written reported
  pub state : record session { unsent = reported ++ session.unsent } ≡ after_piece old read
  pub sent : session.unsent ≡ []

module _ (old : State) (begins : IsBegun old) where
  abbrev text : List (List ℕ) → List ℕ
  text lines = output_of old.machine old.echo lines

  read_lines : (read : List ℕ) → after_piece old read ≡ after_lines old (ended_lines_of read) (open_line_of read)
  read_lines read = after_piece-lines old [] read within-nil (ap (λ (s : State). s.pending) begins)

  text_begun : (lines : List (List ℕ)) → old.unsent ++ answers_from old.echo old.machine lines ≡ text lines
  text_begun lines =
      ap (λ (s : State). s.unsent ++ answers_from old.echo old.machine lines) begins
      ∙ sym (text-lines old.machine old.echo lines)

  -- the text begins with that for the lines of a prefix
  text_rest : (prefix more read : List ℕ) → read ≡ prefix ++ more
      → (rest : List ℕ) × (text (ended_lines_of read) ≡ text (ended_lines_of prefix) ++ rest)
  text_rest prefix more read whole = (
    answers_from old.echo (machine_after_lines old.machine (ended_lines_of prefix)) (others prefix more read whole),
    ap text (parted prefix more read whole)
        ∙ text-append old.machine old.echo (ended_lines_of prefix) (others prefix more read whole),
  )

  number_from : (number : ℕ) → old.lines + number ≡ number
  number_from number = let none = ap (λ (s : State). s.lines) begins in omega arith

  -- the text so far, the number of lines, and the allocator
  text_ended : (read : List ℕ) → (after_piece old read).unsent ≡ text (ended_lines_of read)
  text_ended read = ap (λ (s : State). s.unsent) (read_lines read) ∙ text_begun (ended_lines_of read)

  number_ended : (read : List ℕ) → (after_piece old read).lines ≡ length (ended_lines_of read)
  number_ended read = ap (λ (s : State). s.lines) (read_lines read) ∙ number_from _

  machine_ended : (read : List ℕ) → (after_piece old read).machine ≡ machine_after_lines old.machine (ended_lines_of read)
  machine_ended read = ap (λ (s : State). s.machine) (read_lines read)

  -- the text for the whole input
  text_whole : (read : List ℕ) → (at_end (after_piece old read)).unsent ≡ text (lines_of read)
  unfolding lines_of
  text_whole read =
      ap (λ (s : State). (at_end s).unsent) (read_lines read)
      ∙ (at_end_all old (ended_lines_of read) (open_line_of read)).0
      ∙ text_begun (lines_with (ended_lines_of read) (open_line_of read))

  number_whole : (read : List ℕ) → (at_end (after_piece old read)).lines ≡ length (lines_of read)
  unfolding lines_of
  number_whole read =
      ap (λ (s : State). (at_end s).lines) (read_lines read)
      ∙ (at_end_all old (ended_lines_of read) (open_line_of read)).1 ∙ number_from _

  machine_whole : (read : List ℕ) → (at_end (after_piece old read)).machine
      ≡ machine_after_lines old.machine (lines_of read)
  unfolding lines_of
  machine_whole read =
      ap (λ (s : State). (at_end s).machine) (read_lines read)
      ∙ (at_end_all old (ended_lines_of read) (open_line_of read)).2

  pub serving-begins : (unread written : Option (List ℕ)) → IsServing old unread unread written written old
  serving-begins unread written = record {
    read = [];
    reported = [];
    consumed = Consumes-nil unread;
    appended = Appends-nil written;
    state = sym (piece-nil old);
    sent = ap (λ (s : State). s.unsent) begins;
  }

  module _ (unread_first unread unread_next written_first written written_next : Option (List ℕ)) (session : State)
      (serving : IsServing old unread_first unread written_first written session) where
    reported_so_far : serving.reported ≡ text (ended_lines_of serving.read)
    reported_so_far =
        sym (append-nil serving.reported) ∙ ap (λ l. serving.reported ++ l) (sym serving.sent)
        ∙ ap (λ (s : State). s.unsent) serving.state ∙ text_ended serving.read

    number_so_far : session.lines ≡ length (ended_lines_of serving.read)
    number_so_far = ap (λ (s : State). s.lines) serving.state ∙ number_ended serving.read

    whole_so_far : serving.read ≡ serving.read ++ []
    whole_so_far = sym (append-nil serving.read)

    all_ended : (unread_after : Option (List ℕ)) → HaveEnded (length (ended_lines_of serving.read)) serving.read unread_after
    all_ended unread_after = inl (omega arith)

    -- the written text begins with the text for the lines of a prefix of the bytes read
    prompt_so_far : (count : ℕ) (more : List ℕ)
        → StartsWith (serving.reported ++ more) (text (ended_lines_of (take count serving.read)))
    prompt_so_far count more =
        let first = text (ended_lines_of (take count serving.read)) in
        let rest = text_rest (take count serving.read) (drop count serving.read) serving.read
        (sym (take-append-drop count serving.read)) in
        ap (take (length first)) (ap (λ l. l ++ more) (reported_so_far ∙ rest.1) ∙ append_assoc first rest.0 more)
        ∙ take-append_seam first (rest.0 ++ more)

    prompt_untold : (count : ℕ) → StartsWith serving.reported (text (ended_lines_of (take count serving.read)))
    prompt_untold count = subst
        (λ written. StartsWith written (text (ended_lines_of (take count serving.read))))
        (append-nil serving.reported) (prompt_so_far count [])

    taken_so_far : (next : State) (unread_after : Option (List ℕ)) → next.machine ≡ session.machine
        → HasTaken old.machine next.machine (length (ended_lines_of serving.read)) serving.read unread_after
    taken_so_far next unread_after still = record {
      taken = length (ended_lines_of serving.read);
      machine =
          still ∙ ap (λ (s : State). s.machine) serving.state ∙ machine_ended serving.read
          ∙ ap (machine_after_lines old.machine) (sym (lines_first serving.read [] serving.read whole_so_far));
      ahead = inl refl;
      ended = all_ended unread_after;
    }

    -- the run after more of its input
    state_next : (piece : List ℕ) → record
        (after_piece session piece) { unsent = serving.reported ++ (after_piece session piece).unsent }
        ≡ after_piece old (serving.read ++ piece)
    state_next piece = reported-before old session serving.reported serving.read piece serving.state

    pub serving-takes : (piece : List ℕ) (next : State) → Consumes unread unread_next piece
        → Appends written written_next (after_piece session piece).unsent
        → next ≡ record (after_piece session piece) { unsent = [] }
        → IsServing old unread_first unread_next written_first written_next next
    serving-takes piece next consumed appended is = record {
      read = serving.read ++ piece;
      reported = serving.reported ++ (after_piece session piece).unsent;
      consumed = Consumes-trans _ _ _ _ _ serving.consumed consumed;
      appended = Appends-trans _ _ _ _ _ serving.appended appended;
      state = reported-more old session next serving.reported serving.read piece serving.state is;
      sent = ap (λ (s : State). s.unsent) is;
    }

    pub run-unread : Keeps unread unread_next
        → HasServed old unread_first unread_next written_first written session (Err Read)
    run-unread kept = record {
      run = record {
        read = serving.read;
        written = serving.reported;
        consumed = Consumes-kept _ _ _ _ serving.consumed kept;
        appended = serving.appended;
        lines = length (ended_lines_of serving.read);
        answered = record { output = reported_so_far; all_ended = refl };
        ended = all_ended unread_next;
        prompt = prompt_untold _;
      };
      counted = number_so_far;
      taken = taken_so_far session unread_next refl;
    }

    -- ---- at the end of the input

    module _ (consumed : Consumes unread unread_next []) where
      pub consumed_all : Consumes unread_first unread_next serving.read
      consumed_all = subst (Consumes unread_first unread_next) (append-nil serving.read)
          (Consumes-trans _ _ _ _ _ serving.consumed consumed)

      reported_at_end : serving.reported ++ (at_end session).unsent ≡ text (lines_of serving.read)
      reported_at_end = end-sent session serving.reported ∙ ap (λ (s : State). (at_end s).unsent) serving.state
          ∙ text_whole serving.read

      number_at_end : (at_end session).lines ≡ length (lines_of serving.read)
      number_at_end = end-counted session serving.reported ∙ ap (λ (s : State). (at_end s).lines) serving.state
          ∙ number_whole serving.read

      pub machine_at_end : (at_end session).machine ≡ machine_after_lines old.machine (lines_of serving.read)
      machine_at_end = end-machine session serving.reported ∙ ap (λ (s : State). (at_end s).machine) serving.state
          ∙ machine_whole serving.read

      taken_at_end : (next : State) → IsAtEnd unread_next → next.machine ≡ (at_end session).machine
          → HasTaken old.machine next.machine (length (lines_of serving.read)) serving.read unread_next
      taken_at_end next end is = record {
        taken = length (lines_of serving.read);
        machine = is ∙ machine_at_end
            ∙ ap (machine_after_lines old.machine) (sym (take_all _ (lines_of serving.read) (omega arith)));
        ahead = inl refl;
        ended = inr end;
      }

      taken_last : (next : State) → IsAtEnd unread_next → next.machine ≡ (at_end session).machine
          → HasTaken old.machine next.machine (length (ended_lines_of serving.read)) serving.read unread_next
      unfolding lines_of
      taken_last next end is = record {
        taken = length (ended_lines_of serving.read) + 1;
        machine = is ∙ machine_at_end
            ∙ ap (machine_after_lines old.machine) (sym (take_past (ended_lines_of serving.read) _ _));
        ahead = inr refl;
        ended = inr end;
      }

      pub run-forgotten : (next : State) → IsAtEnd unread_next → next.lines ≡ session.lines
          → (next.machine ≡ session.machine) ⊎ (next.machine ≡ (at_end session).machine)
          → HasServed old unread_first unread_next written_first written next (Err Memory)
      run-forgotten next end counted machine = record {
        run = record {
          read = serving.read;
          written = serving.reported;
          consumed = consumed_all;
          appended = serving.appended;
          lines = length (ended_lines_of serving.read);
          answered = record {
            output = reported_so_far ∙ ap text (sym (ended_first serving.read [] serving.read whole_so_far));
            had_ended = omega arith;
          };
          ended = all_ended unread_next;
          prompt = prompt_untold _;
        };
        counted = counted ∙ number_so_far;
        taken = ⊎_elim (taken_so_far next unread_next) (taken_last next end) machine;
      }

      pub run-unwritten : (next : State) → IsAtEnd unread_next → next ≡ at_end session
          → AppendsPrefixOf written written_next (at_end session).unsent
          → HasServed old unread_first unread_next written_first written_next next (Err Write)
      run-unwritten next end is sent =
          let all : take (length (lines_of serving.read)) (lines_of serving.read) ≡ lines_of serving.read =
          take_all _ _ (omega arith) in
          let start = prefix_of serving.reported (at_end session).unsent sent.0 _ (reported_at_end ∙ ap text (sym all)) in
          record {
            run = record {
              read = serving.read;
              written = serving.reported ++ take sent.0 (at_end session).unsent;
              consumed = consumed_all;
              appended = Appends-trans _ _ _ _ _ serving.appended sent.1;
              lines = length (lines_of serving.read);
              answered = record { count = start.0; output = start.1 };
              ended = inr end;
              prompt = prompt_so_far _ _;
            };
            counted = ap (λ (s : State). s.lines) is ∙ number_at_end;
            taken = taken_at_end next end (ap (λ (s : State). s.machine) is);
          }

      pub run-ends : (next : State) (lines : ℕ) → IsAtEnd unread_next → next ≡ record (at_end session) { unsent = [] }
          → Appends written written_next (at_end session).unsent → lines ≡ next.lines
          → HasServed old unread_first unread_next written_first written_next next (Ok lines)
      run-ends next lines end is sent reported =
          let counted : next.lines ≡ length (lines_of serving.read) = ap (λ (s : State). s.lines) is ∙ number_at_end in
          record {
            run = record {
              read = serving.read;
              written = serving.reported ++ (at_end session).unsent;
              consumed = consumed_all;
              appended = Appends-trans _ _ _ _ _ serving.appended sent;
              lines = length (lines_of serving.read);
              answered = record { output = reported_at_end; all_lines = refl; reported = reported ∙ counted };
              ended = inr end;
              prompt = prompt_so_far _ _;
            };
            counted = counted;
            taken = taken_at_end next end (ap (λ (s : State). s.machine) is);
          }

    -- ---- within a chunk

    module _ (piece : List ℕ) (next : State) (text_now : List ℕ) (short : length piece ≤ 65536)
        (consumed : Consumes unread unread_next piece)
        (answers : AnswersPrefixOf session piece (record next { unsent = text_now })) where
      abbrev read_now : List ℕ
      read_now = serving.read ++ piece

      -- the answered part of the input, and the part that the allocator has taken
      abbrev prefix : ℕ → List ℕ
      prefix count = serving.read ++ take count piece

      whole : (count : ℕ) → read_now ≡ prefix count ++ drop count piece
      whole count = sym (append_assoc serving.read (take count piece) (drop count piece)
          ∙ ap (λ l. serving.read ++ l) (take-append-drop count piece))

      number_at : (count : ℕ) → (after_piece session (take count piece)).lines ≡ length (ended_lines_of (prefix count))
      number_at count = ap (λ (s : State). s.lines) (state_next (take count piece)) ∙ number_ended (prefix count)

      few : (count : ℕ) → length (ended_lines_of (prefix count)) ≤ length (ended_lines_of read_now)
      few count = ended_few (prefix count) (drop count piece) read_now (whole count)

      reported_now : serving.reported ++ text_now ≡ text (ended_lines_of (prefix answers.answered_bytes))
      reported_now =
          ap (λ l. serving.reported ++ l) answers.unsent
          ∙ ap (λ (s : State). s.unsent) (state_next (take answers.answered_bytes piece))
          ∙ text_ended (prefix answers.answered_bytes)

      prompt_now : (more : List ℕ)
          → StartsWith (serving.reported ++ more) (text (ended_lines_of (take (length read_now - 65536) read_now)))
      prompt_now more = subst (λ prefix. StartsWith (serving.reported ++ more) (text (ended_lines_of prefix)))
          (sym (early_count serving.read piece short)) (prompt_so_far _ more)

      taken_now : HasTaken old.machine next.machine (length (ended_lines_of (prefix answers.answered_bytes))) read_now unread_next
      taken_now = record {
        taken = length (ended_lines_of (prefix answers.taken_bytes));
        machine =
            answers.machine ∙ ap (λ (s : State). s.machine) (state_next (take answers.taken_bytes piece))
            ∙ machine_ended (prefix answers.taken_bytes)
            ∙ ap (machine_after_lines old.machine)
            (sym (lines_first (prefix answers.taken_bytes) (drop answers.taken_bytes piece) read_now (whole answers.taken_bytes)));
        ahead =
            let taken = number_at answers.taken_bytes in
            let answered = number_at answers.answered_bytes in
            ⊎_elim (λ same. inl (sym taken ∙ same ∙ answered))
            (λ more. inr (sym taken ∙ more ∙ ap (λ n. n + 1) answered)) answers.ahead;
        ended = inl (few answers.taken_bytes);
      }

      run-forgets : Appends written written_next text_now
          → HasServed old unread_first unread_next written_first written_next next (Err Memory)
      run-forgets sent = record {
        run = record {
          read = read_now;
          written = serving.reported ++ text_now;
          consumed = Consumes-trans _ _ _ _ _ serving.consumed consumed;
          appended = Appends-trans _ _ _ _ _ serving.appended sent;
          lines = length (ended_lines_of (prefix answers.answered_bytes));
          answered = record {
            output = reported_now
                ∙ ap text (sym (ended_first (prefix answers.answered_bytes) (drop answers.answered_bytes piece) read_now
                (whole answers.answered_bytes)));
            had_ended = few answers.answered_bytes;
          };
          ended = inl (few answers.answered_bytes);
          prompt = prompt_now _;
        };
        counted = answers.lines ∙ number_at answers.answered_bytes;
        taken = taken_now;
      }

      run-fails : AppendsPrefixOf written written_next text_now
          → HasServed old unread_first unread_next written_first written_next next (Err Write)
      run-fails sent =
          let start = prefix_of serving.reported text_now sent.0 _
          (reported_now ∙ ap text (sym (lines_first (prefix answers.answered_bytes) (drop answers.answered_bytes piece) read_now
          (whole answers.answered_bytes)))) in
          record {
            run = record {
              read = read_now;
              written = serving.reported ++ take sent.0 text_now;
              consumed = Consumes-trans _ _ _ _ _ serving.consumed consumed;
              appended = Appends-trans _ _ _ _ _ serving.appended sent.1;
              lines = length (ended_lines_of (prefix answers.answered_bytes));
              answered = record { count = start.0; output = start.1 };
              ended = inl (few answers.answered_bytes);
              prompt = prompt_now _;
            };
            counted = answers.lines ∙ number_at answers.answered_bytes;
            taken = taken_now;
          }

  -- ---- before the first read

  pub never-served : (unread written : Option (List ℕ)) → HasServed old unread unread written written old (Err Memory)
  never-served unread written =
      let none : text (ended_lines_of []) ≡ [] =
      ap text (ended-within [] within-nil) ∙ text-lines old.machine old.echo [] in
      record {
        run = record {
          read = [];
          written = [];
          consumed = Consumes-nil unread;
          appended = Appends-nil written;
          lines = 0;
          answered = record { output = sym (text-lines old.machine old.echo []); had_ended = omega arith };
          ended = inl (omega arith);
          prompt = ap (λ (t : List ℕ). take (length t) []) none ∙ sym none;
        };
        counted = ap (λ (s : State). s.lines) begins;
        taken = record { taken = 0; machine = refl; ahead = inl refl; ended = inl (omega arith) };
      }

-- ---- the run stops within a chunk

pub run-stops : (old : State) (begins : IsBegun old)
    (unread_first unread unread_next written_first written written_next : Option (List ℕ)) (session : State)
    (serving : IsServing old unread_first unread written_first written session) (fault : RunFault) (piece : List ℕ) (next : State)
    → length piece ≤ 65536 → Consumes unread unread_next piece
    → HasStopped fault session piece next written written_next
    → HasServed old unread_first unread_next written_first written_next next (Err fault)
unfolding HasStopped
run-stops old begins _ _ _ _ _ _ session serving Read piece next short consumed stopped = absurd stopped
run-stops old begins _ _ _ _ _ _ session serving Write piece next short consumed stopped =
    run-fails old begins _ _ _ _ _ _ session serving piece next stopped.text short consumed stopped.answers stopped.prefix_sent
run-stops old begins _ _ _ _ _ _ session serving Memory piece next short consumed stopped =
    run-forgets old begins _ _ _ _ _ _ session serving piece next stopped.text short consumed stopped.answers stopped.sent

-- an error within a chunk is not an error of the reader
pub cause-stopped : (fault : RunFault) (reader_failed : Bool) (reads : ℕ) (writer_failed : Bool) → reader_failed ≡ false
    → HasCause {T = Unit {0}} (Err fault) false 0 writer_failed → HasCause {T = ℕ} (Err fault) reader_failed reads writer_failed
cause-stopped Read reader_failed reads writer_failed sound cause = absurd (⊎_elim (λ e. cc) (λ e. omega arith) cause.0)
cause-stopped Write reader_failed reads writer_failed sound cause = (sound, cause.1)
cause-stopped Memory reader_failed reads writer_failed sound cause = (sound, cause.1)

pub flushed-stopped : (A B : Type 0) (fault : RunFault) (flushed : Bool) → HasFlushed {T = A} (Err fault) flushed
    → HasFlushed {T = B} (Err fault) flushed
flushed-stopped A B Read flushed is = is
flushed-stopped A B Write flushed is = tt
flushed-stopped A B Memory flushed is = is
