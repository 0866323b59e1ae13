-- A run with questions, line by line.
use Rattle.std.proofs.Common.{◌≡◌, ℕ, suc, ◌+◌, ◌<◌, Bool, true, false, not, cond, if◌then◌else◌, List, [], ◌∷◌, ◌++◌, length, take, drop, get_or, Option, refl, sym, ap, ◌∙◌, subst, append_assoc, append-nil, add-one, take-append-drop, arith}
use Rattle.std.proofs.Math.Seq.{drop-cons, take-append_seam, take-append-add}
use Rattle.std.proofs.lemmas.List.{length-append, take-take}
use Rattle.std.specs.Io.{StartsWith}
use Rattle.std.specs.Io.KnownBytes.{Appends}
use Rattle.std.proofs.KnownBytes.{Appends-trans}
use Rattle.drf_core.specs.Machine.{Machine}
use Rattle.drf_journal.specs.declared.fault.RunFault.{RunFault}
use Rattle.drf_journal.specs.declared.fault.RunFault.TheVariants.{Read, Write, Memory}
use Rattle.drf_journal.specs.Lines.{ended_lines_of, open_line_of, IsWithinLine}
use Rattle.drf_journal.specs.Output.{kept_of}
use Rattle.drf_ask.specs.Asked.{text_for, after_asked, after_all_asked, asked_of, event_lines_of}
use Rattle.drf_ask.specs.Asking.{Asking, after_line, count_of, IsAskedTo, HasPart, HasStoppedIn}
use Rattle.drf_ask.specs.Question.{is_question}
use Rattle.drf_ask.proofs.Kept.{Laws, text-kept, after-kept, count-kept}

-- ---- lines in two parts

pub asked-append : (machine : Machine) (echo : Bool) (prefix more : List (List ℕ))
    → asked_of machine echo (prefix ++ more) ≡ asked_of machine echo prefix ++ asked_of (after_all_asked machine prefix) echo more
asked-append machine echo [] more = refl
asked-append machine echo (line ∷ prefix) more =
    ap (λ text. text_for echo machine line ++ text) (asked-append (after_asked machine line) echo prefix more)
    ∙ sym (append_assoc (text_for echo machine line) _ _)

after-append : (machine : Machine) (prefix more : List (List ℕ))
    → after_all_asked machine (prefix ++ more) ≡ after_all_asked (after_all_asked machine prefix) more
after-append machine [] more = refl
after-append machine (line ∷ prefix) more = after-append (after_asked machine line) prefix more

pub asked-one : (machine : Machine) (echo : Bool) (prefix : List (List ℕ)) (line : List ℕ)
    → asked_of machine echo (prefix ++ line ∷ []) ≡ asked_of machine echo prefix ++ text_for echo (after_all_asked machine prefix) line
asked-one machine echo prefix line =
    asked-append machine echo prefix (line ∷ [])
    ∙ ap (λ text. asked_of machine echo prefix ++ text) (append-nil (text_for echo (after_all_asked machine prefix) line))

pub events-one : (prefix : List (List ℕ)) (line : List ℕ)
    → length (event_lines_of (prefix ++ line ∷ [])) ≡ length (event_lines_of prefix) + count_of line
events-one [] line = one (is_question line)
  where
    one : (asks : Bool) → length (cond (not asks) (line ∷ []) []) ≡ 0 + (if asks then 0 else 1)
    one true = refl
    one false = refl
events-one (first ∷ prefix) line = more (is_question first) (events-one prefix line)
  where
    more : (asks : Bool) → length (event_lines_of (prefix ++ line ∷ [])) ≡ length (event_lines_of prefix) + count_of line
        → length (cond (not asks) (first ∷ event_lines_of (prefix ++ line ∷ [])) (event_lines_of (prefix ++ line ∷ [])))
        ≡ length (cond (not asks) (first ∷ event_lines_of prefix) (event_lines_of prefix)) + count_of line
    more true same = same
    more false same = omega (arith, same)

-- ---- the first line feed

pub cut_at : (rest : List ℕ) (at : ℕ) → at < length rest → get_or rest at 0 ≡ 10
    → rest ≡ (take at rest ++ 10 ∷ []) ++ drop (at + 1) rest
cut_at rest at inside feed =
    sym (take-append-drop at rest)
    ∙ ap (λ l. take at rest ++ l) (drop-cons rest at 0 inside ∙ ap (λ b. b ∷ drop (suc at) rest) feed
    ∙ ap (λ n. 10 ∷ drop n rest) (sym (add-one at)))
    ∙ sym (append_assoc (take at rest) (10 ∷ []) (drop (at + 1) rest))

-- ---- prefixes of texts

-- a prefix of the second text after the whole first text
pub behind : (first second : List ℕ) (count : ℕ) → first ++ take count second ≡ take (length first + count) (first ++ second)
behind first second count = sym (take-append-add first second count)

pub begins : (first second : List ℕ) → StartsWith (first ++ second) first
begins first second = take-append_seam first second

pub begins_before : (written first second : List ℕ) → StartsWith written (first ++ second) → StartsWith written first
begins_before written first second whole =
    let cut : take (length first) (take (length (first ++ second)) written) ≡ take (length first) written =
    take-take (length first) (length (first ++ second)) written (let sum = length-append first second in omega arith) in
    sym cut ∙ ap (take (length first)) whole ∙ take-append_seam first second

-- ---- the parts of a run that its view shows

pub part_of_view : (fault : RunFault) (before after : Option (List ℕ)) (end kept : List ℕ) (old view : Asking)
    → kept ≡ kept_of (old.pending ++ end) → old ≡ view
    → HasPart fault before after (text_for old.echo old.machine kept)
    → HasPart fault before after (text_for view.echo view.machine (kept_of (view.pending ++ end)))
part_of_view fault before after end kept old view is same part =
    subst (λ (a : Asking). HasPart fault before after (text_for a.echo a.machine (kept_of (a.pending ++ end)))) same
    (subst (λ (line : List ℕ). HasPart fault before after (text_for old.echo old.machine line)) is part)

-- ---- steps

module _ (laws : Laws) where
  module _ (start : Machine) (echo : Bool) (read : List ℕ) (first now : Option (List ℕ)) (asking : Asking)
      (so_far : IsAskedTo start echo read first now asking) (end : List ℕ) where
    abbrev ended : List (List ℕ)
    ended = ended_lines_of read

    -- the current line, which these bytes end
    abbrev line : List ℕ
    line = open_line_of read ++ end

    pub line_is : kept_of (asking.pending ++ end) ≡ kept_of line
    line_is = ap (λ (l : List ℕ). kept_of (l ++ end)) so_far.pending ∙ laws.kept (open_line_of read) end

    pub text_is : text_for asking.echo asking.machine (kept_of (asking.pending ++ end)) ≡ text_for echo (after_all_asked start ended) line
    text_is = (λ i. text_for (so_far.reported_too i) (so_far.machine i) (line_is i)) ∙ text-kept laws echo (after_all_asked start ended) line

    pub text_after : asked_of start echo ended ++ text_for asking.echo asking.machine (kept_of (asking.pending ++ end))
        ≡ asked_of start echo (ended ++ line ∷ [])
    text_after = ap (λ text. asked_of start echo ended ++ text) text_is ∙ sym (asked-one start echo ended line)

    pub machine_after_it : after_asked asking.machine (kept_of (asking.pending ++ end)) ≡ after_all_asked start (ended ++ line ∷ [])
    machine_after_it =
        (λ i. after_asked (so_far.machine i) (line_is i)) ∙ after-kept laws (after_all_asked start ended) line
        ∙ sym (after-append start ended (line ∷ []))

    pub events_after : asking.events + count_of (kept_of (asking.pending ++ end)) ≡ length (event_lines_of (ended ++ line ∷ []))
    events_after =
        (λ i. so_far.events i + count_of (line_is i))
        ∙ ap (λ n. length (event_lines_of ended) + n) (count-kept line)
        ∙ sym (events-one ended line)

    -- the current line was answered
    pub line_answered : (next : Asking) (written_next : Option (List ℕ)) → IsWithinLine end → next ≡ after_line asking (kept_of (asking.pending ++ end))
        → Appends now written_next (text_for asking.echo asking.machine (kept_of (asking.pending ++ end)))
        → IsAskedTo start echo (read ++ (end ++ 10 ∷ [])) first written_next next
    line_answered next written_next within is reported =
        let cut = laws.feed read end within in
        record {
          written = subst (Appends first written_next) (text_after ∙ ap (asked_of start echo) (sym cut.0))
              (Appends-trans _ _ _ _ _ so_far.written reported);
          machine = ap (λ (a : Asking). a.machine) is ∙ machine_after_it ∙ ap (after_all_asked start) (sym cut.0);
          reported_too = ap (λ (a : Asking). a.echo) is ∙ so_far.reported_too;
          pending = ap (λ (a : Asking). a.pending) is ∙ ap kept_of (sym cut.1);
          events = ap (λ (a : Asking). a.events) is ∙ events_after ∙ ap (λ ls. length (event_lines_of ls)) (sym cut.0);
        }

    -- bytes of the current line were kept
    pub line_goes_on : (next : Asking) → IsWithinLine end → next ≡ record asking { pending = kept_of (asking.pending ++ end) }
        → IsAskedTo start echo (read ++ end) first now next
    line_goes_on next within is =
        let on = laws.within read end within in
        record {
          written = subst (λ ls. Appends first now (asked_of start echo ls)) (sym on.0) so_far.written;
          machine = ap (λ (a : Asking). a.machine) is ∙ so_far.machine ∙ ap (after_all_asked start) (sym on.0);
          reported_too = ap (λ (a : Asking). a.echo) is ∙ so_far.reported_too;
          pending = ap (λ (a : Asking). a.pending) is ∙ line_is ∙ ap kept_of (sym on.1);
          events = ap (λ (a : Asking). a.events) is ∙ so_far.events ∙ ap (λ ls. length (event_lines_of ls)) (sym on.0);
        }

    -- the run stops at the current line, which is the next one of all these
    pub stopped_at : (fault : RunFault) (written_next : Option (List ℕ)) (before others : List (List ℕ)) (later : List (List ℕ))
        → ended ≡ before ++ later
        → HasPart fault now written_next (text_for asking.echo asking.machine (kept_of (asking.pending ++ end)))
        → HasStoppedIn fault start echo before (ended ++ line ∷ others) first written_next
    unfolding HasPart
    stopped_at Read written_next before others later is part = absurd part
    stopped_at Write written_next before others later is part =
        let text = asked_of start echo ended in
        let next = text_for asking.echo asking.machine (kept_of (asking.pending ++ end)) in
        record {
          answered = ended ++ line ∷ [];
          more = others;
          whole = sym (append_assoc ended (line ∷ []) others);
          written = text ++ take part.0 next;
          appended = Appends-trans _ _ _ _ _ so_far.written part.1;
          prefix = (length text + part.0, behind text next part.0 ∙ ap (take (length text + part.0)) text_after);
          prompt = begins_after is (take part.0 next);
        }
      where
        begins_after : ended ≡ before ++ later → (more : List ℕ) → StartsWith (asked_of start echo ended ++ more) (asked_of start echo before)
        begins_after is more =
            begins_before (asked_of start echo ended ++ more) (asked_of start echo before) _
            (subst (λ (t : List ℕ). StartsWith (asked_of start echo ended ++ more) t)
            (ap (asked_of start echo) is ∙ asked-append start echo before later) (begins (asked_of start echo ended) more))
    stopped_at Memory written_next before others later is part =
        let text = asked_of start echo ended in
        record {
          answered = ended;
          more = line ∷ others;
          whole = refl;
          written = text;
          appended = subst (Appends first written_next) (append-nil text) (Appends-trans _ _ _ _ _ so_far.written part);
          prefix = refl;
          prompt = begins_before text (asked_of start echo before) _
              (subst (λ (t : List ℕ). StartsWith text t) (ap (asked_of start echo) is ∙ asked-append start echo before later)
              (subst (λ (t : List ℕ). StartsWith t text) (append-nil text) (begins text [])));
        }

  -- memory ran out within a line
  pub stopped_between : (start : Machine) (echo : Bool) (read : List ℕ) (first now : Option (List ℕ)) (asking : Asking)
      → IsAskedTo start echo read first now asking
      → (before later others : List (List ℕ)) → ended_lines_of read ≡ before ++ later
      → HasStoppedIn Memory start echo before (ended_lines_of read ++ others) first now
  stopped_between start echo read first now asking so_far before later others is =
      let text = asked_of start echo (ended_lines_of read) in
      record {
        answered = ended_lines_of read;
        more = others;
        whole = refl;
        written = text;
        appended = so_far.written;
        prefix = refl;
        prompt = begins_before text (asked_of start echo before) _
            (subst (λ (t : List ℕ). StartsWith text t) (ap (asked_of start echo) is ∙ asked-append start echo before later)
            (subst (λ (t : List ℕ). StartsWith t text) (append-nil text) (begins text [])));
      }
