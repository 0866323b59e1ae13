-- A chunk of the input that is answered in parts, each of which is sent before the next.
use Rattle.std.proofs.Common.{◌≡◌, ℕ, ◌+◌, List, [], ◌∷◌, ◌++◌, length, take, drop, Option, ⊎_elim, inl, inr, refl, sym, ap, ◌∙◌, subst, append_assoc, append-nil, take-append-drop, arith}
use Rattle.std.proofs.Math.Seq.{take-append_seam}
use Rattle.std.specs.Io.KnownBytes.{Appends}
use Rattle.std.proofs.KnownBytes.{Appends-nil, Appends-trans}
use Rattle.drf_journal.specs.declared.fault.RunFault.{RunFault}
use Rattle.drf_journal.specs.declared.fault.RunFault.TheVariants.{Read, Write, Memory}
use Rattle.drf_journal.specs.Device.{AppendsPrefixOf}
use Rattle.drf_journal.specs.State.{State, after_piece, AnswersPrefixOf}
use Rattle.drf_journal.specs.Ended.{HasStopped}
use Rattle.drf_journal.proofs.Pieces.{piece-nil, piece-append, piece-sent}

-- a prefix of the text to be written, after the text that was written
pub prefix_of : (reported more : List ℕ) (count : ℕ) (text : List ℕ) → reported ++ more ≡ text
    → (all : ℕ) × (reported ++ take count more ≡ take all text)
prefix_of reported more count text e =
    let prefix = reported ++ take count more in
    let whole : text ≡ prefix ++ drop count more =
    sym e ∙ ap (λ l. reported ++ l) (sym (take-append-drop count more))
    ∙ sym (append_assoc reported (take count more) (drop count more)) in
    (length prefix, sym (ap (take (length prefix)) whole ∙ take-append_seam prefix (drop count more)))

-- the text that was sent comes before the text for more of the input
pub reported-before : (old now : State) (reported prefix more : List ℕ)
    → record now { unsent = reported ++ now.unsent } ≡ after_piece old prefix
    → record (after_piece now more) { unsent = reported ++ (after_piece now more).unsent } ≡ after_piece old (prefix ++ more)
reported-before old now reported prefix more state =
    sym (piece-sent now reported more) ∙ ap (λ (s : State). after_piece s more) state ∙ sym (piece-append old prefix more)

pub reported-more : (old now next : State) (reported prefix more : List ℕ)
    → record now { unsent = reported ++ now.unsent } ≡ after_piece old prefix
    → next ≡ record (after_piece now more) { unsent = [] }
    → record next { unsent = (reported ++ (after_piece now more).unsent) ++ next.unsent } ≡ after_piece old (prefix ++ more)
reported-more old now next reported prefix more state is =
    ap (λ (s : State). record s { unsent = (reported ++ (after_piece now more).unsent) ++ s.unsent }) is
    ∙ ap (λ (l : List ℕ). record (after_piece now more) { unsent = l }) (append-nil (reported ++ (after_piece now more).unsent))
    ∙ reported-before old now reported prefix more state

-- the text for a prefix of a chunk was written, and the rest remains
pub record SentPrefix (old now : State) (piece rest : List ℕ) (written_first written : Option (List ℕ)) : Type 0 where
  pub prefix : List ℕ
  pub reported : List ℕ
  pub whole : piece ≡ prefix ++ rest
  pub state : record now { unsent = reported ++ now.unsent } ≡ after_piece old prefix
  pub sent : now.unsent ≡ []
  pub appended : Appends written_first written reported

pub sent-begins : (old : State) (piece : List ℕ) (written : Option (List ℕ)) → old.unsent ≡ []
    → SentPrefix old old piece piece written written
sent-begins old piece written none = record {
  prefix = [];
  reported = [];
  whole = refl;
  state = sym (piece-nil old);
  sent = none;
  appended = Appends-nil written;
}

module _ (old now : State) (piece rest : List ℕ) (written_first written written_next : Option (List ℕ))
    (so_far : SentPrefix old now piece rest written_first written) where
  whole_with : (count : ℕ) → piece ≡ (so_far.prefix ++ take count rest) ++ drop count rest
  whole_with count =
      so_far.whole ∙ ap (λ l. so_far.prefix ++ l) (sym (take-append-drop count rest))
      ∙ sym (append_assoc so_far.prefix (take count rest) (drop count rest))

  pub sent-more : (next : State) (count : ℕ) → next ≡ record (after_piece now (take count rest)) { unsent = [] }
      → Appends written written_next (after_piece now (take count rest)).unsent
      → SentPrefix old next piece (drop count rest) written_first written_next
  sent-more next count is appended = record {
    prefix = so_far.prefix ++ take count rest;
    reported = so_far.reported ++ (after_piece now (take count rest)).unsent;
    whole = whole_with count;
    state = reported-more old now next so_far.reported so_far.prefix (take count rest) so_far.state is;
    sent = ap (λ (s : State). s.unsent) is;
    appended = Appends-trans _ _ _ _ _ so_far.appended appended;
  }

  -- how far into the chunk the first `count` bytes of the rest reach
  abbrev far : ℕ → ℕ
  far count = length (so_far.prefix ++ take count rest)

  state_far : (count : ℕ) → record (after_piece now (take count rest)) { unsent = so_far.reported ++ (after_piece now (take count rest)).unsent }
      ≡ after_piece old (take (far count) piece)
  state_far count =
      reported-before old now so_far.reported so_far.prefix (take count rest) so_far.state
      ∙ ap (after_piece old)
      (sym (ap (take (far count)) (whole_with count) ∙ take-append_seam (so_far.prefix ++ take count rest) (drop count rest)))

  lines_far : (count : ℕ) → (after_piece now (take count rest)).lines ≡ (after_piece old (take (far count) piece)).lines
  lines_far count = ap (λ (s : State). s.lines) (state_far count)

  answers_far : (next : State) (text : List ℕ) → AnswersPrefixOf now rest (record next { unsent = text })
      → AnswersPrefixOf old piece (record next { unsent = so_far.reported ++ text })
  answers_far next text answers = record {
    answered_bytes = far answers.answered_bytes;
    unsent = ap (λ l. so_far.reported ++ l) answers.unsent ∙ ap (λ (s : State). s.unsent) (state_far answers.answered_bytes);
    lines = answers.lines ∙ lines_far answers.answered_bytes;
    taken_bytes = far answers.taken_bytes;
    machine = answers.machine ∙ ap (λ (s : State). s.machine) (state_far answers.taken_bytes);
    ahead =
        ⊎_elim (λ same. inl (sym (lines_far answers.taken_bytes) ∙ same ∙ lines_far answers.answered_bytes))
        (λ more. inr (sym (lines_far answers.taken_bytes) ∙ more ∙ ap (λ n. n + 1) (lines_far answers.answered_bytes)))
        answers.ahead;
  }

  pub stopped-far : (fault : RunFault) (next : State) → HasStopped fault now rest next written written_next
      → HasStopped fault old piece next written_first written_next
  unfolding HasStopped
  stopped-far Read next stopped = stopped
  stopped-far Write next stopped =
      let sent = stopped.prefix_sent in
      let all = prefix_of so_far.reported stopped.text sent.0 _ refl in
      record {
        text = so_far.reported ++ stopped.text;
        answers = answers_far next stopped.text stopped.answers;
        prefix_sent = (all.0, subst (Appends written_first written_next) all.1 (Appends-trans _ _ _ _ _ so_far.appended sent.1));
      }
  stopped-far Memory next stopped = record {
    text = so_far.reported ++ stopped.text;
    answers = answers_far next stopped.text stopped.answers;
    nothing_unsent = stopped.nothing_unsent;
    sent = Appends-trans _ _ _ _ _ so_far.appended stopped.sent;
  }

nothing : (xs : List ℕ) → length xs ≡ 0 → xs ≡ []
nothing [] none = refl
nothing (x ∷ xs) none = absurd (omega arith)

-- nothing remains
pub sent-whole : (old now : State) (piece rest : List ℕ) (written_first written : Option (List ℕ))
    → SentPrefix old now piece rest written_first written → length rest ≡ 0
    → (now ≡ record (after_piece old piece) { unsent = [] }) × Appends written_first written (after_piece old piece).unsent
sent-whole old now piece rest written_first written so_far none =
    let all : so_far.prefix ≡ piece =
    sym (append-nil so_far.prefix) ∙ ap (λ l. so_far.prefix ++ l) (sym (nothing rest none)) ∙ sym so_far.whole in
    let state : record now { unsent = so_far.reported ++ now.unsent } ≡ after_piece old piece = so_far.state ∙ ap (after_piece old) all in
    let reported : so_far.reported ≡ (after_piece old piece).unsent =
    sym (append-nil so_far.reported) ∙ ap (λ l. so_far.reported ++ l) (sym so_far.sent) ∙ ap (λ (s : State). s.unsent) state in (
      ap (λ (l : List ℕ). record now { unsent = l }) so_far.sent ∙ ap (λ (s : State). record s { unsent = [] }) state,
      subst (Appends written_first written) reported so_far.appended,
    )

-- ---- a part

pub stopped_write : (old now new : State) (piece : List ℕ) (written written_next : Option (List ℕ)) → AnswersPrefixOf old piece now
    → new ≡ now → AppendsPrefixOf written written_next now.unsent → HasStopped Write old piece new written written_next
unfolding HasStopped
stopped_write old now new piece written written_next answers same sent = record {
  text = now.unsent;
  answers = subst (λ (s : State). AnswersPrefixOf old piece (record s { unsent = now.unsent })) (sym same) answers;
  prefix_sent = sent;
}

pub stopped_memory : (old now new : State) (piece : List ℕ) (written written_next : Option (List ℕ)) → AnswersPrefixOf old piece now
    → new ≡ record now { unsent = [] } → Appends written written_next now.unsent
    → HasStopped Memory old piece new written written_next
unfolding HasStopped
stopped_memory old now new piece written written_next answers is sent = record {
  text = now.unsent;
  answers = subst (λ (s : State). AnswersPrefixOf old piece (record s { unsent = now.unsent })) (sym is) answers;
  nothing_unsent = ap (λ (s : State). s.unsent) is;
  sent = sent;
}
