-- A run within a chunk.
use Rattle.std.proofs.Common.{◌≡◌, ℕ, ◌+◌, ◌-◌, ◌<◌, List, [], ◌∷◌, ◌++◌, length, take, drop, get_or, ⊎_elim, inl, inr, refl, sym, ap, ◌∙◌, append_assoc, append-nil, arith}
use Rattle.std.proofs.Math.Seq.{take-append_seam}
use Rattle.std.proofs.lemmas.List.{length-append}
use Rattle.drf_lines.specs.Meaning.{meaning_of}
use Rattle.drf_journal.specs.Lines.{IsWithinLine}
use Rattle.drf_journal.specs.State.{State, machine_after, after_piece, HasTakenAtMost, AnswersPrefixOf}
use Rattle.drf_journal.proofs.Cuts.{cut_at}
use Rattle.drf_journal.proofs.Pieces.{piece-append, piece-nil, with_line, piece-line}

-- the run has taken a prefix of the chunk, and the rest remains
pub record TookPrefix (old now : State) (piece rest : List ℕ) : Type 0 where
  pub prefix : List ℕ
  pub whole : piece ≡ prefix ++ rest
  pub state : now ≡ after_piece old prefix

pub prefix-begins : (old : State) (piece : List ℕ) → TookPrefix old old piece piece
prefix-begins old piece = record { prefix = []; whole = refl; state = sym (piece-nil old) }

-- the length of the rest determines the state of the run
pub prefix-count : (old now : State) (piece rest : List ℕ) → TookPrefix old now piece rest
    → now ≡ after_piece old (take (length piece - length rest) piece)
prefix-count old now piece rest took =
    let counted : length piece - length rest ≡ length took.prefix =
    let all = ap length took.whole in let sum = length-append took.prefix rest in omega arith in
    took.state
    ∙ ap (after_piece old)
    (sym (ap (λ (n : ℕ). take n piece) counted ∙ ap (take (length took.prefix)) took.whole ∙ take-append_seam took.prefix rest))

-- it takes the bytes up to the next line feed
pub prefix-line : (old now next : State) (piece rest : List ℕ) (at : ℕ) → TookPrefix old now piece rest → at < length rest
    → get_or rest at 0 ≡ 10
    → next ≡ after_piece now (take at rest ++ 10 ∷ []) → TookPrefix old next piece (drop (at + 1) rest)
prefix-line old now next piece rest at took inside feed step = record {
  prefix = took.prefix ++ (take at rest ++ 10 ∷ []);
  whole = took.whole ∙ ap (λ l. took.prefix ++ l) (cut_at rest at inside feed)
      ∙ sym (append_assoc took.prefix (take at rest ++ 10 ∷ []) (drop (at + 1) rest));
  state = step ∙ ap (λ (t : State). after_piece t (take at rest ++ 10 ∷ [])) took.state
      ∙ sym (piece-append old took.prefix (take at rest ++ 10 ∷ []));
}

-- the run has answered the lines of a prefix, and the allocator has taken them
pub prefix-answers : (old now next : State) (piece rest : List ℕ) → TookPrefix old now piece rest
    → next.unsent ≡ now.unsent → next.lines ≡ now.lines → next.machine ≡ now.machine
    → AnswersPrefixOf old piece next
prefix-answers old now next piece rest took same counted still =
    let cut : take (length took.prefix) piece ≡ took.prefix = ap (take (length took.prefix)) took.whole
    ∙ take-append_seam took.prefix rest in
    let state : now ≡ after_piece old (take (length took.prefix) piece) = took.state ∙ ap (after_piece old) (sym cut) in
    record {
      answered_bytes = length took.prefix;
      unsent = same ∙ ap (λ (t : State). t.unsent) state;
      lines = counted ∙ ap (λ (t : State). t.lines) state;
      taken_bytes = length took.prefix;
      machine = still ∙ ap (λ (t : State). t.machine) state;
      ahead = inl refl;
    }

-- the allocator can have taken the current line too
pub prefix-ahead : (old now next : State) (piece rest : List ℕ) (at : ℕ) → TookPrefix old now piece rest
    → at < length rest → get_or rest at 0 ≡ 10 → IsWithinLine (take at rest)
    → next.unsent ≡ now.unsent → next.lines ≡ now.lines
    → HasTakenAtMost now.machine (now.pending ++ take at rest) next.machine
    → AnswersPrefixOf old piece next
prefix-ahead old now next piece rest at took inside feed within same counted taken =
    ⊎_elim (prefix-answers old now next piece rest took same counted)
    (λ (more : next.machine ≡ machine_after now.machine (meaning_of (now.pending ++ take at rest))).
    let line = take at rest in
    let past = prefix-line old now (after_piece now (line ++ 10 ∷ [])) piece rest at took inside feed refl in
    let whole : after_piece now (line ++ 10 ∷ []) ≡ with_line now (now.pending ++ line) = piece-line now line within in
    let cut : take (length took.prefix) piece ≡ took.prefix = ap (take (length took.prefix)) took.whole
    ∙ take-append_seam took.prefix rest in
    let far : take (length past.prefix) piece ≡ past.prefix = ap (take (length past.prefix)) past.whole
    ∙ take-append_seam past.prefix (drop (at + 1) rest) in
    let state : now ≡ after_piece old (take (length took.prefix) piece) = took.state ∙ ap (after_piece old) (sym cut) in
    let state_past : with_line now (now.pending ++ line) ≡ after_piece old (take (length past.prefix) piece) =
    sym whole ∙ past.state ∙ ap (after_piece old) (sym far) in
    record {
      answered_bytes = length took.prefix;
      unsent = same ∙ ap (λ (t : State). t.unsent) state;
      lines = counted ∙ ap (λ (t : State). t.lines) state;
      taken_bytes = length past.prefix;
      machine = more ∙ ap (λ (t : State). t.machine) state_past;
      ahead = inr (sym (ap (λ (t : State). t.lines) state_past) ∙ ap (λ (t : State). t.lines + 1) state);
    })
    taken

-- the rest is part of one line
pub prefix-keeps : (old now : State) (piece rest : List ℕ) → TookPrefix old now piece rest
    → after_piece now rest ≡ after_piece old piece
prefix-keeps old now piece rest took =
    ap (λ (t : State). after_piece t rest) took.state ∙ sym (piece-append old took.prefix rest)
    ∙ ap (after_piece old) (sym took.whole)

-- nothing remains
pub prefix-all : (old now : State) (piece rest : List ℕ) → TookPrefix old now piece rest → length rest ≡ 0
    → now ≡ after_piece old piece
prefix-all old now piece [] took none =
    took.state ∙ ap (after_piece old) (sym (append-nil took.prefix) ∙ sym took.whole)
prefix-all old now piece (x ∷ rest) took none = absurd (omega arith)
