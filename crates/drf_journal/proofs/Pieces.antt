-- A run after a chunk of its input.
use Rattle.std.proofs.Common.{◌≡◌, ℕ, ◌+◌, ◌≤◌, ◌<◌, Bool, true, false, eqb, List, [], ◌∷◌, ◌++◌, length, refl, sym, ap, ◌∙◌, append_assoc, append-nil, ◌⊎◌, ⊎_elim, inl, inr, arith}
use Rattle.std.proofs.lemmas.List.Sums.{fold-append}
use Rattle.std.proofs.lemmas.Bool.{ne_eqb}
use Rattle.drf_core.specs.Machine.{Machine}
use Rattle.drf_lines.specs.Meaning.{meaning_of}
use Rattle.drf_journal.specs.Lines.{is_line_feed, ended_lines_of, open_line_of, IsWithinLine}
use Rattle.drf_journal.specs.Output.{kept_of}
use Rattle.drf_journal.specs.State.{State, machine_after, machine_after_lines, answer_to, after_line, after_byte, after_piece, at_end, HasTakenAtMost}
use Rattle.drf_journal.proofs.Cuts.{ended-feed, open-feed, ended-within, open-within, within-nil, within-push, within-head, within-tail}
use Rattle.drf_journal.proofs.Kept.{kept-append, meaning-kept, answer-kept}

-- the text for some lines, one after another
abbrev pub answers_from : Bool → Machine → List (List ℕ) → List ℕ
answers_from echo machine [] = []
answers_from echo machine (line ∷ lines) =
    answer_to echo machine line ++ answers_from echo (machine_after machine (meaning_of line)) lines

-- a run after some lines, with the kept bytes of the next one
abbrev pub after_lines : State → List (List ℕ) → List ℕ → State
after_lines s lines next = record {
  machine = machine_after_lines s.machine lines;
  echo = s.echo;
  pending = kept_of next;
  unsent = s.unsent ++ answers_from s.echo s.machine lines;
  lines = s.lines + length lines;
}

pub piece-append : (s : State) (prefix more : List ℕ)
    → after_piece s (prefix ++ more) ≡ after_piece (after_piece s prefix) more
unfolding after_piece
piece-append s prefix more = fold-append after_byte s prefix more

piece-feed : (s : State) (b : ℕ) (bytes : List ℕ) → is_line_feed b ≡ true
    → after_piece s (b ∷ bytes) ≡ after_piece (after_line s) bytes
unfolding after_piece
piece-feed s b bytes feed = rw feed

piece-other : (s : State) (b : ℕ) (bytes : List ℕ) → is_line_feed b ≡ false
    → after_piece s (b ∷ bytes) ≡ after_piece (record s { pending = kept_of (s.pending ++ b ∷ []) }) bytes
unfolding after_piece
piece-other s b bytes other = rw other

pub piece-nil : (s : State) → after_piece s [] ≡ s
unfolding after_piece
piece-nil s = refl

-- a line that ends is the first of the lines
line_first : (s : State) (line : List ℕ) (lines : List (List ℕ)) (next : List ℕ) → s.pending ≡ kept_of line
    → after_lines (after_line s) lines next ≡ after_lines s (line ∷ lines) next
unfolding after_line
line_first s line lines next kept =
    let meant : meaning_of s.pending ≡ meaning_of line = ap meaning_of kept ∙ meaning-kept line in
    let answered : answer_to s.echo s.machine s.pending ≡ answer_to s.echo s.machine line =
    ap (answer_to s.echo s.machine) kept ∙ answer-kept s.echo s.machine line in
    let unsent : (s.unsent ++ answer_to s.echo s.machine s.pending)
    ++ answers_from s.echo (machine_after s.machine (meaning_of s.pending)) lines
    ≡ s.unsent ++ (answer_to s.echo s.machine line
    ++ answers_from s.echo (machine_after s.machine (meaning_of line)) lines) =
    append_assoc s.unsent (answer_to s.echo s.machine s.pending) _
    ∙ (λ i. s.unsent ++ (answered i ++ answers_from s.echo (machine_after s.machine (meant i)) lines)) in
    let counted : (s.lines + 1) + length lines ≡ s.lines + length (line ∷ lines) = omega arith in
    λ i. record {
      machine = machine_after_lines (machine_after s.machine (meant i)) lines;
      echo = s.echo;
      pending = kept_of next;
      unsent = unsent i;
      lines = counted i;
    }

pending-nil : (s : State) → (after_line s).pending ≡ kept_of []
unfolding after_line
pending-nil s = refl

-- `line` is the part of the current line that came before the chunk
pub after_piece-lines : (s : State) (line bytes : List ℕ) → IsWithinLine line → s.pending ≡ kept_of line
    → after_piece s bytes ≡ after_lines s (ended_lines_of (line ++ bytes)) (open_line_of (line ++ bytes))
after_piece-lines s line [] within kept =
    let ended : ended_lines_of (line ++ []) ≡ [] = ap ended_lines_of (append-nil line) ∙ ended-within line within in
    let next : open_line_of (line ++ []) ≡ line = ap open_line_of (append-nil line) ∙ open-within line within in
    let counted : s.lines ≡ s.lines + 0 = omega arith in
    piece-nil s
    ∙ (λ i. record {
      machine = s.machine;
      echo = s.echo;
      pending = kept i;
      unsent = sym (append-nil s.unsent) i;
      lines =
          counted i;
    })
    ∙ (λ i. after_lines s (sym ended i) (sym next i))
after_piece-lines s line (b ∷ bytes) within kept =
    by_test (is_line_feed b) refl (after_piece-lines (after_line s) [] bytes within-nil (pending-nil s))
    (λ other.
    after_piece-lines (record s { pending = kept_of (s.pending ++ b ∷ []) }) (line ++ b ∷ []) bytes
    (within-push line b within other)
    (ap (λ p. kept_of (p ++ b ∷ [])) kept ∙ kept-append line (b ∷ [])))
  where
    by_test : (t : Bool) → is_line_feed b ≡ t
        → after_piece (after_line s) bytes ≡ after_lines (after_line s) (ended_lines_of bytes) (open_line_of bytes)
        → (is_line_feed b ≡ false → after_piece (record s { pending = kept_of (s.pending ++ b ∷ []) }) bytes
        ≡ after_lines s (ended_lines_of ((line ++ b ∷ []) ++ bytes)) (open_line_of ((line ++ b ∷ []) ++ bytes)))
        → after_piece s (b ∷ bytes) ≡ after_lines s (ended_lines_of (line ++ b ∷ bytes))
        (open_line_of (line ++ b ∷ bytes))
    by_test true feed rest same =
        piece-feed s b bytes feed ∙ rest
        ∙ line_first s line (ended_lines_of bytes) (open_line_of bytes) kept
        ∙ (λ i. after_lines s (sym (ended-feed line b bytes within feed) i)
        (sym (open-feed line b bytes within feed) i))
    by_test false other rest same =
        piece-other s b bytes other ∙ same other
        ∙ ap (λ l. after_lines s (ended_lines_of l) (open_line_of l)) (append_assoc line (b ∷ []) bytes)

-- ---- bytes of one line

pub piece-within : (s : State) (b : ℕ) (bytes : List ℕ) → IsWithinLine (b ∷ bytes)
    → after_piece s (b ∷ bytes) ≡ record s { pending = kept_of (s.pending ++ b ∷ bytes) }
piece-within s b [] within = piece-other s b [] (within-head b [] within) ∙ piece-nil _
piece-within s b (c ∷ bytes) within =
    let first = record s { pending = kept_of (s.pending ++ b ∷ []) } in
    piece-other s b (c ∷ bytes) (within-head b (c ∷ bytes) within)
    ∙ piece-within first c bytes (within-tail b (c ∷ bytes) within)
    ∙ ap (λ (p : List ℕ). record s { pending = p })
    (kept-append (s.pending ++ b ∷ []) (c ∷ bytes) ∙ ap kept_of (append_assoc s.pending (b ∷ []) (c ∷ bytes)))

pub piece-some : (s : State) (bytes : List ℕ) → IsWithinLine bytes → 0 < length bytes
    → after_piece s bytes ≡ record s { pending = kept_of (s.pending ++ bytes) }
piece-some s [] within some = absurd (omega arith)
piece-some s (b ∷ bytes) within some = piece-within s b bytes within

-- the run after a line that these bytes end
abbrev pub with_line : State → List ℕ → State
with_line s line = record {
  machine = machine_after s.machine (meaning_of line);
  echo = s.echo;
  pending = [];
  unsent = s.unsent ++ answer_to s.echo s.machine line;
  lines = s.lines + 1;
}

line-kept : (s : State) (line : List ℕ) → after_line (record s { pending = kept_of line }) ≡ with_line s line
unfolding after_line
line-kept s line = λ i. record {
  machine = machine_after s.machine (meaning-kept line i);
  echo = s.echo;
  pending = [];
  unsent = s.unsent ++ answer-kept s.echo s.machine line i;
  lines = s.lines + 1;
}

line-whole : (s : State) → after_line s ≡ with_line s (s.pending ++ [])
unfolding after_line
line-whole s = ap (with_line s) (sym (append-nil s.pending))

pub piece-line : (s : State) (bytes : List ℕ) → IsWithinLine bytes
    → after_piece s (bytes ++ 10 ∷ []) ≡ with_line s (s.pending ++ bytes)
piece-line s [] within = piece-feed s 10 [] refl ∙ piece-nil _ ∙ line-whole s
piece-line s (b ∷ bytes) within =
    piece-append s (b ∷ bytes) (10 ∷ []) ∙ ap (λ (t : State). after_piece t (10 ∷ [])) (piece-within s b bytes within)
    ∙ piece-feed _ 10 [] refl ∙ piece-nil _ ∙ line-kept s (s.pending ++ b ∷ bytes)

-- ---- unsent text comes after the text that was sent

line-sent : (s : State) (sent : List ℕ)
    → after_line (record s { unsent = sent ++ s.unsent })
    ≡ record (after_line s) { unsent = sent ++ (after_line s).unsent }
unfolding after_line
line-sent s sent = λ i. record {
  machine = machine_after s.machine (meaning_of s.pending);
  echo = s.echo;
  pending = [];
  unsent = append_assoc sent s.unsent (answer_to s.echo s.machine s.pending) i;
  lines = s.lines + 1;
}

pub piece-sent : (s : State) (sent bytes : List ℕ)
    → after_piece (record s { unsent = sent ++ s.unsent }) bytes
    ≡ record (after_piece s bytes) { unsent = sent ++ (after_piece s bytes).unsent }
piece-sent s sent [] = piece-nil _ ∙ ap (λ (t : State). record t { unsent = sent ++ t.unsent }) (sym (piece-nil s))
piece-sent s sent (b ∷ bytes) =
    by_test (is_line_feed b) refl (piece-sent (after_line s) sent bytes)
    (piece-sent (record s { pending = kept_of (s.pending ++ b ∷ []) }) sent bytes)
  where
    by_test : (t : Bool) → is_line_feed b ≡ t
        → after_piece (record (after_line s) { unsent = sent ++ (after_line s).unsent }) bytes
        ≡ record (after_piece (after_line s) bytes) { unsent = sent ++ (after_piece (after_line s) bytes).unsent }
        → after_piece (record s { pending = kept_of (s.pending ++ b ∷ []); unsent = sent ++ s.unsent }) bytes
        ≡ record (after_piece (record s { pending = kept_of (s.pending ++ b ∷ []) }) bytes) {
          unsent =
              sent ++ (after_piece (record s { pending = kept_of (s.pending ++ b ∷ []) }) bytes).unsent;
        }
        → after_piece (record s { unsent = sent ++ s.unsent }) (b ∷ bytes)
        ≡ record (after_piece s (b ∷ bytes)) { unsent = sent ++ (after_piece s (b ∷ bytes)).unsent }
    by_test true feed rest same =
        piece-feed _ b bytes feed ∙ ap (λ (t : State). after_piece t bytes) (line-sent s sent) ∙ rest
        ∙ ap (λ (t : State). record t { unsent = sent ++ t.unsent }) (sym (piece-feed s b bytes feed))
    by_test false other rest same =
        piece-other _ b bytes other ∙ same
        ∙ ap (λ (t : State). record t { unsent = sent ++ t.unsent }) (sym (piece-other s b bytes other))

-- ---- a byte ends at most one line

one_more : (s : State) → (after_line s).lines ≡ s.lines + 1
unfolding after_line
one_more s = refl

pub few_lines : (s : State) (bytes : List ℕ) → (after_piece s bytes).lines ≤ s.lines + length bytes
few_lines s [] = let same = ap (λ (t : State). t.lines) (piece-nil s) in omega arith
few_lines s (b ∷ bytes) = by_test (is_line_feed b) refl (few_lines (after_line s) bytes)
    (few_lines (record s { pending = kept_of (s.pending ++ b ∷ []) }) bytes)
  where
    by_test : (t : Bool) → is_line_feed b ≡ t
        → (after_piece (after_line s) bytes).lines ≤ (after_line s).lines + length bytes
        → (after_piece (record s { pending = kept_of (s.pending ++ b ∷ []) }) bytes).lines ≤ s.lines + length bytes
        → (after_piece s (b ∷ bytes)).lines ≤ s.lines + length (b ∷ bytes)
    by_test true feed rest same =
        let first = ap (λ (t : State). t.lines) (piece-feed s b bytes feed) in
        let more = one_more s in
        omega arith
    by_test false other rest same =
        let first = ap (λ (t : State). t.lines) (piece-other s b bytes other) in
        omega arith

-- ---- the end of the input

pub end-none : (s : State) → length s.pending ≡ 0 → at_end s ≡ s
unfolding at_end
end-none s none = rw none

pub end-some : (s : State) → 0 < length s.pending → at_end s ≡ after_piece s (10 ∷ [])
unfolding at_end
end-some s some = rw (ne_eqb (length s.pending) 0 (λ e. omega arith))
    (sym (piece-feed s 10 [] refl ∙ piece-nil (after_line s)))

pub end-line : (s : State) → 0 < length s.pending → at_end s ≡ after_line s
unfolding at_end
end-line s some = rw (ne_eqb (length s.pending) 0 (λ e. omega arith))

-- the allocator can have taken the last line
pub end-taken : (s : State) (machine : Machine) → 0 < length s.pending
    → HasTakenAtMost s.machine (s.pending ++ []) machine → (machine ≡ s.machine) ⊎ (machine ≡ (at_end s).machine)
end-taken s machine some taken =
    ⊎_elim (λ (same : machine ≡ s.machine). inl same)
    (λ (more : machine ≡ machine_after s.machine (meaning_of (s.pending ++ []))).
    inr (more ∙ sym (ap (λ (t : State). t.machine) (end-line s some ∙ line-whole s))))
    taken

at_end_apart : (s : State) (sent : List ℕ) (t : Bool) → eqb (length s.pending) 0 ≡ t
    → (sent ++ (at_end s).unsent ≡ (at_end (record s { unsent = sent ++ s.unsent })).unsent)
    × ((at_end s).lines ≡ (at_end (record s { unsent = sent ++ s.unsent })).lines)
    × ((at_end s).machine ≡ (at_end (record s { unsent = sent ++ s.unsent })).machine)
unfolding at_end after_line
at_end_apart s sent true e = rw e (refl, refl, refl)
at_end_apart s sent false e = rw e (sym (append_assoc sent s.unsent (answer_to s.echo s.machine s.pending)), refl, refl)

pub end-sent : (s : State) (sent : List ℕ)
    → sent ++ (at_end s).unsent ≡ (at_end (record s { unsent = sent ++ s.unsent })).unsent
end-sent s sent = (at_end_apart s sent (eqb (length s.pending) 0) refl).0

pub end-counted : (s : State) (sent : List ℕ)
    → (at_end s).lines ≡ (at_end (record s { unsent = sent ++ s.unsent })).lines
end-counted s sent = (at_end_apart s sent (eqb (length s.pending) 0) refl).1

pub end-machine : (s : State) (sent : List ℕ)
    → (at_end s).machine ≡ (at_end (record s { unsent = sent ++ s.unsent })).machine
end-machine s sent = (at_end_apart s sent (eqb (length s.pending) 0) refl).2
