-- How much text waits while a chunk is taken.
use Rattle.std.proofs.Common.{◌≡◌, ℕ, ◌+◌, ◌-◌, ◌≤◌, ◌<◌, false, List, [], ◌∷◌, ◌++◌, length, take, ⊎_elim, sym, ap, ◌∙◌, subst, arith}
use Rattle.std.proofs.Math.Seq.{take-append-add}
use Rattle.std.proofs.lemmas.Bool.{cases_lt}
use Rattle.std.proofs.lemmas.List.{take-take, length-append}
use Rattle.std.proofs.lemmas.List.Elements.{All-take}
use Rattle.drf_journal.specs.Lines.{is_line_feed, IsWithinLine}
use Rattle.drf_journal.specs.State.{State, after_piece, WaitsBelow}
use Rattle.drf_journal.proofs.Prefixes.{TookPrefix, prefix-count}
use Rattle.drf_journal.proofs.Pieces.{piece-append, piece-nil, piece-within}

pub waits-begins : (most : ℕ) (old : State) (piece : List ℕ) → length old.unsent < most → WaitsBelow most old piece 1
waits-begins most old piece below k first =
    let none : 0 ≡ k = omega arith in
    subst (λ (n : ℕ). length (after_piece old (take n piece)).unsent < most) none
    (subst (λ (t : State). length t.unsent < most) (sym (piece-nil old)) below)

-- bytes within a line add no text
within-unsent : (s : State) (bytes : List ℕ) → IsWithinLine bytes → (after_piece s bytes).unsent ≡ s.unsent
within-unsent s [] within = ap (λ (t : State). t.unsent) (piece-nil s)
within-unsent s (b ∷ bytes) within = ap (λ (t : State). t.unsent) (piece-within s b bytes within)

module _ (most : ℕ) (old now : State) (piece rest : List ℕ) (took : TookPrefix old now piece rest) where
  -- the number of bytes that were taken
  abbrev taken : ℕ
  taken = length piece - length rest

  -- as much text waits as after the last line feed
  text_in_line : (at : ℕ) → IsWithinLine (take at rest)
      → (after_piece old (take (taken + at) piece)).unsent ≡ (after_piece old (take taken piece)).unsent
  text_in_line at within =
      let counted : taken ≡ length took.prefix =
      let all = ap length took.whole in let sum = length-append took.prefix rest in omega arith in
      let prefix : take (taken + at) piece ≡ took.prefix ++ take at rest =
      ap (λ (n : ℕ). take (n + at) piece) counted ∙ ap (take (length took.prefix + at)) took.whole
      ∙ take-append-add took.prefix rest at in
      let state : after_piece old (take (taken + at) piece) ≡ after_piece now (take at rest) =
      ap (after_piece old) prefix ∙ piece-append old took.prefix (take at rest)
      ∙ ap (λ (t : State). after_piece t (take at rest)) (sym took.state) in
      ap (λ (t : State). t.unsent) state ∙ within-unsent now (take at rest) within
      ∙ ap (λ (t : State). t.unsent) (prefix-count old now piece rest took)

  -- bytes within a line can follow
  pub waits-within : (count : ℕ) → IsWithinLine (take count rest)
      → WaitsBelow most old piece (length piece - length rest + 1)
      → WaitsBelow most old piece (length piece - length rest + 1 + count)
  waits-within count within waits k inside =
      ⊎_elim (λ (early : k < taken + 1). waits k early)
      (λ (late : taken + 1 ≤ k).
      let place : taken + (k - taken) ≡ k = omega arith in
      let line : IsWithinLine (take (k - taken) rest) =
      subst IsWithinLine (take-take (k - taken) count rest (omega arith))
      (All-take (λ b. is_line_feed b ≡ false) (k - taken) (take count rest) within) in
      subst (λ (n : ℕ). length (after_piece old (take n piece)).unsent < most) place
      (subst (λ (text : List ℕ). length text < most) (sym (text_in_line (k - taken) line)) (waits taken (omega arith))))
      (cases_lt k (taken + 1))

  -- one more byte can follow
  pub waits-on : length now.unsent < most → WaitsBelow most old piece (length piece - length rest)
      → WaitsBelow most old piece (length piece - length rest + 1)
  waits-on below waits k inside =
      ⊎_elim (λ (early : k < taken). waits k early)
      (λ (last : taken ≤ k).
      let place : taken ≡ k = omega arith in
      subst (λ (n : ℕ). length (after_piece old (take n piece)).unsent < most) place
      (subst (λ (t : State). length t.unsent < most) (prefix-count old now piece rest took) below))
      (cases_lt k taken)
