-- Lemmas about splitting bytes into lines.
use Rattle.std.proofs.Common.{◌≡◌, ◌==◌, if◌then◌else◌, ℕ, ◌+◌, ◌<◌, Bool, false, List, [], ◌∷◌, ◌++◌, length, get_or, take, drop, refl, sym, ap, ◌∙◌, suc, add-one, take-append-drop, arith}
use Rattle.std.proofs.Math.Seq.{drop-cons}
use Rattle.std.specs.List.{slice_split}
use Rattle.std.proofs.lemmas.Bool.{ne_eqb}
use Rattle.std.proofs.lemmas.List.Splits.{slice_split_at, slice_split_none, length-slice_split}
use Rattle.drf_journal.specs.Lines.{is_line_feed, all_but_last, last_part, ended_lines_of, open_line_of, lines_of, IsWithinLine}

abbrev last_line : List ℕ → List (List ℕ)
last_line line = if length line == 0 then [] else line ∷ []

first_ended : (prefix : List ℕ) (parts : List (List ℕ)) → 0 < length parts
    → all_but_last (prefix ∷ parts) ≡ prefix ∷ all_but_last parts
first_ended prefix [] some = absurd (omega arith)
first_ended prefix (part ∷ parts) some = refl

first_passed : (prefix : List ℕ) (parts : List (List ℕ)) → 0 < length parts → last_part (prefix ∷ parts) ≡ last_part parts
first_passed prefix [] some = absurd (omega arith)
first_passed prefix (part ∷ parts) some = refl

pub lines-nil : lines_of [] ≡ []
unfolding lines_of ended_lines_of open_line_of
lines-nil = refl

-- a line that ends with a line feed is the first line
pub lines-feed : (line rest : List ℕ) → IsWithinLine line → lines_of (line ++ 10 ∷ rest) ≡ line ∷ lines_of rest
unfolding lines_of ended_lines_of open_line_of
lines-feed line rest within =
    let parts = slice_split_at is_line_feed line 10 rest within refl in
    let some : 0 < length (slice_split is_line_feed rest) = omega (arith, length-slice_split is_line_feed rest) in
    let ended = ap all_but_last parts ∙ first_ended line (slice_split is_line_feed rest) some in
    let open_part = ap last_part parts ∙ first_passed line (slice_split is_line_feed rest) some in
    λ i. ended i ++ last_line (open_part i)

-- bytes without a line feed are the only line
pub lines-alone : (line : List ℕ) → IsWithinLine line → 0 < length line → lines_of line ≡ line ∷ lines_of []
unfolding lines_of ended_lines_of open_line_of
lines-alone line within some =
    let parts = slice_split_none is_line_feed line within in
    let test : (length line == 0) ≡ false = ne_eqb (length line) 0 (λ e. omega arith) in
    (λ i. ap all_but_last parts i ++ last_line (ap last_part parts i)) ∙ ap (λ (t : Bool). if t then [] else line ∷ []) test

-- bytes that are split at a line feed
pub lines-cut : (bytes : List ℕ) (at : ℕ) → at < length bytes → get_or bytes at 0 ≡ 10 → IsWithinLine (take at bytes)
    → lines_of bytes ≡ take at bytes ∷ lines_of (drop (at + 1) bytes)
lines-cut bytes at inside feed within =
    ap lines_of (sym (take-append-drop at bytes)
    ∙ ap (λ l. take at bytes ++ l) (drop-cons bytes at 0 inside ∙ ap (λ b. b ∷ drop (suc at) bytes) feed
    ∙ ap (λ n. 10 ∷ drop n bytes) (sym (add-one at))))
    ∙ lines-feed (take at bytes) (drop (at + 1) bytes) within
