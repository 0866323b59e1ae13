-- Inputs that are cut in two.
use Rattle.std.proofs.Common.{◌≡◌, ◌==◌, if◌then◌else◌, ℕ, ◌+◌, ◌<◌, Bool, true, false, List, [], ◌∷◌, ◌++◌, length, get_or, take, drop, refl, sym, ap, ◌∙◌, subst, append_assoc, append-nil, suc, add-one, take-append-drop, arith}
use Rattle.std.proofs.Math.Seq.{drop-cons}
use Rattle.std.specs.List.{slice_split}
use Rattle.std.proofs.lemmas.Bool.{ne_eqb}
use Rattle.std.proofs.lemmas.List.{length-append}
use Rattle.std.proofs.lemmas.List.Elements.{All-nil, All-cons, All-head, All-tail, All-append}
use Rattle.std.proofs.lemmas.List.Splits.{slice_split_at, slice_split_none, length-slice_split}
use Rattle.drf_journal.specs.Lines.{is_line_feed, all_but_last, last_part, ended_lines_of, open_line_of, lines_of, IsWithinLine}

first_ended : (prefix : List ℕ) (parts : List (List ℕ)) → 0 < length parts
    → all_but_last (prefix ∷ parts) ≡ prefix ∷ all_but_last parts
first_ended prefix [] some = absurd (omega arith)
first_ended prefix (part ∷ parts) some = refl

first_passed : (prefix : List ℕ) (parts : List (List ℕ)) → 0 < length parts → last_part (prefix ∷ parts) ≡ last_part parts
first_passed prefix [] some = absurd (omega arith)
first_passed prefix (part ∷ parts) some = refl

module _ (prefix : List ℕ) (b : ℕ) (rest : List ℕ) (within : IsWithinLine prefix) (feed : is_line_feed b ≡ true) where
  pub ended-feed : ended_lines_of (prefix ++ b ∷ rest) ≡ prefix ∷ ended_lines_of rest
  unfolding ended_lines_of
  ended-feed =
      ap all_but_last (slice_split_at is_line_feed prefix b rest within feed)
      ∙ first_ended prefix (slice_split is_line_feed rest) (omega (arith, length-slice_split is_line_feed rest))

  pub open-feed : open_line_of (prefix ++ b ∷ rest) ≡ open_line_of rest
  unfolding open_line_of
  open-feed =
      ap last_part (slice_split_at is_line_feed prefix b rest within feed)
      ∙ first_passed prefix (slice_split is_line_feed rest) (omega (arith, length-slice_split is_line_feed rest))

pub ended-within : (prefix : List ℕ) → IsWithinLine prefix → ended_lines_of prefix ≡ []
unfolding ended_lines_of
ended-within prefix within = ap all_but_last (slice_split_none is_line_feed prefix within)

pub open-within : (prefix : List ℕ) → IsWithinLine prefix → open_line_of prefix ≡ prefix
unfolding open_line_of
open-within prefix within = ap last_part (slice_split_none is_line_feed prefix within)

pub within-nil : IsWithinLine []
within-nil = All-nil (λ b. is_line_feed b ≡ false)

pub within-push : (prefix : List ℕ) (b : ℕ) → IsWithinLine prefix → is_line_feed b ≡ false
    → IsWithinLine (prefix ++ b ∷ [])
within-push prefix b within other =
    All-append (λ b. is_line_feed b ≡ false) prefix (b ∷ []) within
    (All-cons (λ b. is_line_feed b ≡ false) b [] other within-nil)

pub within-append : (prefix more : List ℕ) → IsWithinLine prefix → IsWithinLine more → IsWithinLine (prefix ++ more)
within-append prefix more within also = All-append (λ b. is_line_feed b ≡ false) prefix more within also

pub within-head : (b : ℕ) (bytes : List ℕ) → IsWithinLine (b ∷ bytes) → is_line_feed b ≡ false
within-head b bytes within = All-head (λ b. is_line_feed b ≡ false) b bytes within

pub within-tail : (b : ℕ) (bytes : List ℕ) → IsWithinLine (b ∷ bytes) → IsWithinLine bytes
within-tail b bytes within = All-tail (λ b. is_line_feed b ≡ false) b bytes within

pub cut_at : (rest : List ℕ) (at : ℕ) → at < length rest → get_or rest at 0 ≡ 10
    → rest ≡ (take at rest ++ 10 ∷ []) ++ drop (at + 1) rest
cut_at rest at inside feed =
    sym (take-append-drop at rest)
    ∙ ap (λ l. take at rest ++ l) (drop-cons rest at 0 inside ∙ ap (λ b. b ∷ drop (suc at) rest) feed
    ∙ ap (λ n. 10 ∷ drop n rest) (sym (add-one at)))
    ∙ sym (append_assoc (take at rest) (10 ∷ []) (drop (at + 1) rest))

-- ---- the lines of a prefix of an input come first among its lines

-- the lines of the prefix are followed by those of its open line with the rest
pub record GoesOn (prefix more : List ℕ) (whole : List ℕ) : Type 0 where
  pub lines : ended_lines_of whole ≡ ended_lines_of prefix ++ ended_lines_of (open_line_of prefix ++ more)
  pub line : open_line_of whole ≡ open_line_of (open_line_of prefix ++ more)
  pub within : IsWithinLine (open_line_of prefix)

goes_on_within : (line prefix more : List ℕ) → prefix ≡ line → IsWithinLine line → GoesOn prefix more (line ++ more)
goes_on_within line prefix more same within =
    let ended : ended_lines_of prefix ≡ [] = ap ended_lines_of same ∙ ended-within line within in
    let next : open_line_of prefix ≡ line = ap open_line_of same ∙ open-within line within in
    record {
      lines = λ i. sym ended i ++ ended_lines_of (sym next i ++ more);
      line = ap (λ (l : List ℕ). open_line_of (l ++ more)) (sym next);
      within = subst IsWithinLine (sym next) within;
    }

goes_on_from : (line prefix more : List ℕ) → IsWithinLine line → GoesOn (line ++ prefix) more (line ++ (prefix ++ more))
goes_on_from line [] more within = goes_on_within line (line ++ []) more (append-nil line) within
goes_on_from line (b ∷ prefix) more within =
    by_test (is_line_feed b) refl (goes_on_from [] prefix more within-nil)
    (λ other. goes_on_from (line ++ b ∷ []) prefix more (within-push line b within other))
  where
    by_test : (t : Bool) → is_line_feed b ≡ t → GoesOn prefix more (prefix ++ more)
        → (is_line_feed b ≡ false → GoesOn ((line ++ b ∷ []) ++ prefix) more ((line ++ b ∷ []) ++ (prefix ++ more)))
        → GoesOn (line ++ b ∷ prefix) more (line ++ (b ∷ prefix ++ more))
    by_test true feed rest same =
        let next : open_line_of (line ++ b ∷ prefix) ≡ open_line_of prefix = open-feed line b prefix within feed in
        record {
          lines =
              ended-feed line b (prefix ++ more) within feed ∙ ap (λ ls. line ∷ ls) rest.lines
              ∙ (λ i. sym (ended-feed line b prefix within feed) i ++ ended_lines_of (sym next i ++ more));
          line = open-feed line b (prefix ++ more) within feed ∙ rest.line
              ∙ ap (λ (l : List ℕ). open_line_of (l ++ more)) (sym next);
          within = subst IsWithinLine (sym next) rest.within;
        }
    by_test false other rest same =
        let next = same other in
        let prefix_is : (line ++ b ∷ []) ++ prefix ≡ line ++ b ∷ prefix = append_assoc line (b ∷ []) prefix in
        let whole_is : (line ++ b ∷ []) ++ (prefix ++ more) ≡ line ++ (b ∷ prefix ++ more) =
        append_assoc line (b ∷ []) (prefix ++ more) in
        subst (λ (l : List ℕ). GoesOn l more (line ++ (b ∷ prefix ++ more))) prefix_is
        (subst (GoesOn ((line ++ b ∷ []) ++ prefix) more) whole_is next)

pub goes_on : (prefix more : List ℕ) → GoesOn prefix more (prefix ++ more)
goes_on prefix more = goes_on_from [] prefix more within-nil

-- ---- all lines

pub lines-goes_on : (prefix more : List ℕ)
    → lines_of (prefix ++ more) ≡ ended_lines_of prefix ++ lines_of (open_line_of prefix ++ more)
unfolding lines_of
lines-goes_on prefix more =
    let on = goes_on prefix more in
    let last : List ℕ → List (List ℕ) = λ line. if length line == 0 then [] else line ∷ [] in
    (λ i. on.lines i ++ last (on.line i))
    ∙ append_assoc (ended_lines_of prefix) (ended_lines_of (open_line_of prefix ++ more)) (last (open_line_of (open_line_of prefix ++ more)))

pub lines-feed : (line rest : List ℕ) → IsWithinLine line → lines_of (line ++ 10 ∷ rest) ≡ line ∷ lines_of rest
unfolding lines_of
lines-feed line rest within =
    let last : List ℕ → List (List ℕ) = λ line. if length line == 0 then [] else line ∷ [] in
    λ i. ended-feed line 10 rest within refl i ++ last (open-feed line 10 rest within refl i)

pub lines-none : (read : List ℕ) → length (open_line_of read) ≡ 0 → lines_of read ≡ ended_lines_of read
unfolding lines_of
lines-none read none = rw none (append-nil (ended_lines_of read))

-- if the open line is not empty, it is the beginning of the first line
pub lines-begun : (line more : List ℕ) → IsWithinLine line → 0 < length line
    → (rest : List ℕ) × ((others : List (List ℕ)) × (lines_of (line ++ more) ≡ (line ++ rest) ∷ others))
unfolding lines_of
lines-begun line [] within some =
    let next : open_line_of (line ++ []) ≡ line = ap open_line_of (append-nil line) ∙ open-within line within in
    let ended : ended_lines_of (line ++ []) ≡ [] = ap ended_lines_of (append-nil line) ∙ ended-within line within in
    let test : (length line == 0) ≡ false = ne_eqb (length line) 0 (λ e. omega arith) in
    let last : List ℕ → List (List ℕ) = λ line. if length line == 0 then [] else line ∷ [] in (
      [],
      (
        [],
        (λ i. ended i ++ last (next i)) ∙ ap (λ (t : Bool). if t then [] else line ∷ []) test
            ∙ ap (λ (l : List ℕ). l ∷ []) (sym (append-nil line)),
      ),
    )
lines-begun line (b ∷ more) within some =
    by_test (is_line_feed b) refl (λ other.
    lines-begun (line ++ b ∷ []) more (within-push line b within other)
    (let sum = length-append line (b ∷ []) in omega arith))
  where
    by_test : (t : Bool) → is_line_feed b ≡ t
        → (is_line_feed b ≡ false → (rest : List ℕ) × ((others : List (List ℕ)) × (lines_of ((line ++ b ∷ []) ++ more) ≡ ((line ++ b ∷ []) ++ rest) ∷ others)))
        → (rest : List ℕ) × ((others : List (List ℕ)) × (lines_of (line ++ b ∷ more) ≡ (line ++ rest) ∷ others))
    by_test true feed same =
        let last : List ℕ → List (List ℕ) = λ line. if length line == 0 then [] else line ∷ [] in (
          [],
          (
            lines_of more,
            (λ i. ended-feed line b more within feed i ++ last (open-feed line b more within feed i))
                ∙ ap (λ (l : List ℕ). l ∷ lines_of more) (sym (append-nil line)),
          ),
        )
    by_test false other same =
        let found = same other in (
          b ∷ found.0,
          (
            found.1.0,
            ap lines_of (sym (append_assoc line (b ∷ []) more)) ∙ found.1.1
                ∙ ap (λ (l : List ℕ). l ∷ found.1.0) (append_assoc line (b ∷ []) found.0),
          ),
        )
