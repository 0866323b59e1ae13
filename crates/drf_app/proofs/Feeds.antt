-- An input whose last line gets a line feed.
use Rattle.std.proofs.Common.{◌≡◌, ℕ, ◌==◌, Bool, true, false, cond, List, [], ◌∷◌, ◌++◌, length, length-append, inl, inr, ⊎_elim, refl, sym, ap, ◌∙◌, arith, eqb-true}
use Rattle.drf_journal.specs.Lines.{ended_lines_of, is_line_feed, lines_of, open_line_of}
use Rattle.drf_journal.specs.Resumed.{IsCutBehindLine}
use Rattle.drf_journal.proofs.Cuts.{goes_on, lines-feed, lines-goes_on, open-feed, open-within, within-nil, within-push}
use Rattle.drf_app.specs.ResumeLaws.{with_last_feed}

-- ---- inputs without an open line

last_of : (b : ℕ) (bytes : List ℕ) → (prefix : List ℕ) × (last : ℕ) × (b ∷ bytes ≡ prefix ++ last ∷ [])
last_of b [] = ([], b, refl)
last_of b (c ∷ bytes) = let rest = last_of c bytes in (b ∷ rest.0, rest.1, ap (λ (l : List ℕ). b ∷ l) rest.2)

-- after a byte that is not a line feed, a line is open
open_behind : (prefix : List ℕ) (b : ℕ) → is_line_feed b ≡ false → open_line_of (prefix ++ b ∷ []) ≡ open_line_of prefix ++ b ∷ []
open_behind prefix b other =
    let on = goes_on prefix (b ∷ []) in
    on.line ∙ open-within (open_line_of prefix ++ b ∷ []) (within-push (open_line_of prefix) b on.within other)

cut_where : (bytes : List ℕ) → length (open_line_of bytes) ≡ 0 → IsCutBehindLine bytes
cut_where [] none = inl refl
cut_where (b ∷ bytes) none =
    let found = last_of b bytes in
    by found.0 found.1 found.2 (is_line_feed found.1) refl
  where
    by : (prefix : List ℕ) (last : ℕ) → b ∷ bytes ≡ prefix ++ last ∷ [] → (t : Bool) → is_line_feed last ≡ t → IsCutBehindLine (b ∷ bytes)
    by prefix last is true feed = inr (prefix, is ∙ ap (λ (c : ℕ). prefix ++ c ∷ []) (eqb-true last 10 feed))
    by prefix last is false other =
        let whole = ap length (ap open_line_of is ∙ open_behind prefix last other) in
        let sum = length-append (open_line_of prefix) (last ∷ []) in
        absurd (omega arith)

nothing_open : (bytes : List ℕ) → IsCutBehindLine bytes → open_line_of bytes ≡ []
nothing_open bytes cut =
    ⊎_elim (λ (none : bytes ≡ []). ap open_line_of none ∙ open-within [] within-nil)
    (λ (some : (prefix : List ℕ) × (bytes ≡ prefix ++ 10 ∷ [])).
    let on = goes_on some.0 (10 ∷ []) in
    ap open_line_of some.1 ∙ on.line ∙ open-feed (open_line_of some.0) 10 [] on.within refl ∙ open-within [] within-nil)
    cut

pub whole_stays : (input : List ℕ) → IsCutBehindLine input → with_last_feed input ≡ input
whole_stays input cut = rw (nothing_open input cut) refl

-- ---- with one more line feed

-- the input ends after a line, and has the same lines
pub record IsFed (input fed : List ℕ) : Type 0 where
  pub cut : IsCutBehindLine fed
  pub lines : lines_of fed ≡ lines_of input

lines_where : (input : List ℕ) → (length (open_line_of input) == 0) ≡ false → lines_of input ≡ ended_lines_of input ++ open_line_of input ∷ []
unfolding lines_of
lines_where input some = ap (λ (t : Bool). ended_lines_of input ++ cond t [] (open_line_of input ∷ [])) some

no_lines : lines_of [] ≡ []
unfolding lines_of ended_lines_of open_line_of
no_lines = refl

fed_with : (input : List ℕ) → (length (open_line_of input) == 0) ≡ false → lines_of (input ++ 10 ∷ []) ≡ lines_of input
fed_with input some =
    let on = goes_on input (10 ∷ []) in
    lines-goes_on input (10 ∷ [])
    ∙ ap (λ (ls : List (List ℕ)). ended_lines_of input ++ ls) (lines-feed (open_line_of input) [] on.within ∙ ap (λ (ls : List (List ℕ)). open_line_of input ∷ ls) no_lines)
    ∙ sym (lines_where input some)

pub fed : (input : List ℕ) → IsFed input (with_last_feed input)
fed input = by (length (open_line_of input) == 0) refl
  where
    by : (t : Bool) → (length (open_line_of input) == 0) ≡ t → IsFed input (cond t input (input ++ 10 ∷ []))
    by true none = record { cut = cut_where input (eqb-true (length (open_line_of input)) 0 none); lines = refl }
    by false some = record { cut = inr (input, refl); lines = fed_with input some }
