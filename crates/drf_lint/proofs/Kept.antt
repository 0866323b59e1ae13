-- As much of a line is stored as is needed to find its meaning.
use Rattle.std.proofs.Common.{◌≡◌, ℕ, zero, suc, ◌≤◌, ◌<◌, List, [], ◌∷◌, ◌++◌, length, take, Err, ⊎_elim, refl, sym, ap, ◌∙◌, arith}
use Rattle.std.proofs.lemmas.Bool.{lt-ltb, cases_lt}
use Rattle.std.proofs.lemmas.List.{length-append, length-take-le, take_all}
use Rattle.drf_lines.specs.Meaning.{longest_line, meaning_of}
use Rattle.drf_lines.specs.declared.fault.LineFault.TheVariants.{LineTooLong}
use Rattle.drf_journal.specs.Output.{kept_of}

prefix_is_enough : (n : ℕ) (xs ys : List ℕ) → take n (take n xs ++ ys) ≡ take n (xs ++ ys)
prefix_is_enough zero xs ys = refl
prefix_is_enough (suc n) [] ys = refl
prefix_is_enough (suc n) (x ∷ xs) ys = ap (λ l. x ∷ l) (prefix_is_enough n xs ys)

pub kept-append : (line more : List ℕ) → kept_of (kept_of line ++ more) ≡ kept_of (line ++ more)
kept-append line more = prefix_is_enough 65537 line more

too_long : (line : List ℕ) → longest_line < length line → meaning_of line ≡ Err LineTooLong
unfolding meaning_of
too_long line long = rw (lt-ltb longest_line (length line) long)

kept_or_whole : (line : List ℕ) → (meaning_of (kept_of line) ≡ meaning_of line) × (length (kept_of line) ≤ length line)
kept_or_whole line =
    ⊎_elim
    (λ (long : longest_line < length line).
    let kept : length (kept_of line) ≡ 65537 = length-take-le 65537 line (omega arith) in
    (too_long (kept_of line) (omega arith) ∙ sym (too_long line long), omega arith))
    (λ (short : length line ≤ longest_line).
    let whole : kept_of line ≡ line = take_all 65537 line (omega arith) in
    (ap meaning_of whole, let same = ap length whole in omega arith))
    (cases_lt longest_line (length line))

pub meaning-kept : (line : List ℕ) → meaning_of (kept_of line) ≡ meaning_of line
meaning-kept line = (kept_or_whole line).0

pub length-kept : (line : List ℕ) → length (kept_of line) ≤ length line
length-kept line = (kept_or_whole line).1

-- the stored bytes of a line, continued by more bytes, mean the same as the whole line continued by them
pub meaning-goes_on : (line more : List ℕ) → meaning_of (kept_of line ++ more) ≡ meaning_of (line ++ more)
meaning-goes_on line more =
    sym (meaning-kept (kept_of line ++ more)) ∙ ap meaning_of (kept-append line more) ∙ meaning-kept (line ++ more)

pub length-goes_on : (line more : List ℕ) → length (kept_of line ++ more) ≤ length (line ++ more)
length-goes_on line more =
    let a = length-append (kept_of line) more in let b = length-append line more in let c = length-kept line in omega arith
