-- The bytes of a line that are kept are enough for its answer.
use Rattle.std.proofs.Common.{◌≡◌, ℕ, zero, suc, ◌+◌, ◌≤◌, ◌<◌, Bool, true, false, List, [], ◌∷◌, ◌++◌, length, take, Err, ⊎_elim, refl, sym, ap, ◌∙◌, arith}
use Rattle.std.proofs.lemmas.Bool.{lt-ltb, cases_lt}
use Rattle.std.proofs.lemmas.List.{take_all, length-take-le, take-take}
use Rattle.drf_core.specs.Machine.{Machine}
use Rattle.drf_lines.specs.Meaning.{longest_line, meaning_of}
use Rattle.drf_lines.specs.declared.fault.LineFault.TheVariants.{LineTooLong}
use Rattle.drf_journal.specs.Output.{kept_of, reply_line_after}
use Rattle.drf_journal.specs.State.{answer_to}

prefix_is_enough : (n : ℕ) (xs ys : List ℕ) → take n (take n xs ++ ys) ≡ take n (xs ++ ys)
prefix_is_enough zero xs ys = refl
prefix_is_enough (suc n) [] ys = refl
prefix_is_enough (suc n) (x ∷ xs) ys = ap (λ l. x ∷ l) (prefix_is_enough n xs ys)

pub kept-append : (line more : List ℕ) → kept_of (kept_of line ++ more) ≡ kept_of (line ++ more)
kept-append line more = prefix_is_enough (longest_line + 1) line more

pub kept-kept : (line : List ℕ) → kept_of (kept_of line) ≡ kept_of line
kept-kept line = take-take (longest_line + 1) (longest_line + 1) line (omega arith)

long_at : (line : List ℕ) → longest_line < length line → meaning_of line ≡ Err LineTooLong
unfolding meaning_of
long_at line long = rw (lt-ltb longest_line (length line) long)

pub meaning-kept : (line : List ℕ) → meaning_of (kept_of line) ≡ meaning_of line
meaning-kept line =
    ⊎_elim
    (λ (long : longest_line < length line).
    long_at (kept_of line) (let kept : length (kept_of line) ≡ longest_line + 1 =
    length-take-le (longest_line + 1) line (omega arith) in omega arith)
    ∙ sym (long_at line long))
    (λ (short : length line ≤ longest_line). ap meaning_of (take_all (longest_line + 1) line (omega arith)))
    (cases_lt longest_line (length line))

pub answer-kept : (echo : Bool) (machine : Machine) (line : List ℕ)
    → answer_to echo machine (kept_of line) ≡ answer_to echo machine line
answer-kept true machine line = λ i. (kept-kept line i ++ 10 ∷ []) ++ reply_line_after machine.limits machine.rows (meaning-kept line i)
answer-kept false machine line = ap (λ m. [] ++ reply_line_after machine.limits machine.rows m) (meaning-kept line)
