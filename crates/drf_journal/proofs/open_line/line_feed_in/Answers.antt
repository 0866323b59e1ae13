use Rattle.std.proofs.Common.{◌≡◌, ◌==◌, ◌<◌, ℕ, false, List, length, take, get_or, sym, subst, Option, Some, None, IfSome, IfNone, arith}
use Rattle.std.proofs.lemmas.Bool.{eqb-true, false_from_ne_true}
use Rattle.std.proofs.lemmas.List.{get_or-take, length-take, take_all}
use Rattle.std.proofs.lemmas.List.Elements.{All-from_get_or}
use Rattle.memchr.specs.Find.{IsFirstByte, Nowhere, Passes, is_byte}
use Rattle.drf_journal.specs.Lines.{IsWithinLine, is_line_feed}
use Rattle.drf_journal.proofs.open_line.line_feed_in.Goals as goal

within-prefix : (bytes : List ℕ) (n : ℕ) → Nowhere (Passes (is_byte 10) bytes) 0 n → IsWithinLine (take n bytes)
within-prefix bytes n none =
    All-from_get_or (λ (b : ℕ). is_line_feed b ≡ false) (take n bytes) 0
    (λ i below.
    let small : i < n = omega (arith, length-take n bytes, below) in
    subst (λ (b : ℕ). is_line_feed b ≡ false) (sym (get_or-take n bytes i 0 small))
    (false_from_ne_true (get_or bytes i 0 == 10) (none i (omega arith) small)))

found : (bytes : List ℕ) (place : Option ℕ) → IsFirstByte (is_byte 10) bytes place
    → IfSome place (λ at. (at < length bytes) × (get_or bytes at 0 ≡ 10) × IsWithinLine (take at bytes))
found bytes None first = tt
found bytes (Some at) first = (first.0.high, eqb-true (get_or bytes at 0) 10 first.1, within-prefix bytes at first.0.before)

none : (bytes : List ℕ) (place : Option ℕ) → IsFirstByte (is_byte 10) bytes place → IfNone place (IsWithinLine bytes)
none bytes None first = subst IsWithinLine (take_all (length bytes) bytes (omega arith)) (within-prefix bytes (length bytes) first)
none bytes (Some at) first = tt

pub returns-clause-found : goal.returns-clause-found
returns-clause-found c = found c.args.bytes.now c.memchr.result c.memchr.ensures

pub returns-clause-none : goal.returns-clause-none
returns-clause-none c = none c.args.bytes.now c.memchr.result c.memchr.ensures
