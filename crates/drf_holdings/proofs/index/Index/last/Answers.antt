use Rattle.std.proofs.Common.{◌≡◌, ◌-◌, ℕ, List, Option, Some, None, length, slice_get, refl, sym, ap, ◌∙◌, arith}
use Rattle.std.proofs.lemmas.Option.{slice_get_past, slice_get_read}
use Rattle.std.specs.Borrow.{Bor}
use Rattle.std.specs.Option.{option_copied}
use Rattle.std.specs.Slice.{IsGetResult}
use Rattle.drf_holdings.proofs.index.Index.last.Goals as goal

last_of : (ns : List ℕ) (r : Option (Bor ℕ)) (n : ℕ) → n ≡ length ns → IsGetResult ns 0 (n - 1) r → option_copied r ≡ slice_get ns (n - 1)
last_of ns None n long item = sym (slice_get_past ns (n - 1) (omega (arith, item.3, long)))
last_of ns (Some x) n long item = sym (slice_get_read ns (length ns) (n - 1) x.now refl (omega (arith, item.3.0, long)) item.1)

pub returns-in_err-numbers : goal.returns-in_err-numbers
returns-in_err-numbers c = rw c.from_residual.ensures (ap (λ ns. slice_get ns (length ns - 1)) c.in_err-numbers.ensures)

pub returns : goal.returns
returns c =
    let numbers = c.in_ok-numbers.numbers.now in
    c.copied.ensures ∙ last_of numbers.items c.back.result numbers.len numbers.ok.0 c.back.ensures.item
    ∙ ap (λ n. slice_get numbers.items (n - 1)) numbers.ok.0
    ∙ ap (λ ns. slice_get ns (length ns - 1)) c.in_ok-numbers.ensures
