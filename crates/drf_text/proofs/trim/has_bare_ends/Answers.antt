use Rattle.std.proofs.Common.{◌≡◌, ◌+◌, ◌-◌, List, ℕ, length, sym, ap, ◌∙◌, not, subst, arith}
use Rattle.std.proofs.lemmas.Bool.Decides.{nat_tests}
use Rattle.std.specs.Bool.{OnTrue}
use Rattle.drf_text.specs.Blanks.{trimmed}
use Rattle.drf_text.proofs.BlankLemmas.{bare_ends}
use Rattle.drf_text.proofs.trim.has_bare_ends.Goals as goal

pub returns : goal.returns
returns c =
    let bytes = c.as_bytes-bytes.result.now in
    let last : length bytes - 1 + 1 ≡ length bytes = grind (arith, nat_tests, c.is_empty.ensures, c.if-is_empty.false) in
    let bare = bare_ends bytes (not c.is_blank_byte-2.result) (length bytes - 1) 0 0 last (sym c.is_blank_byte.ensures ∙ c.if-is_blank_byte.false) (ap not c.is_blank_byte-2.ensures) in
    subst (λ (t : List ℕ). OnTrue (not c.is_blank_byte-2.result) (trimmed t ≡ t)) c.as_bytes-bytes.ensures.value bare
