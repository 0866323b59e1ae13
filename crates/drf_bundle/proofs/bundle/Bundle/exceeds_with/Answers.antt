use Rattle.std.proofs.Common.{◌≡◌, ◌∙◌, arith}
use Rattle.std.proofs.lemmas.Grind.{common_steps}
use Rattle.std.proofs.lemmas.Bool.Decides.{nat_tests}
use Rattle.drf_bundle.specs.Value.{Thousandths}
use Rattle.drf_bundle.specs.Bundle.{stock}
use Rattle.drf_bundle.proofs.theorems.SumLaws.{amount-kept}
use Rattle.drf_bundle.proofs.bundle.Bundle.exceeds_with.Goals as goal

pub returns : goal.returns
returns c =
    let name = c.args.label.now in
    let first : c.amount_of.result ≡ stock c.args.self.now name Thousandths =
    c.amount_of.ensures ∙ amount-kept c.args.self.now _ name (record { bundle = c.quantities.ensures.bundle; sums = c.quantities.ensures.value }) in
    let second : c.amount_of-2.result ≡ stock c.args.other.now name Thousandths =
    c.amount_of-2.ensures ∙ amount-kept c.args.other.now _ name (record { bundle = c.quantities-2.ensures.bundle; sums = c.quantities-2.ensures.value }) in
    rw (← first, ← second) (grind (arith, nat_tests, common_steps, c.checked_add-sum.ensures, c.is_none.ensures))
