use Rattle.std.proofs.Common.{◌≡◌, ◌∙◌, ◌*◌, ap, sym, arith}
use Rattle.std.specs.Int.{IsGcd}
use Rattle.drf_rows.specs.Share.{Fraction, lowest_terms}
use Rattle.drf_row_laws.proofs.LowestLaws.{divisor-above, lowest_terms-by, lowest_terms-nothing}
use Rattle.drf_sorter.specs.Fractions.{weighted}
use Rattle.drf_sorter.specs.Share.{fraction_of, terms}
use Rattle.drf_sorter.specs.laws.ShareLaws.{above_zero, below_128}
use Rattle.drf_sorter.proofs.ShareLemmas.{lowest-of_weight_one, lowest-terms_are}
use Rattle.drf_sorter.proofs.share.Share.lowest.Goals as goal

pub returns-then-self-eq0-clause-value : goal.returns-then-self-eq0-clause-value
returns-then-self-eq0-clause-value c =
    let s = c.args.self.now in
    sym
    (ap (λ n. lowest_terms (weighted n s.whole s.weight)) c.if-self-eq0.true
    ∙ lowest_terms-nothing (fraction_of s).whole (above_zero s) (below_128 s))

pub nonzero_div-self : goal.nonzero_div-self
nonzero_div-self c =
    let s = c.args.self.now in
    divisor-above s.part s.whole c.short_divisor-divisor.result s.some c.short_divisor-divisor.ensures

pub nonzero_div-self-then-self-eq-DEFAULT_WEIGHT : goal.nonzero_div-self-then-self-eq-DEFAULT_WEIGHT
nonzero_div-self-then-self-eq-DEFAULT_WEIGHT c =
    let s = c.args.self.now in
    divisor-above s.part s.whole c.short_divisor-divisor.result s.some c.short_divisor-divisor.ensures

pub returns-then-self-eq-DEFAULT_WEIGHT-clause-value : goal.returns-then-self-eq-DEFAULT_WEIGHT-clause-value
returns-then-self-eq-DEFAULT_WEIGHT-clause-value c =
    let s = c.args.self.now in
    let plain : Fraction = record { part = s.part; whole = s.whole } in
    (λ i. terms (c.from.ensures i, c.from-then-self-eq-DEFAULT_WEIGHT.ensures i))
    ∙ lowest_terms-by plain c.short_divisor-divisor.result s.some (omega (arith, s.fits)) c.short_divisor-divisor.ensures
    ∙ lowest-of_weight_one s c.if-self-eq-DEFAULT_WEIGHT.true

pub returns-then-self-eq-DEFAULT_WEIGHT-clause-lowest : goal.returns-then-self-eq-DEFAULT_WEIGHT-clause-lowest
returns-then-self-eq-DEFAULT_WEIGHT-clause-lowest c =
    lowest-terms_are c.args.self.now _ (returns-then-self-eq-DEFAULT_WEIGHT-clause-value c)

-- dividing by the greatest common divisor of the 128-bit numbers
long_divisor : (c : goal.After-common_divisor-divisor)
    → IsGcd (fraction_of c.args.self.now).part (fraction_of c.args.self.now).whole c.common_divisor-divisor.result
long_divisor c =
    let part : c.from-part.result * 1000 ≡ (fraction_of c.args.self.now).part = ap (λ n. n * 1000) c.from-part.ensures in
    let whole : c.from-2.result * c.from-3.result ≡ (fraction_of c.args.self.now).whole =
    (λ j. c.from-2.ensures j * c.from-3.ensures j) in
    rw (part, whole) at c.common_divisor-divisor.ensures

pub nonzero_div-result : goal.nonzero_div-result
nonzero_div-result c =
    let f = fraction_of c.args.self.now in
    divisor-above f.part f.whole c.common_divisor-divisor.result (above_zero c.args.self.now) (long_divisor c)

pub nonzero_div-result-2 : goal.nonzero_div-result-2
nonzero_div-result-2 c = nonzero_div-result c

pub returns-clause-value : goal.returns-clause-value
returns-clause-value c =
    let s = c.args.self.now in
    let part : c.from-part.result * 1000 ≡ (fraction_of s).part = ap (λ n. n * 1000) c.from-part.ensures in
    let whole : c.from-2.result * c.from-3.result ≡ (fraction_of s).whole = (λ j. c.from-2.ensures j * c.from-3.ensures j) in
    rw (part, whole) (lowest_terms-by (fraction_of s) c.common_divisor-divisor.result (above_zero s) (below_128 s) (long_divisor c))

pub returns-clause-lowest : goal.returns-clause-lowest
returns-clause-lowest c = lowest-terms_are c.args.self.now _ (returns-clause-value c)
