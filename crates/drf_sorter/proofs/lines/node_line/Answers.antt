use Rattle.std.proofs.Common.{◌≡◌, ◌∙◌, ap, sym}
use Rattle.drf_bundle.specs.Quantities.{amount_of}
use Rattle.drf_rows.specs.Share.{lowest_terms}
use Rattle.drf_sorter.specs.Fractions.{dominant_of, weigh, weighted}
use Rattle.drf_sorter.specs.Share.{terms}
use Rattle.drf_sorter.proofs.LineLemmas.{lowest-share}
use Rattle.drf_sorter.proofs.ShareLemmas.{fraction-unweighted}
use Rattle.drf_sorter.proofs.lines.node_line.Goals.{else-weight-eq-DEFAULT_WEIGHT, then-weight-eq-DEFAULT_WEIGHT}
use Rattle.drf_sorter.proofs.lines.node_line.Goals as goal

pub returns-clause-line : goal.returns-clause-line
returns-clause-line c =
    let total = c.args.total.now in
    let held = c.args.held in
    let dominant = dominant_of (amount_of held) total in
    let part = c.dominant_share-share.ensures in
    let plain = fraction-unweighted dominant c.dominant_share-share.result part in
    let share : terms c.lowest-lowest.result ≡ lowest_terms dominant =
    c.lowest-lowest.ensures.value
    ∙ lowest-share total (amount_of held) c.dominant_share-share.result c.recall.ensures c.requires.fits plain in
    let over : terms c.if-weight-eq-DEFAULT_WEIGHT.weighted ≡ lowest_terms (weigh dominant c.args.weight) =
    elim c.if-weight-eq-DEFAULT_WEIGHT.branch [
      | then-weight-eq-DEFAULT_WEIGHT w ↦
          ap terms w.weighted-is ∙ c.lowest-lowest.ensures.value ∙ ap lowest_terms plain
          ∙ ap (λ n. lowest_terms (weigh dominant n)) (sym w.if-weight-eq-DEFAULT_WEIGHT.true)
      | else-weight-eq-DEFAULT_WEIGHT w ↦
          ap terms w.weighted-is ∙ w.lowest-weighted.ensures.value
          ∙ (λ i. lowest_terms (w.over.ensures i))
          ∙ (λ i. lowest_terms (weighted (part.part i) (part.whole i) c.args.weight))
    ] in
    λ i. record {
      path = c.args.path;
      held = c.remove_zeros.ensures.value i;
      share = ((share i).part, (share i).whole);
      weighted = ((over i).part, (over i).whole);
      count = c.args.count;
    }
