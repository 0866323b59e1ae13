use Rattle.std.proofs.Common.{◌≡◌, ◌==◌, ◌&&◌, ap, ◌∙◌}
use Rattle.drf_rows.specs.Offers.{is_empty}
use Rattle.drf_tables.proofs.tables.Standing.{none_there}
use Rattle.drf_tables.proofs.tables.Tables.has_no_weights.Goals as goal

pub returns : goal.returns
returns c =
    let here : (c.weight_count.result == 0) ≡ is_empty c.args.self.now.rows.weights =
    ap (λ n. n == 0) c.weight_count.ensures ∙ none_there c.args.self.now.rows.weights in
    λ i. here i && c.has_no_limits.ensures i
