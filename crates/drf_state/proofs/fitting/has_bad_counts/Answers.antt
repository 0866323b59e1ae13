use Rattle.std.proofs.Common.{◌+◌, ◌<◌, ◌≤◌, ◌^◌, ◌∷◌, [], ◌++◌, sum_by, sym, rules, arith}
use Rattle.std.proofs.lemmas.Bool.{le-leb}
use Rattle.drf_rows.specs.Consistent.{offers_counted}
use Rattle.drf_saved.specs.declared.saved.SavedRow.TheVariants.{Framework}
use Rattle.drf_state.proofs.Placed.{counts_with}
use Rattle.drf_state.proofs.fitting.has_bad_counts.Goals as goal

pub returns-in-None : goal.returns-in-None
returns-in-None c =
    let rows = c.args.tables.now.rows in
    let row = c.args.row.now in
    let many : 2 ^ 64 ≤ c.args.counted + sum_by (λ d. d.count) row.clients = rw c.as_slice.ensures at c.in-None.ensures.none in
    let small : c.next_offer-next.result < 2 ^ 64 = search rules in
    sym (le-leb rows.next_offer (offers_counted (rows.frameworks ++ row ∷ [])) (omega (
      arith,
      counts_with rows (Framework row) c.args.counted c.requires,
      c.next_offer-next.ensures,
      many,
      small,
    )))
