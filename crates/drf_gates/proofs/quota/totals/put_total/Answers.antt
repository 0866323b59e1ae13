use Rattle.std.proofs.Common.{ap, subst, sym, ◌∙◌, arith}
use Rattle.std.specs.Prelude.{All}
use Rattle.std.proofs.lemmas.List.Elements.{All-take}
use Rattle.drf_role.specs.Path.{Path, same_path}
use Rattle.indexmap.specs.IndexMap.{insert_entry}
use Rattle.drf_rows.specs.LimitNumbers.{LimitNumbers}
use Rattle.drf_gates.specs.quota.Totals.{IsExact}
use Rattle.drf_gates.specs.declared.quota.totals.Total.{Total}
use Rattle.drf_gates.proofs.quota.Carry.{exact_put}
use Rattle.drf_gates.proofs.quota.totals.put_total.Goals as goal

pub returns : goal.returns
returns c = λ used its kept.
    let put = c.in_ok-insert.ensures.entries ∙ ap (λ (r : Path). insert_entry same_path c.args.totals.now.entries r c.args.total) c.in_ok-role.ensures in
    let one = λ (e : Path × Total). IsExact used e.0 e.1 in
    record {
      few = omega (arith, c.truncate.ensures.len, c.limits.ensures.value, ap (λ (l : LimitNumbers). l.limits) c.full.ensures);
      exact = subst (All one) (sym c.truncate.ensures.entries)
          (All-take one _ _ (subst (All one) (sym put) (exact_put used c.args.role.now c.args.total c.args.totals.now.entries its kept.exact)));
    }
