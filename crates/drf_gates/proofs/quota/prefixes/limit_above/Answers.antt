use Rattle.std.proofs.Common.{ℕ, Bor, sym, ap, ◌∙◌}
use Rattle.drf_role.specs.Path.{Path}
use Rattle.drf_role.specs.declared.role.Role.{Role}
use Rattle.drf_bundle.specs.declared.quantities.Quantities.{Quantities}
use Rattle.drf_gates.specs.quota.Prefix.{path_in, limits_at}
use Rattle.drf_gates.specs.quota.Allowance.{limit_rows}
use Rattle.drf_gates.proofs.quota.Prefix.{all_at}
use Rattle.drf_gates.proofs.quota.prefixes.limit_above.Goals as goal

pub returns : goal.returns
returns c =
    ap (λ (p : Path). limits_at p (limit_rows c.args.limits.now.entries)) (sym c.first_parts.ensures)
    ∙ all_at {F = ℕ × Bor Role × Bor Quantities} (λ f. f.1.now) (λ f. f.2.now) (path_in c.first_parts.result.text.now)
    c.args.limits.now.entries c.get_full.result c.len.ensures.unique c.get_full.ensures.key c.get_full.ensures.value
