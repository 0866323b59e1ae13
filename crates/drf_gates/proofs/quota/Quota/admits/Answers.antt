use Rattle.std.proofs.Common.{◌≡◌, ◌∙◌, false, rules, arith}
use Rattle.std.proofs.lemmas.Grind.{common_steps}
use Rattle.drf_rows.specs.Quota.{admits_under}
use Rattle.drf_gates.specs.quota.Allowance.{Allowance, used_at}
use Rattle.drf_gates.proofs.quota.Rows.{admits-its}
use Rattle.drf_gates.proofs.quota.Quota.admits.Goals as goal

pub returns-then-not-admits_one-clause-of_rows : goal.returns-then-not-admits_one-clause-of_rows
returns-then-not-admits_one-clause-of_rows c =
    let a : Allowance = c.args.self.now in
    let value : false ≡ admits_under c.args.self.now.limits (used_at c.args.self.now.used) c.args.role.now c.args.amounts.now =
    first_of (search rules, grind (arith, common_steps)) in
    λ rows its. value ∙ admits-its rows a its c.args.role.now c.args.amounts.now
