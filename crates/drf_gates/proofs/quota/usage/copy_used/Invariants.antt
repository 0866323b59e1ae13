use Rattle.std.proofs.Common.{◌≡◌, ◌+◌, Bool}
use Rattle.drf_role.specs.Path.{Path}
use Rattle.drf_role.specs.Text.{Text}
use Rattle.drf_gates.specs.quota.Allowance.{AreSome, used_where}
use Rattle.drf_gates.proofs.quota.usage.copy_used.Given as goal

-- the rows that were copied and those that remain are all rows, and each copied row has an amount above 0
abbrev pub invariant-loop-role : goal.invariant-loop-role
invariant-loop-role l = record {
  parts : (test : Path → Bool) (label : Text)
      → used_where test l.copy.entries label + used_where test l.role-iterator label ≡ used_where test l.used.entries label;
  some : AreSome l.copy.entries;
}
