-- The stored totals of the roles that have a limit.
use Rattle.std.specs.Prelude.{◌≡◌, ◌≤◌, ℕ, Bool, ◌&&◌, nat_lt, List, All, IsTrue, length, if◌then◌else◌}
use Rattle.drf_role.specs.Text.{Text}
use Rattle.drf_role.specs.Path.{Path}
use Rattle.drf_role.specs.Role.{IsRole}
use Rattle.drf_bundle.specs.Quantities.{amount_of}
use Rattle.drf_rows.specs.LimitNumbers.{ceilings}
use Rattle.drf_rows.specs.Quota.{is_within}
use Rattle.drf_gates.specs.quota.Allowance.{Usage, AreSome, IsBounded, used_at}
use Rattle.drf_gates.specs.declared.quota.totals.Total.{Total}

-- the total of a role, if it is known, is what the role and the roles below it consume; nothing is claimed about the empty path
pub record IsExact (used : List Usage) (role : Path) (t : Total) : Type 0 where
  pub known : IsTrue t.is_known → IsRole role → (label : Text) → amount_of t.amounts label ≡ used_at used role label

-- there are at most as many totals as roles can have limits, and each is exact for the consumption that `used` gives for its role
pub record AreKept (used : Path → List Usage) (totals : List (Path × Total)) : Type 0 where
  pub few : length totals ≤ ceilings.limits
  pub exact : All (λ e. IsExact (used e.0) e.0 e.1) totals

abbrev pub AreExact : List Usage → List (Path × Total) → Type 0
AreExact used totals = AreKept (λ _. used) totals

-- the invariant of `Consumption`
pub record IsCounted (used : List Usage) (totals : List (Path × Total)) : Type 0 where
  pub bounded : IsBounded used
  pub some : AreSome used
  pub exact : AreExact used totals

-- `outer` is one of the role's prefixes with fewer than `n` parts
abbrev pub is_prefix_before : Path → ℕ → Path → Bool
is_prefix_before role n outer = nat_lt (length outer) n && is_within outer role

-- while a role's consumption changes: the totals of its prefixes with fewer than `n` parts are new, and the others are old
abbrev pub AreCarried : List Usage → List Usage → Path → ℕ → List (Path × Total) → Type 0
AreCarried old new role n totals = AreKept (λ outer. if is_prefix_before role n outer then new else old) totals
