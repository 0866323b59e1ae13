use Rattle.std.proofs.Common.{◌≡◌, ◌≤◌, map, take, length}
use Rattle.drf_rows.specs.Members.{distinct}
use Rattle.drf_core.proofs.refusal.count_roles.Given as goal

-- the counted roles are the different roles so far
abbrev pub invariant-loop-role : goal.invariant-loop-role
invariant-loop-role l = record {
  counted : map (λ r. r.now) (take l.count l.counted) ≡ distinct (take l.role-index l.roles);
  number : l.count ≡ length (distinct (take l.role-index l.roles));
  few : l.count ≤ l.most;
}
