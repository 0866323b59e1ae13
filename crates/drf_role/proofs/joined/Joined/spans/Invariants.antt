use Rattle.std.proofs.Common.{◌≡◌, ◌≤◌, ◌++◌, drop}
use Rattle.drf_role.proofs.SpanLemmas.{spans_at}
use Rattle.drf_role.proofs.joined.Joined.spans.Given as goal

abbrev pub invariant-loop-i : goal.invariant-loop-i
invariant-loop-i l = (l.spans.items ++ spans_at l.start l.i (drop l.i l.text) ≡ spans_at 0 0 l.text) × (l.start ≤ l.i)
