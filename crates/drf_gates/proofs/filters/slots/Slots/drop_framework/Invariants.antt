use Rattle.drf_role.specs.Text.{same_text}
use Rattle.drf_gates.proofs.filters.Held.{IsSwept}
use Rattle.drf_gates.proofs.filters.slots.Slots.drop_framework.Given as goal

abbrev pub invariant-loop-place : goal.invariant-loop-place
invariant-loop-place l = IsSwept (λ f. same_text f.framework l.framework) l.fn.self l.self l.place l.few
