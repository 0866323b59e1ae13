use Rattle.std.proofs.Common.{List, ◌∷◌, subst}
use Rattle.std.specs.Prelude.{All}
use Rattle.std.proofs.lemmas.List.Elements.{All-head, All-tail}
use Rattle.drf_role.specs.Path.{Path}
use Rattle.drf_gates.specs.quota.Totals.{IsExact}
use Rattle.drf_gates.specs.declared.quota.totals.Total.{Total}
use Rattle.drf_gates.proofs.quota.totals.copy_totals.Goals as goal

pub loop-role-preserved : goal.loop-role-preserved
loop-role-preserved c = λ used exact.
    let one = λ (x : Path × Total). IsExact used x.0 x.1 in
    let e : Path × Total = (c.in-Some.role.now, c.in-Some.total.now) in
    let rest : List (Path × Total) = c.next.new.self in
    let both = c.loop-role.invariant used exact in
    let here : All one (e ∷ rest) = subst (All one) c.in-Some.ensures.steps both.left in
    record { copied = c.copy_total.ensures used (All-head one e rest here) both.copied; left = All-tail one e rest here }

pub returns : goal.returns
returns c = λ used exact. (c.loop-role.invariant used exact).copied
