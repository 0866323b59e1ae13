use Rattle.std.proofs.Common.{[], sym, subst}
use Rattle.drf_core.specs.Machine.{live}
use Rattle.drf_journal.specs.Checking.{IsCheckedTo}
use Rattle.drf_journal.proofs.Checks.{checked-none}
use Rattle.drf_journal.proofs.checker.Checker.begin.Goals as goal

pub returns : goal.returns
returns g c =
    let machine = live c.args.core in
    subst (IsCheckedTo machine [])
    (λ i. record { machine = machine; line = sym c.new.ensures i; due = sym c.none.ensures i; events = 0 })
    (checked-none machine)
