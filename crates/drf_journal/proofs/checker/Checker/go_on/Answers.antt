use Rattle.std.proofs.Common.{◌≡◌, ◌<◌, ℕ, List, true, length, refl, ap, subst, arith}
use Rattle.std.proofs.lemmas.Bool.Decides.{nat_tests}
use Rattle.drf_core.specs.Machine.{live}
use Rattle.drf_journal.specs.Checking.{Check, HasChecked}
use Rattle.drf_journal.proofs.Checks.{checked-part, checked-come, checked-strange, checked-by}
use Rattle.drf_journal.proofs.checker.Checker.go_on.Goals as goal

pub returns-then-is_none-clause-checked : goal.returns-then-is_none-clause-checked
returns-then-is_none-clause-checked g c =
    let inside = c.self.inside in
    let old : Check = record { machine = live inside.core; line = inside.line; due = inside.due; events = inside.events } in
    let new : Check = record old { line = c.keep.new.self } in
    let none : length inside.due.text ≡ 0 = grind (arith, nat_tests) in
    subst (λ (s : Check). HasChecked c.args.more.now s new true) c.self.view_is
    (checked-part old c.args.more.now c.requires new none
    (ap (λ (l : List ℕ). record old { line = l }) c.in_ok-keep.ensures))

pub returns-clause-checked : goal.returns-clause-checked
returns-clause-checked g c =
    let inside = c.self.inside in
    let old : Check = record { machine = live inside.core; line = inside.line; due = inside.due; events = inside.events } in
    let new : Check = record old { due = c.takes.new.self } in
    let some : 0 < length inside.due.text = grind (arith, nat_tests) in
    subst (λ (s : Check). HasChecked c.args.more.now s new c.takes.result) c.self.view_is
    (checked-by c.args.more.now old new c.takes.result
    (λ yes. checked-come old c.args.more.now c.requires new c.takes.new.self some c.takes.ensures.text
    (c.takes.ensures.right yes) refl)
    (λ no. checked-strange old c.args.more.now c.requires new some (c.takes.ensures.wrong no) refl))
