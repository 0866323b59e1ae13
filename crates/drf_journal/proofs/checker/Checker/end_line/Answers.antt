use Rattle.std.proofs.Common.{◌≡◌, ◌<◌, true, false, [], ◌∷◌, ◌++◌, length, refl, sym, ap, ◌∙◌, subst, arith}
use Rattle.std.proofs.lemmas.Bool.Decides.{nat_tests}
use Rattle.drf_core.specs.Machine.{live}
use Rattle.drf_journal.specs.Checking.{DueLine, Check, HasChecked}
use Rattle.drf_journal.proofs.Checks.{event-line-counted, checked-event, checked-reply, checked-other}
use Rattle.drf_journal.proofs.checker.Checker.end_line.Goals as goal

pub returns-then-is_none-clause-checked : goal.returns-then-is_none-clause-checked
returns-then-is_none-clause-checked g c =
    let none : length c.self.inside.due.text ≡ 0 = grind (arith, nat_tests) in
    checked-event c.args.self.now c.args.end.now c.requires.within c.end_event_line.new.self
    (ap (λ (s : Check). length s.due.text) (sym c.self.view_is) ∙ none) c.in_ok-end_event_line.ensures

pub returns-then-is_none-clause-few : goal.returns-then-is_none-clause-few
returns-then-is_none-clause-few g c =
    let same = ap (λ (s : Check). s.events) c.in_ok-end_event_line.ensures in
    let more = event-line-counted c.args.self.now c.args.end.now in
    omega arith

pub returns-then-not-ends-clause-checked : goal.returns-then-not-ends-clause-checked
returns-then-not-ends-clause-checked g c =
    let inside = c.self.inside in
    let old : Check = record { machine = live inside.core; line = inside.line; due = inside.due; events = inside.events } in
    let new : Check = record old { due = c.ends.new.self } in
    let some : 0 < length inside.due.text = grind (arith, nat_tests) in
    subst (λ (s : Check). HasChecked (c.args.end.now ++ 10 ∷ []) s new false) c.self.view_is
    (checked-other old c.args.end.now c.requires.within new some (c.ends.ensures.wrong c.if-not-ends.true) refl)

pub returns-clause-checked : goal.returns-clause-checked
returns-clause-checked g c =
    let inside = c.self.inside in
    let old : Check = record { machine = live inside.core; line = inside.line; due = inside.due; events = inside.events } in
    let new : Check = record old { due = c.none.result } in
    let some : 0 < length inside.due.text = grind (arith, nat_tests) in
    subst (λ (s : Check). HasChecked (c.args.end.now ++ 10 ∷ []) s new true) c.self.view_is
    (checked-reply old c.args.end.now c.requires.within new some (c.ends.ensures.right c.if-not-ends.false)
    (ap (λ (d : DueLine). record old { due = d }) c.none.ensures))
