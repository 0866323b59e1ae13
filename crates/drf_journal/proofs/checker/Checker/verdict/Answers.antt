use Rattle.std.proofs.Common.{◌≡◌, ◌<◌, length, sym, subst, arith}
use Rattle.std.proofs.lemmas.Bool.Decides.{nat_tests}
use Rattle.drf_journal.specs.Checking.{IsCheckedTo}
use Rattle.drf_journal.proofs.Checks.{ends-open, ends-good, ends-missing, ends-whole, ends-wrong}
use Rattle.drf_journal.proofs.checker.Checker.verdict.Goals as goal

pub returns-then-not-is_empty : goal.returns-then-not-is_empty
returns-then-not-is_empty g c = λ start read at.
    let some : 0 < length c.self.inside.line = grind (arith, nat_tests) in
    ends-open start read _ (subst (IsCheckedTo start read) (sym c.self.view_is) at) some

pub returns-then-is_none : goal.returns-then-is_none
returns-then-is_none g c = λ start read at.
    let empty : length c.self.inside.line ≡ 0 = grind (arith, nat_tests) in
    let none : length c.self.inside.due.text ≡ 0 = grind (arith, nat_tests) in
    ends-good start read _ (subst (IsCheckedTo start read) (sym c.self.view_is) at) empty none

pub returns-then-not-has_begun : goal.returns-then-not-has_begun
returns-then-not-has_begun g c = λ start read at.
    let some : 0 < length c.self.inside.due.text = grind (arith, nat_tests) in
    let none : c.self.inside.due.come ≡ 0 = grind (arith, nat_tests) in
    ends-missing start read _ (subst (IsCheckedTo start read) (sym c.self.view_is) at) some none

pub returns-then-not-ends : goal.returns-then-not-ends
returns-then-not-ends g c = λ start read at.
    let some : 0 < length c.self.inside.due.text = grind (arith, nat_tests) in
    let begun : 0 < c.self.inside.due.come = grind (arith, nat_tests) in
    ends-wrong start read _ (subst (IsCheckedTo start read) (sym c.self.view_is) at) some begun
    (c.ends.ensures.wrong c.if-not-ends.true)

pub returns : goal.returns
returns g c = λ start read at.
    let some : 0 < length c.self.inside.due.text = grind (arith, nat_tests) in
    let begun : 0 < c.self.inside.due.come = grind (arith, nat_tests) in
    ends-whole start read _ (subst (IsCheckedTo start read) (sym c.self.view_is) at) some begun
    (c.ends.ensures.right c.if-not-ends.false)
