use Rattle.std.proofs.Common.{◌≡◌, ◌<◌, length, sym, ap, ◌∙◌, subst, OnOk, arith}
use Rattle.std.proofs.lemmas.Bool.Decides.{nat_tests}
use Rattle.drf_journal.specs.State.{State}
use Rattle.drf_journal.proofs.Pieces.{end-none, end-some, end-taken}
use Rattle.drf_journal.proofs.session.Session.close.Goals as goal

pub returns-then-is_empty-clause-ok : goal.returns-then-is_empty-clause-ok
returns-then-is_empty-clause-ok g c =
    let pending = c.self.inside.pending in
    let none : length pending ≡ 0 = grind (arith, nat_tests) in
    sym (end-none c.args.self.now (ap (λ (s : State). length s.pending) (sym c.self.view_is) ∙ none))

pub returns-clause-ok : goal.returns-clause-ok
returns-clause-ok g c =
    let pending = c.self.inside.pending in
    let some : 0 < length pending = grind (arith, nat_tests) in
    let left : 0 < length c.args.self.now.pending = subst (λ (s : State). 0 < length s.pending) c.self.view_is some in
    subst (λ (s : State). OnOk c.end_line.result (c.end_line.new.self ≡ s))
    (sym (end-some c.args.self.now left)) c.end_line.ensures.ok

pub returns-clause-taken : goal.returns-clause-taken
returns-clause-taken g c =
    let pending = c.self.inside.pending in
    let some : 0 < length pending = grind (arith, nat_tests) in
    let left : 0 < length c.args.self.now.pending = subst (λ (s : State). 0 < length s.pending) c.self.view_is some in
    end-taken c.args.self.now c.end_line.new.self.machine left c.end_line.ensures.taken
