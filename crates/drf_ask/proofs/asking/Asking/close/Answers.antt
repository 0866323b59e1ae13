use Rattle.std.proofs.Common.{◌≡◌, ◌<◌, length, sym, ap, ◌∙◌, subst, arith}
use Rattle.std.proofs.lemmas.Bool.Decides.{nat_tests}
use Rattle.std.proofs.lemmas.Result.{err_from_is_err_and}
use Rattle.drf_ask.specs.Asking.{Asking}
use Rattle.drf_ask.proofs.Kept.{Laws}
use Rattle.drf_ask.proofs.Pieces.{closed-none, closed-line, closed-stops}
use Rattle.drf_ask.proofs.asking.Asking.close.Goals as goal

pub returns-then-is_empty-clause-ok : goal.returns-then-is_empty-clause-ok
returns-then-is_empty-clause-ok g c = λ start echo read first so_far.
    let law = c.line_law.ensures in
    let laws : Laws = record { feed = law.feed; within = law.within; stay = law.ended; kept = law.kept; meaning = law.meaning; answer = law.answer } in
    let none : length c.self.inside.pending ≡ 0 = grind (arith, nat_tests) in
    closed-none laws start echo read first _ c.args.self.now so_far
    (ap (λ (a : Asking). length a.pending) (sym c.self.view_is) ∙ none)

pub returns-in_err-end_line-clause-err : goal.returns-in_err-end_line-clause-err
returns-in_err-end_line-clause-err g c =
    let p = err_from_is_err_and c.from_residual.result c.from_residual.ensures.1 in
    let law = c.line_law.ensures in
    let laws : Laws = record { feed = law.feed; within = law.within; stay = law.ended; kept = law.kept; meaning = law.meaning; answer = law.answer } in
    let some : 0 < length c.self.inside.pending = grind (arith, nat_tests) in
    let left : 0 < length c.args.self.now.pending = subst (λ (a : Asking). 0 < length a.pending) c.self.view_is some in
    rw (p.1, p.2) (λ start echo read first so_far.
    closed-stops laws start echo read first _ c.args.self.now so_far left _ _ c.in_err-end_line.ensures.err)

pub returns-clause-ok : goal.returns-clause-ok
returns-clause-ok g c = λ start echo read first so_far.
    let law = c.line_law.ensures in
    let laws : Laws = record { feed = law.feed; within = law.within; stay = law.ended; kept = law.kept; meaning = law.meaning; answer = law.answer } in
    let some : 0 < length c.self.inside.pending = grind (arith, nat_tests) in
    let left : 0 < length c.args.self.now.pending = subst (λ (a : Asking). 0 < length a.pending) c.self.view_is some in
    closed-line laws start echo read first _ c.args.self.now so_far left _ _ c.in_ok-end_line.ensures.ok c.in_ok-end_line.ensures.written
