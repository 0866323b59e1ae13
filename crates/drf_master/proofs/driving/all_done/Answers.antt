use Rattle.std.proofs.Common.{◌≡◌, ◌++◌, ◌∷◌, [], List, Result, Ok, Err, rules, sym, subst, ap, ◌∙◌, arith}
use Rattle.std.specs.Vec.Iter.{into_iter_items}
use Rattle.drf_master.specs.Scripts.{AreDone, IsFirstFault}
use Rattle.drf_master.specs.declared.driving.Done.{Done}
use Rattle.drf_master.specs.declared.driving.DriveFault.{DriveFault}
use Rattle.drf_master.proofs.Scripts.{done-lengths, done-push, first-fault, less-of_split, whole-next}
use Rattle.drf_master.proofs.driving.all_done.Goals as goal

pub returns-in_err-done-clause-fault : goal.returns-in_err-done-clause-fault
returns-in_err-done-clause-fault c =
    let at = c.loop-result in
    let rest : List (Result Done DriveFault) = into_iter_items c.next.new.self in
    let fault : DriveFault = c.in_err-done.field-0.0 in
    let is : c.in-Some.result ≡ Err fault = c.in_err-done.was in
    let whole : c.args.results.items ≡ at.yielded ++ Err fault ∷ rest =
    at.invariant.0 ∙ (ap (λ (l : List (Result Done DriveFault)). at.yielded ++ l) c.in-Some.ensures.steps.0
    ∙ ap (λ (r : Result Done DriveFault). at.yielded ++ r ∷ rest) is) in
    let first : IsFirstFault c.args.results.items fault =
    subst (λ (l : List (Result Done DriveFault)). IsFirstFault l fault) (sym whole)
    (first-fault at.yielded at.passes.items at.replies.items fault rest at.invariant.1.0) in
    search rules

pub push_reserved-requires : goal.push_reserved-requires
push_reserved-requires c =
    let at = c.loop-result in
    let rest : List (Result Done DriveFault) = into_iter_items c.next.new.self in
    let few = less-of_split c.args.results.items at.yielded (into_iter_items at.result-iterator) rest c.in-Some.result at.invariant.0 c.in-Some.ensures.steps.0 in
    let lengths = done-lengths at.yielded at.passes.items at.replies.items at.invariant.1.0 in
    omega (arith, few, lengths.0, at.passes.ok.0, at.invariant.1.1.0)

pub push_reserved-requires-in-loop-result : goal.push_reserved-requires-in-loop-result
push_reserved-requires-in-loop-result c =
    let at = c.loop-result in
    let rest : List (Result Done DriveFault) = into_iter_items c.next.new.self in
    let few = less-of_split c.args.results.items at.yielded (into_iter_items at.result-iterator) rest c.in-Some.result at.invariant.0 c.in-Some.ensures.steps.0 in
    let lengths = done-lengths at.yielded at.passes.items at.replies.items at.invariant.1.0 in
    omega (arith, few, lengths.1, at.replies.ok.0, at.invariant.1.1.1)

pub loop-result-preserved : goal.loop-result-preserved
loop-result-preserved c =
    let at = c.loop-result in
    let rest : List (Result Done DriveFault) = into_iter_items c.next.new.self in
    let is : c.in-Some.result ≡ Ok c.in_ok-done.done = c.in_ok-done.was in
    let done : AreDone (at.yielded ++ c.in-Some.result ∷ []) (at.passes.items ++ c.in_ok-done.done.pass ∷ []) (at.replies.items ++ c.in_ok-done.done.replies ∷ []) =
    subst (λ (r : Result Done DriveFault). AreDone (at.yielded ++ r ∷ []) (at.passes.items ++ c.in_ok-done.done.pass ∷ []) (at.replies.items ++ c.in_ok-done.done.replies ∷ []))
    (sym is) (done-push at.yielded at.passes.items at.replies.items c.in_ok-done.done at.invariant.1.0) in (
      whole-next c.args.results.items at.yielded (into_iter_items at.result-iterator) rest c.in-Some.result at.invariant.0 c.in-Some.ensures.steps.0,
      grind arith,
    )
