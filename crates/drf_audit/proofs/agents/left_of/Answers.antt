use Rattle.std.proofs.Common.{◌≡◌, [], drop, sym, ap, ◌∙◌, arith}
use Rattle.std.proofs.lemmas.List.{drop_all}
use Rattle.drf_bundle.specs.Taken.{rest_of_all}
use Rattle.drf_audit.specs.Held.{parts_of}
use Rattle.drf_audit.proofs.agents.left_of.Goals as goal

pub returns : goal.returns
returns c =
    let over : drop c.loop-part.part-index c.args.parts.now ≡ [] =
    drop_all c.loop-part.part-index c.args.parts.now (omega (arith, c.loop-part-test.false)) in
    sym (ap (λ bundles. rest_of_all c.loop-part.left (parts_of bundles)) over) ∙ c.loop-part.invariant
