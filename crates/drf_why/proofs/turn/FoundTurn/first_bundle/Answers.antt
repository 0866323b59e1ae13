use Rattle.std.proofs.Common.{◌<◌, length, subst, sym, ◌∙◌}
use Rattle.std.specs.Prelude.{IfSome, List}
use Rattle.drf_explain.specs.declared.finding.Finding.{Finding}
use Rattle.drf_why.specs.Passers.{bundle_in}
use Rattle.drf_why.specs.Pick.{own_at}
use Rattle.drf_why.proofs.PassersFound.{place-within}
use Rattle.drf_why.proofs.turn.FoundTurn.first_bundle.Goals as goal

pub own_at-own-requires : goal.own_at-own-requires
own_at-own-requires c =
    let found = c.args.self.now in
    subst (λ (findings : List Finding). IfSome c.get.result (λ place. place < length findings)) (sym c.as_slice.ensures.value)
    (place-within found.turn.now.untouched.items found.untouched c.args.client.now c.get.result c.requires.untouched c.get.ensures)

pub returns : goal.returns
returns c =
    c.bundle_in.ensures
    ∙ (λ i. bundle_in ((c.own_at-own.ensures ∙ (λ j. own_at (c.as_slice.ensures.value j) ((c.get.ensures ∙ c.requires.untouched c.args.client.now) j))) i))
