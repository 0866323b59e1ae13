use Rattle.std.proofs.Common.{◌<◌, length, subst, sym, ◌∙◌}
use Rattle.std.specs.Prelude.{IfSome, List}
use Rattle.drf_explain.specs.declared.finding.Finding.{Finding}
use Rattle.drf_why.specs.Pick.{own_at}
use Rattle.drf_why.proofs.PassersFound.{place-within}
use Rattle.drf_why.proofs.turn.FoundTurn.own.Goals as goal

pub own_at-requires : goal.own_at-requires
own_at-requires c =
    let found = c.args.self.now in
    subst (λ (findings : List Finding). IfSome c.get.result (λ place. place < length findings)) (sym c.as_slice.ensures.value)
    (place-within found.turn.now.reported.items found.reported c.args.client.now c.get.result c.requires.reported c.get.ensures)

pub returns : goal.returns
returns c = c.own_at.ensures ∙ (λ i. own_at (c.as_slice.ensures.value i) ((c.get.ensures ∙ c.requires.reported c.args.client.now) i))
