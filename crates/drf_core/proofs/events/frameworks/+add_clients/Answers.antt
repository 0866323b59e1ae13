use Rattle.std.proofs.Common.{◌≡◌, ◌+◌, List, length, ap, ◌∙◌, arith}
use Rattle.std.specs.Prelude.{sum_by}
use Rattle.std.proofs.lemmas.List.Sums.{sum_by-cons}
use Rattle.drf_role.specs.Path.{Path}
use Rattle.drf_sorter.specs.Content.{Content, has_client, with_client, without_client}
use Rattle.drf_sorter.proofs.theorems.SpendLaws.{spends-at_ok, spends-both, spends-on_ok, spends-within}
use Rattle.drf_content.proofs.theorems.Registered.{has_client-added, without-added, first_new}
use Rattle.drf_core.proofs.events.frameworks.+add_clients.Goals as goal

pub remove-requires : goal.remove-requires
remove-requires g t c =
    let content = g.S.Sorter.content c.args.sorter.now in
    let path = c.in-Some.first.now in
    let added : g.S.Sorter.content c.add_clients.new.sorter ≡ with_client content path
    = c.in-Err.ensures.err ∙ c.in_ok-add.ensures.ok ∙ ap (with_client content) c.in_ok-copy.ensures in
    ap (λ (k : Content). has_client k path) added ∙ has_client-added content path

pub returns-in-Err-clause-err : goal.returns-in-Err-clause-err
returns-in-Err-clause-err g t c =
    let content = g.S.Sorter.content c.args.sorter.now in
    let path = c.in-Some.first.now in
    let added : g.S.Sorter.content c.add_clients.new.sorter ≡ with_client content path
    = c.in-Err.ensures.err ∙ c.in_ok-add.ensures.ok ∙ ap (with_client content) c.in_ok-copy.ensures in
    c.remove.ensures.content
    ∙ ap (λ (k : Content). without_client k path) added
    ∙ without-added content path (first_new content c.args.paths.now path c.in-Some.rest.now c.in-Some.ensures.cases.0 c.requires)

pub returns-in-Ok-clause-spends : goal.returns-in-Ok-clause-spends
returns-in-Ok-clause-spends g t c =
    let sum : sum_by length c.args.paths.now ≡ length c.in-Some.first.now + sum_by length c.in-Some.rest.now =
    ap (λ (ps : List Path). sum_by length ps) c.in-Some.ensures.cases.0 ∙ sum_by-cons length c.in-Some.first.now c.in-Some.rest.now in
    let both = spends-both c.add.ensures.spends (spends-at_ok c.in-Ok.ensures.spends) in
    spends-on_ok _ (spends-within both (omega (arith, sum, ap length c.in_ok-copy.ensures)))
