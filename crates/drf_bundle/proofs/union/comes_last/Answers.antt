use Rattle.std.proofs.Common.{IsTrue}
use Rattle.drf_role.specs.Text.{text_below}
use Rattle.drf_bundle.proofs.FirstLemmas.{name_behind}
use Rattle.drf_bundle.proofs.union.comes_last.Goals as goal

pub returns-in-Some : goal.returns-in-Some
returns-in-Some c is_less =
    let below : IsTrue (text_below c.in-Some.resource.now.label c.args.label.now) = cc (is_less, c.lt.ensures) in
    name_behind c.args.resources.now c.args.label.now c.requires c.in-Some.resource.now (cc c.in-Some.ensures.value) below
