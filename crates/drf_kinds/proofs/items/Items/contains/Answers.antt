use Rattle.std.proofs.Common.{sym, ◌∙◌, subst, rules, of_calls}
use Rattle.std.proofs.lemmas.Fn.{always_returns_same}
use Rattle.drf_kinds.specs.Names.{text_cmp, AreAscending}
use Rattle.drf_kinds.proofs.Names.{contains-view, named_where_found}
use Rattle.drf_kinds.proofs.items.Items.contains.Goals as goal

pub returns : goal.returns
returns c =
    let up : AreAscending c.deref.result.now = subst AreAscending (sym c.deref.ensures.value) c.self.invariant.ascending in
    let found = c.binary_search_by.ensures.position (λ label. text_cmp label c.args.name.now) (always_returns_same _ _ _ (λ a r f called. search (rules, of_calls))) in
    c.is_ok.ensures.value
    ∙ named_where_found c.deref.result.now c.args.name.now c.binary_search_by.result up c.binary_search_by.ensures.bound found
    ∙ sym (contains-view _ c.deref.result.now _ c.deref.ensures.value c.self.view_is c.args.name.now)
