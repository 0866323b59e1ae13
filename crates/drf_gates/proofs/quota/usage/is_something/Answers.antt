use Rattle.std.specs.Prelude.{nat_lt}
use Rattle.std.specs.List.{list_any}
use Rattle.std.proofs.Common.{rules, tests, ◌≡◌, Bool, ap, sym, ◌∙◌}
use Rattle.std.proofs.lemmas.Iterator.{YieldsList-from_slice}
use Rattle.std.proofs.lemmas.Iterator.Search.{any_from_yields_List}
use Rattle.drf_bundle.specs.declared.quantities.Entry.{Entry}
use Rattle.drf_gates.proofs.quota.Something.{any_something, none_something}
use Rattle.drf_gates.proofs.quota.usage.is_something.Goals as goal

abbrev above_zero : Entry → Bool
above_zero e = nat_lt 0 e.amount

pub returns-clause-some : goal.returns-clause-some
returns-clause-some c = λ yes.
    let any : c.any.result ≡ list_any above_zero c.args.amounts.now =
    any_from_yields_List above_zero _ _ c.any.result c.any.ensures.ran (YieldsList-from_slice c.entries.result.now c.iter.ensures.rest) (λ x b q k. search (rules, tests))
    ∙ ap (list_any above_zero) c.entries.ensures.value in
    any_something c.args.amounts.now c.entries.ensures.in_order (sym any ∙ yes)

pub returns-clause-none : goal.returns-clause-none
returns-clause-none c = λ no.
    let any : c.any.result ≡ list_any above_zero c.args.amounts.now =
    any_from_yields_List above_zero _ _ c.any.result c.any.ensures.ran (YieldsList-from_slice c.entries.result.now c.iter.ensures.rest) (λ x b q k. search (rules, tests))
    ∙ ap (list_any above_zero) c.entries.ensures.value in
    none_something c.args.amounts.now c.entries.ensures.in_order (sym any ∙ no)
