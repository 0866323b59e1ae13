use Rattle.std.proofs.Common.{◌≡◌, ◌+◌, List, Some, None, sym, ap, subst, ◌∙◌, arith}
use Rattle.std.specs.Map.{lookup, set_value}
use Rattle.std.specs.Option.{option_copied_mut}
use Rattle.indexmap.specs.IndexMap.{swap_remove_entry}
use Rattle.drf_role.specs.Path.{Path, same_path}
use Rattle.drf_bundle.specs.declared.quantities.Entry.{Entry}
use Rattle.drf_gates.specs.quota.Allowance.{Usage, AreSome, counted, used_where}
use Rattle.drf_gates.proofs.quota.Something.{some_left, some_set}
use Rattle.drf_gates.proofs.quota.Used.{none_lowers, removed_lowers, row_is, set_lowers}
use Rattle.drf_gates.proofs.quota.usage.lower.Goals as goal

pub returns-in_default-clause-lowered : goal.returns-in_default-clause-lowered
returns-in_default-clause-lowered c = λ test label.
    let role : Path = c.args.role.now in
    let amounts : List Entry = c.args.amounts.now in
    let old : List Usage = c.args.used.now.entries in
    let none : lookup (same_path role) old ≡ None = sym c.get_mut.ensures.value ∙ ap option_copied_mut c.in_default.is in
    let same = c.get_mut.follows.holds-at-none in
    none_lowers old role amounts none c.requires test label
    ∙ sym (λ i. used_where test (same i).entries label + counted test role amounts label)

pub lower_row-requires : goal.lower_row-requires
lower_row-requires c = λ label.
    let role : Path = c.args.role.now in
    let old : List Usage = c.args.used.now.entries in
    let found : lookup (same_path role) old ≡ Some c.in-Some.row.now = sym c.get_mut.ensures.value ∙ ap option_copied_mut c.in-Some.is in
    omega (arith, c.requires label, row_is old role label c.in-Some.row.now c.get_mut.ensures.unique found)

pub returns-then-lower_row-clause-lowered : goal.returns-then-lower_row-clause-lowered
returns-then-lower_row-clause-lowered c = λ test label.
    let role : Path = c.args.role.now in
    let amounts : List Entry = c.args.amounts.now in
    let old : List Usage = c.args.used.now.entries in
    let left : List Entry = c.lower_row.new.row in
    let found : lookup (same_path role) old ≡ Some c.in-Some.row.now = sym c.get_mut.ensures.value ∙ ap option_copied_mut c.in-Some.is in
    let wrote : (c.get_mut.follows.lender left).entries ≡ set_value (same_path role) old left = (c.get_mut.follows.holds left).0 in
    let gone : c.swap_remove.new.self.entries ≡ swap_remove_entry (same_path role) (set_value (same_path role) old left) =
    c.swap_remove.ensures.entries ∙ ap (swap_remove_entry (same_path role)) wrote in
    removed_lowers old role c.in-Some.row.now left amounts found c.lower_row.ensures.left (c.lower_row.ensures.empty.0 c.if-lower_row.true) test label
    ∙ ap (λ (us : List Usage). used_where test us label + counted test role amounts label) (sym gone)

pub returns-else-lower_row-clause-lowered : goal.returns-else-lower_row-clause-lowered
returns-else-lower_row-clause-lowered c = λ test label.
    let role : Path = c.args.role.now in
    let amounts : List Entry = c.args.amounts.now in
    let old : List Usage = c.args.used.now.entries in
    let left : List Entry = c.lower_row.new.row in
    let found : lookup (same_path role) old ≡ Some c.in-Some.row.now = sym c.get_mut.ensures.value ∙ ap option_copied_mut c.in-Some.is in
    let wrote : (c.get_mut.follows.lender left).entries ≡ set_value (same_path role) old left = (c.get_mut.follows.holds left).0 in
    set_lowers old role c.in-Some.row.now left amounts found c.lower_row.ensures.left test label
    ∙ ap (λ (us : List Usage). used_where test us label + counted test role amounts label) (sym wrote)

pub returns-in_default-clause-some : goal.returns-in_default-clause-some
returns-in_default-clause-some c = λ all.
    let same = c.get_mut.follows.holds-at-none in
    subst AreSome (sym (λ i. (same i).entries)) all

pub returns-then-lower_row-clause-some : goal.returns-then-lower_row-clause-some
returns-then-lower_row-clause-some c = λ all.
    let role : Path = c.args.role.now in
    let old : List Usage = c.args.used.now.entries in
    let left : List Entry = c.lower_row.new.row in
    let wrote : (c.get_mut.follows.lender left).entries ≡ set_value (same_path role) old left = (c.get_mut.follows.holds left).0 in
    subst AreSome (sym (c.swap_remove.ensures.entries ∙ ap (swap_remove_entry (same_path role)) wrote)) (some_left (same_path role) old left all)

pub returns-else-lower_row-clause-some : goal.returns-else-lower_row-clause-some
returns-else-lower_row-clause-some c = λ all.
    let role : Path = c.args.role.now in
    let old : List Usage = c.args.used.now.entries in
    let left : List Entry = c.lower_row.new.row in
    let wrote : (c.get_mut.follows.lender left).entries ≡ set_value (same_path role) old left = (c.get_mut.follows.holds left).0 in
    subst AreSome (sym wrote) (some_set (same_path role) old left (c.lower_row.ensures.some c.if-lower_row.false) all)
