use Rattle.std.proofs.Common.{◌≡◌, List, Some, sym, ap, subst, ◌∙◌, arith}
use Rattle.std.specs.Map.{lookup, set_value}
use Rattle.std.specs.Option.{option_copied_mut}
use Rattle.std.proofs.lemmas.Map.Steps.{set_value_same}
use Rattle.drf_role.specs.Path.{Path, same_path}
use Rattle.drf_bundle.specs.declared.quantities.Entry.{Entry}
use Rattle.drf_gates.specs.quota.Allowance.{Usage, AreSome, used_where}
use Rattle.drf_gates.proofs.quota.Something.{some_found, some_set}
use Rattle.drf_gates.proofs.quota.Used.{row_is, set_raises}
use Rattle.drf_gates.proofs.quota.usage.raise_there.Goals as goal

pub raise_row-requires : goal.raise_row-requires
raise_row-requires c = λ label.
    let role : Path = c.args.role.now in
    let old : List Usage = c.args.used.now.entries in
    let found : lookup (same_path role) old ≡ Some c.in-Some.row.now = sym c.get_mut.ensures.value ∙ ap option_copied_mut c.in-Some.is in
    omega (arith, c.requires label, row_is old role label c.in-Some.row.now c.get_mut.ensures.unique found)

pub returns-clause-done : goal.returns-clause-done
returns-clause-done c = λ done test label.
    let role : Path = c.args.role.now in
    let old : List Usage = c.args.used.now.entries in
    let sum : List Entry = c.raise_row.new.row in
    let found : lookup (same_path role) old ≡ Some c.in-Some.row.now = sym c.get_mut.ensures.value ∙ ap option_copied_mut c.in-Some.is in
    let wrote : (c.get_mut.follows.lender sum).entries ≡ set_value (same_path role) old sum = (c.get_mut.follows.holds sum).0 in
    ap (λ (us : List Usage). used_where test us label) wrote
    ∙ set_raises old role c.in-Some.row.now sum c.args.amounts.now found (c.raise_row.ensures.done done) test label

pub returns-clause-not : goal.returns-clause-not
returns-clause-not c = λ other.
    let role : Path = c.args.role.now in
    let old : List Usage = c.args.used.now.entries in
    let sum : List Entry = c.raise_row.new.row in
    let found : lookup (same_path role) old ≡ Some c.in-Some.row.now = sym c.get_mut.ensures.value ∙ ap option_copied_mut c.in-Some.is in
    let wrote : (c.get_mut.follows.lender sum).entries ≡ set_value (same_path role) old sum = (c.get_mut.follows.holds sum).0 in
    wrote ∙ set_value_same (same_path role) old sum (found ∙ ap (λ (q : List Entry). Some q) (sym (c.raise_row.ensures.not other)))

pub returns-clause-some : goal.returns-clause-some
returns-clause-some c = λ all.
    let role : Path = c.args.role.now in
    let old : List Usage = c.args.used.now.entries in
    let sum : List Entry = c.raise_row.new.row in
    let found : lookup (same_path role) old ≡ Some c.in-Some.row.now = sym c.get_mut.ensures.value ∙ ap option_copied_mut c.in-Some.is in
    let wrote : (c.get_mut.follows.lender sum).entries ≡ set_value (same_path role) old sum = (c.get_mut.follows.holds sum).0 in
    subst AreSome (sym wrote)
    (some_set (same_path role) old sum (c.raise_row.ensures.some (some_found (same_path role) old c.in-Some.row.now found all)) all)
