use Rattle.std.proofs.Common.{◌≡◌, ap, sym, ◌∙◌, Some}
use Rattle.std.specs.Map.{lookup, set_value}
use Rattle.std.specs.Option.{option_copied_mut}
use Rattle.drf_role.specs.Path.{same_path}
use Rattle.drf_gates.specs.quota.Prefix.{path_in}
use Rattle.drf_gates.proofs.quota.Carry.{carried_unkept, carried_written, raised_exact}
use Rattle.drf_gates.proofs.quota.totals.raise_prefix.Goals as goal

pub returns-in_default : goal.returns-in_default
returns-in_default c = λ old new changed carried.
    let none = sym c.get_mut.ensures.value ∙ ap option_copied_mut c.in_default.is in
    rw (c.get_mut.follows.holds-at-none) (carried_unkept old new c.args.role.now c.args.len (path_in c.first_parts.result.text.now) c.first_parts.ensures c.args.totals.now.entries none carried)

pub returns : goal.returns
returns c = λ old new changed carried.
    let p = path_in c.first_parts.result.text.now in
    let es = c.args.totals.now.entries in
    let left = c.raise_total.new.total in
    let found : lookup (same_path p) es ≡ Some c.in-Some.total.now = sym c.get_mut.ensures.value ∙ ap option_copied_mut c.in-Some.is in
    let wrote : (c.get_mut.follows.lender left).entries ≡ set_value (same_path p) es left = (c.get_mut.follows.holds left).0 in
    rw wrote (carried_written old new c.args.role.now c.args.len c.requires p c.first_parts.ensures es c.get_mut.ensures.unique c.in-Some.total.now left found
    (raised_exact old new c.args.role.now c.args.amounts.now changed c.in-Some.total.now left c.raise_total.ensures.known c.raise_total.ensures.sums) carried)
