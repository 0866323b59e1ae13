use Rattle.std.proofs.Common.{sym, ◌∙◌}
use Rattle.drf_rows.specs.Client.{path_of}
use Rattle.drf_why.specs.declared.pick.Pick.TheVariants as pick
use Rattle.drf_why.specs.Asked.{client_named, has_client}
use Rattle.drf_why.proofs.Found.{any_found, any_over, any_passed, none_if, picked_if, picked_no, picked_yes}
use Rattle.drf_why.proofs.whom.pick_client.Goals as goal

pub loop-row-preserved : goal.loop-row-preserved
loop-row-preserved c =
    let framework = c.args.framework.now in
    let role = c.args.role.now in
    let none = picked_no (pick.Client (path_of (client_named framework role))) (has_client framework role c.row-item.result) c.in_ok-pick.pick
    c.in_ok-pick.ensures (sym c.is_some.ensures ∙ c.if-is_some.false) in
    any_passed (has_client framework role) c.args.frameworks.now c.loop-row.row-index c.loop-row.invariant c.row-item.result
    c.loop-row-test.true c.row-item.is none

pub returns-then-is_some : goal.returns-then-is_some
returns-then-is_some c =
    let framework = c.args.framework.now in
    let role = c.args.role.now in
    let client = pick.Client (path_of (client_named framework role)) in
    let one = picked_yes client (has_client framework role c.row-item.result) c.in_ok-pick.pick c.in_ok-pick.ensures
    (sym c.is_some.ensures ∙ c.if-is_some.true) in
    let found = any_found (has_client framework role) c.args.frameworks.now c.loop-row.row-index c.loop-row.invariant c.row-item.result
    c.loop-row-test.true c.row-item.is one in
    c.in_ok-pick.ensures ∙ sym (picked_if client _ one) ∙ picked_if client _ found

pub returns : goal.returns
returns c =
    let framework = c.args.framework.now in
    let role = c.args.role.now in
    none_if (pick.Client (path_of (client_named framework role))) _
    (any_over (has_client framework role) c.args.frameworks.now c.loop-row.row-index c.loop-row.invariant c.loop-row-test.false)
