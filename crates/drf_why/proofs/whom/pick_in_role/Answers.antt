use Rattle.std.proofs.Common.{◌≡◌, Bool, Some, true, ap, sym, ◌∙◌}
use Rattle.std.specs.List.{list_any}
use Rattle.drf_role.specs.Text.{Text}
use Rattle.drf_role.specs.Parts.{parts_of}
use Rattle.drf_role.specs.Path.{Path, client_path, same_path}
use Rattle.drf_role.specs.PathLaws.{same_path-true}
use Rattle.drf_rows.specs.declared.rows.ClientRow.{ClientRow}
use Rattle.drf_why.specs.declared.pick.Pick.TheVariants as pick
use Rattle.drf_why.proofs.Found.{any_found, any_over, any_passed, none_if, picked_if}
use Rattle.drf_why.proofs.whom.pick_in_role.Goals as goal

abbrev in_role : Text → ClientRow → Bool
in_role role c = same_path c.role (parts_of role)

pub loop-client-preserved : goal.loop-client-preserved
loop-client-preserved c =
    any_passed (in_role c.args.role.now) c.as_slice-clients.result.now c.loop-client.client-index c.loop-client.invariant c.client-item.result
    c.loop-client-test.true c.client-item.is (sym c.is_of_role.ensures ∙ c.if-is_of_role.false)

pub returns-then-is_of_role : goal.returns-then-is_of_role
returns-then-is_of_role c =
    let role = c.args.role.now in
    let framework = c.args.framework.now in
    let same : same_path c.client-item.result.role (parts_of role) ≡ true = sym c.is_of_role.ensures ∙ c.if-is_of_role.true in
    let path = c.in_ok-path.ensures ∙ ap (λ r. client_path r framework.name) (same_path-true c.client-item.result.role (parts_of role) same) in
    let found = sym (ap (list_any (in_role role)) c.as_slice-clients.ensures)
    ∙ any_found (in_role role) c.as_slice-clients.result.now c.loop-client.client-index c.loop-client.invariant c.client-item.result
    c.loop-client-test.true c.client-item.is same in
    ap (λ (p : Path). Some (pick.Client p)) path ∙ picked_if (pick.Client (client_path (parts_of role) framework.name)) _ found

pub returns : goal.returns
returns c =
    none_if (pick.Client (client_path (parts_of c.args.role.now) c.args.framework.now.name)) _
    (sym (ap (list_any (in_role c.args.role.now)) c.as_slice-clients.ensures)
    ∙ any_over (in_role c.args.role.now) c.as_slice-clients.result.now c.loop-client.client-index c.loop-client.invariant c.loop-client-test.false)
