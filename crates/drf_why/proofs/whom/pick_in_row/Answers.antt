use Rattle.std.proofs.Common.{◌≡◌, Bool, Some, None, true, sym, ◌∙◌}
use Rattle.std.specs.Prelude.{◌&&◌, if◌then◌else◌}
use Rattle.std.specs.Cmp.Lexicographic.{bytes_decides}
use Rattle.drf_role.specs.Text.{Text, same_text}
use Rattle.drf_role.specs.Parts.{parts_of}
use Rattle.drf_role.specs.Path.{client_path}
use Rattle.drf_why.specs.declared.pick.Pick.TheVariants as pick
use Rattle.drf_why.proofs.whom.pick_in_row.Goals as goal

-- if the framework has this name
named_so : (name framework : Text) (others : Bool) (role : Text) → same_text name framework ≡ true
    → (if others then Some (pick.Client (client_path (parts_of role) name)) else None)
    ≡ (if same_text name framework && others then Some (pick.Client (client_path (parts_of role) framework)) else None)
named_so name framework others role same =
    let is : name ≡ framework = (bytes_decides name framework).0 same in
    λ i. if sym same i && others then Some (pick.Client (client_path (parts_of role) (is i))) else None

pub returns-then-is_named : goal.returns-then-is_named
returns-then-is_named c =
    c.in_ok-pick.ensures ∙ named_so c.args.row.now.name c.args.framework.now _ c.args.role.now (sym c.is_named.ensures ∙ c.if-is_named.true)
