use Rattle.std.proofs.Common.{[], List, ℕ, Bor, refl}
use Rattle.std.proofs.lemmas.Result.{err_from_is_err_and}
use Rattle.drf_lines.specs.Words.{role_in}
use Rattle.drf_lines.proofs.EachIn.{each_after-refused, each_after-one, each_after-all}
use Rattle.drf_lines.proofs.RoleLists.{roles_are}
use Rattle.drf_lines.proofs.frameworks.read_roles.Goals as goal

abbrev reported : Bor (List ℕ) → List ℕ
reported text = text.now

abbrev none : Bor (List ℕ)
none = record { ref_ptr = (0, 0); now = [] }

pub returns-in_err-role : goal.returns-in_err-role
returns-in_err-role c =
    let p = err_from_is_err_and c.from_residual-in_err-role.result c.from_residual-in_err-role.ensures.1 in
    rw (p.1, p.2, roles_are) (each_after-refused role_in reported c.loop-text.roles.items c.args.texts.now _ c.loop-text.invariant _ none c.loop-text-test.true refl
    (λ (r : List (List ℕ)). r) (λ (rs : List (List (List ℕ))). rs) c.in_err-role.field-0.0 c.in_err-role.ensures)

pub loop-text-preserved : goal.loop-text-preserved
loop-text-preserved c =
    rw (c.in_ok-push.ensures.items)
    (each_after-one role_in reported c.loop-text.roles.items c.args.texts.now _ c.loop-text.invariant _ none c.loop-text-test.true refl c.in_ok-role.role c.in_ok-role.ensures)

pub returns : goal.returns
returns c = rw (c.from_vec.ensures, roles_are) (each_after-all role_in reported c.loop-text.roles.items c.args.texts.now _ c.loop-text.invariant c.loop-text-test.false)
