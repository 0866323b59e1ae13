-- The meaning of a text that equals the text of a name, role or bundle that was read before.
use Rattle.std.proofs.Common.{◌≡◌, ℕ, true, List, Result, Ok, Err, sym, ap, subst, ◌∙◌}
use Rattle.std.specs.Prelude.{IfOk, IfSome}
use Rattle.std.specs.Result.{result_ok}
use Rattle.std.specs.Str.{bytes_eq}
use Rattle.std.specs.Cmp.Lexicographic.{bytes_decides}
use Rattle.drf_role.specs.Name.{IsName}
use Rattle.drf_role.specs.Parts.{parts_of}
use Rattle.drf_role.specs.Role.{IsRole}
use Rattle.drf_role.proofs.TestLaws.{name_decides, role_decides}
use Rattle.drf_lines.specs.declared.fault.LineFault.{LineFault}
use Rattle.drf_lines.specs.Words.{name_in, role_in}

pub name_known : (known text : List ℕ) → IsName known → bytes_eq known text ≡ true → name_in text ≡ Ok known
unfolding name_in
name_known known text right same =
    let is : known ≡ text = (bytes_decides known text).0 same in
    rw ((name_decides text).1 (subst IsName is right)) (ap Ok (sym is))

pub role_known : (known : List (List ℕ)) (said text : List ℕ) → IsRole known → parts_of said ≡ known → bytes_eq said text ≡ true → role_in text ≡ Ok known
unfolding role_in
role_known known said text right parts same =
    let is : parts_of text ≡ known = ap parts_of (sym ((bytes_decides said text).0 same)) ∙ parts in
    rw ((role_decides text).1 (subst IsRole (sym is) right)) (ap Ok is)

-- a copy has the same meaning
pub copied : {A E : Type 0} (r : Result A E) (meaning : Result A LineFault) (known : A) → IfOk r (λ copy. copy ≡ known) → meaning ≡ Ok known
    → IfSome (result_ok r) (λ copy. meaning ≡ Ok copy)
copied (Ok copy) meaning known same is = is ∙ ap Ok (sym same)
copied (Err error) meaning known same is = tt
