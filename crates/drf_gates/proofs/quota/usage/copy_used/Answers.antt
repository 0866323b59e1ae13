use Rattle.std.proofs.Common.{◌≡◌, ◌+◌, Bool, List, ◌∷◌, subst}
use Rattle.drf_role.specs.Path.{Path}
use Rattle.drf_role.specs.Text.{Text}
use Rattle.drf_bundle.specs.declared.quantities.Entry.{Entry}
use Rattle.drf_gates.specs.quota.Allowance.{Usage, used_where}
use Rattle.drf_gates.proofs.quota.Used.{copy_fits, copy_more}
use Rattle.drf_gates.proofs.quota.usage.copy_used.Goals as goal

pub raise-requires : goal.raise-requires
raise-requires c =
    let whole : List Usage = c.args.used.now.entries in
    let copy : List Usage = c.loop-role.copy.entries in
    let role : Path = c.in-Some.role.now in
    let amounts : List Entry = c.in-Some.amounts.now in
    let rest : List Usage = c.next.new.self in
    let split : c.loop-role.role-iterator ≡ (role, amounts) ∷ rest = c.in-Some.ensures.steps in
    copy_fits whole copy rest role amounts
    (subst (λ (us : List Usage). (test : Path → Bool) (label : Text) → used_where test copy label + used_where test us label ≡ used_where test whole label) split c.loop-role.invariant.parts)
    c.requires c.recall.ensures.right

pub loop-role-preserved : goal.loop-role-preserved
loop-role-preserved c =
    let whole : List Usage = c.args.used.now.entries in
    let copy : List Usage = c.loop-role.copy.entries in
    let role : Path = c.in-Some.role.now in
    let amounts : List Entry = c.in-Some.amounts.now in
    let rest : List Usage = c.next.new.self in
    let split : c.loop-role.role-iterator ≡ (role, amounts) ∷ rest = c.in-Some.ensures.steps in
    record {
      parts = copy_more whole copy rest role amounts c.raise.new.used.entries
          (subst (λ (us : List Usage). (test : Path → Bool) (label : Text) → used_where test copy label + used_where test us label ≡ used_where test whole label) split c.loop-role.invariant.parts)
          c.in_ok-raise.ensures.ok;
      some = c.raise.ensures.some c.loop-role.invariant.some;
    }
