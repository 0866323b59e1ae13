use Rattle.std.proofs.Common.{◌≡◌, List, ◌∷◌, ◌++◌, sym, ap, subst, ◌∙◌, [], append_assoc}
use Rattle.std.specs.List.{IsDistinct}
use Rattle.std.specs.Map.{keys_of}
use Rattle.indexmap.specs.IndexMap.{insert_entry}
use Rattle.drf_role.specs.Path.{Path, same_path}
use Rattle.drf_bundle.specs.declared.quantities.Entry.{Entry}
use Rattle.drf_gates.proofs.quota.Gone.{Limit}
use Rattle.drf_gates.proofs.quota.Rows.{limit_to_come}
use Rattle.drf_gates.proofs.quota.limits.copy_limits.Goals as goal

pub loop-role-preserved : goal.loop-role-preserved
loop-role-preserved c =
    let copy : List Limit = c.loop-role.copy.entries in
    let role : Path = c.in-Some.role.now in
    let limit : List Entry = c.in-Some.limit.now in
    let rest : List Limit = c.next.new.self in
    let all : copy ++ (role, limit) ∷ rest ≡ c.args.limits.now.entries =
    ap (λ (es : List Limit). copy ++ es) (sym c.in-Some.ensures.steps) ∙ c.loop-role.invariant in
    ap (λ (es : List Limit). es ++ rest) (c.in_ok-put_limit.ensures.ok
    ∙ ap (insert_entry same_path copy role) c.in_ok-copy-2.ensures
    ∙ limit_to_come copy role limit rest (subst (λ (es : List Limit). IsDistinct same_path (keys_of es)) (sym all) c.len.ensures.unique))
    ∙ append_assoc copy ((role, limit) ∷ []) rest
    ∙ all
