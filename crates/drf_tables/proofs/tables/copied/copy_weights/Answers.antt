use Rattle.std.proofs.Common.{◌≡◌, ℕ, List, ◌∷◌, ◌++◌, sym, ap, ◌∙◌}
use Rattle.drf_tables.proofs.tables.Names.{insert_entry, Path, same_path}
use Rattle.drf_role.proofs.PathLaws.{same_path-swap}
use Rattle.drf_tables.proofs.tables.Copies.{copied_more}
use Rattle.drf_tables.proofs.tables.copied.copy_weights.Goals as goal

pub loop-role-preserved : goal.loop-role-preserved
loop-role-preserved c =
    let whole : List (Path × ℕ) = c.args.weights.now.entries in
    let copy : List (Path × ℕ) = c.loop-role.copy.entries in
    let role : Path = c.in-Some.role.now in
    let weight : ℕ = c.in-Some.weight.now in
    let rest : List (Path × ℕ) = c.next.new.self in
    let split : copy ++ (role, weight) ∷ rest ≡ whole =
    ap (λ (es : List (Path × ℕ)). copy ++ es) (sym c.in-Some.ensures.steps) ∙ c.loop-role.invariant in
    copied_more same_path same_path-swap whole copy c.put_weight.new.weights.entries rest role weight c.len.ensures.unique split
    (c.in_ok-put_weight.ensures ∙ (λ i. insert_entry same_path copy (c.in_ok-role.ensures i) weight))
