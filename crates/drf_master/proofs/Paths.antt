-- Equality of paths.
use Rattle.std.proofs.Common.{◌≡◌, ℕ, ◌↔◌, IsTrue, Bool, List, ◌==◌, sym, subst}
use Rattle.std.specs.Cmp.Lexicographic.{pointwise, bytes_decides, pointwise_decides}

pub paths_same : (r : Bool) (xs ys : List (List ℕ)) → r ≡ pointwise (pointwise ◌==◌) xs ys → IsTrue r ↔ (xs ≡ ys)
paths_same r xs ys is = subst (λ (b : Bool). IsTrue b ↔ (xs ≡ ys)) (sym is) (pointwise_decides bytes_decides xs ys)
