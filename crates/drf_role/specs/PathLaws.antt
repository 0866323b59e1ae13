-- Properties of comparing paths, and that no client path is a prefix of another.
use Rattle.std.specs.Bool.{Decides}
use Rattle.std.proofs.Common.{◌≡◌, true, refl}
use Rattle.std.specs.Cmp.Lexicographic.{pointwise_decides, bytes_decides}
use Rattle.drf_role.specs.Text.{same_text}
use Rattle.drf_role.specs.Path.{Path, same_path}

pub path_decides : (a b : Path) → Decides (same_path a b) (a ≡ b)
path_decides a b = pointwise_decides {E = same_text} bytes_decides a b

pub same_path-true : (a b : Path) → same_path a b ≡ true → a ≡ b
same_path-true a b = (path_decides a b).0

pub same_path_itself : (a : Path) → same_path a a ≡ true
same_path_itself a = (path_decides a a).1 refl
