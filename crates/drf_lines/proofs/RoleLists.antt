-- Roles that are read one by one.
use Rattle.std.proofs.Common.{◌≡◌, ℕ, List, [], ◌∷◌, refl}
use Rattle.drf_lines.specs.TaskTexts.{each_in}
use Rattle.drf_lines.specs.Words.{role_in, roles_in}

pub roles_are : (texts : List (List ℕ)) → roles_in texts ≡ each_in role_in texts
unfolding roles_in
roles_are [] = refl
roles_are (text ∷ texts) = rw (roles_are texts) refl
