-- A prefix of a role's text has the same hash as the role that it names.
use Rattle.std.specs.Hash as fed
use Rattle.std.proofs.Common.{◌≡◌, true, [], ◌∷◌, refl, sym, ap, ◌∙◌}
use Rattle.std.proofs.lemmas.List.Splits.{join_with_byte-slice_split}
use Rattle.drf_role.specs.Text.{Text}
use Rattle.drf_role.specs.Parts.{text_of}
use Rattle.drf_role.specs.Path.{Path, same_path}
use Rattle.drf_role.specs.PathLaws.{same_path-true}
use Rattle.drf_gates.specs.quota.Prefix.{path_in}

pub text_of-path_in : (text : Text) → text_of (path_in text) ≡ text
text_of-path_in [] = refl
text_of-path_in (b ∷ bs) = join_with_byte-slice_split 47 (b ∷ bs)

pub same_writes : (text : Text) (role : Path) → same_path (path_in text) role ≡ true → fed.str text ≡ fed.str (text_of role)
same_writes text role same =
    ap fed.str (sym (text_of-path_in text) ∙ ap text_of (same_path-true (path_in text) role same))
