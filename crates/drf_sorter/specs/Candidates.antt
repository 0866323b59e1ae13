-- The keys of a candidate.
use Rattle.std.specs.Prelude.{◌≡◌, [], map}
use Rattle.drf_role.specs.Path.{IsClientPath}
use Rattle.drf_rows.specs.Share.{Standing}
use Rattle.drf_sorter.specs.Keys.{key_by, keys_of}
use Rattle.drf_sorter.specs.declared.candidate.Candidate.{Candidate}

-- the candidate has the keys of the nodes on its path
pub record HasKeys (s : Standing) (c : Candidate) : Type 0 where
  pub keys : map key_by c.keys.items ≡ keys_of s [] c.path
  pub right : IsClientPath c.path
