use Rattle.drf_role.proofs.PathLaws.{client_paths-apart}
use Rattle.drf_role.proofs.laws.client_path_law.Goals as goal

pub returns : goal.returns
returns c = client_paths-apart
