use Rattle.std.proofs.Common.{◌≡◌, drop}
use Rattle.std.specs.List.{position_from}
use Rattle.drf_role.specs.Path.{Path}
use Rattle.drf_why.specs.Pick.{is_of_client}
use Rattle.drf_why.specs.Places.{place_in}
use Rattle.drf_why.proofs.places.Places.of.Given as goal

abbrev pub invariant-loop-i : goal.invariant-loop-i
invariant-loop-i l = (path : Path) → place_in l.places path ≡ position_from (is_of_client path) l.i (drop l.i l.findings)
