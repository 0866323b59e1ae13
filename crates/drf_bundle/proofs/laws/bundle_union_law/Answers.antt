use Rattle.drf_bundle.proofs.theorems.UnionLaws.{bundle-with_united, units-with_united}
use Rattle.drf_bundle.proofs.laws.bundle_union_law.Goals as goal

pub returns : goal.returns
returns c = record { bundle = bundle-with_united; units = units-with_united }
