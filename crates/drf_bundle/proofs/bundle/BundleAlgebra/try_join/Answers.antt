use Rattle.std.proofs.Common.{sym, ◌∙◌}
use Rattle.drf_bundle.proofs.bundle.BundleAlgebra.try_join.Goals as goal

pub joined-requires : goal.joined-requires
joined-requires c = sym c.refusal.ensures.refusal ∙ c.in_default.is
