use Rattle.std.proofs.Common.{◌≡◌, refl, arith}
use Rattle.std.proofs.lemmas.Grind.{common_steps}
use Rattle.drf_gates.proofs.filters.Held.{indexed-kept}
use Rattle.drf_gates.proofs.filters.index.Index.make_room.Goals as goal

pub returns-in_err-resize-clause-indexed : goal.returns-in_err-resize-clause-indexed
returns-in_err-resize-clause-indexed c = λ key rows is.
    let same : c.resize.new.self.items ≡ c.args.self.now.heads.items = grind (arith, common_steps) in
    indexed-kept key rows c.args.self.now _ c.reserve.ensures.items same refl is
