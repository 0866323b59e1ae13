use Rattle.std.proofs.Common.{◌≡◌, List, sym, ap, ◌∙◌}
use Rattle.drf_tables.proofs.tables.Names.{rest, Resource}
use Rattle.drf_tables.proofs.reservations.Moved.{other_left-nothing}
use Rattle.drf_tables.proofs.reservations.left_of_other.Goals as goal

pub returns-then-is_same : goal.returns-then-is_same
returns-then-is_same c =
    let total : List Resource = c.args.total.now in
    let old : List Resource = c.args.old.now in
    let same : old ≡ c.args.free.now = c.is_same.ensures.0 c.if-is_same.true in
    c.in_ok-copy.ensures.same
    ∙ (sym (other_left-nothing total old c.in_ok-copy.ensures.given c.recall.ensures)
    ∙ ap (λ (free : List Resource). rest total (rest old free)) same)
