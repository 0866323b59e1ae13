use Rattle.std.proofs.Common.{List, sym, subst}
use Rattle.drf_tables.proofs.tables.Names.{Resource, CanExchange}
use Rattle.drf_tables.proofs.reservations.exchanged_free.Goals as goal

pub exchanged_part-requires-clause-can : goal.exchanged_part-requires-clause-can
exchanged_part-requires-clause-can c =
    subst (λ (known : List Resource). CanExchange known c.args.old.now c.args.new.now) (sym c.bundle.ensures) (c.requires.can c.in-Some.known c.in-Some.is)
