use Rattle.std.proofs.Common.{sym, ap, ◌∙◌}
use Rattle.std.specs.Option.{option_copied}
use Rattle.drf_tables.proofs.registry.members.freed.Goals as goal

pub joined-requires : goal.joined-requires
joined-requires c =
    rw c.bundle.ensures
    (c.requires c.in_ok-as_ref.field-0.now (sym c.as_ref.ensures.value ∙ ap option_copied c.in_ok-as_ref.was))
