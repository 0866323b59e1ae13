use Rattle.std.proofs.Common.{is_some, sym, ap, ◌∙◌}
use Rattle.drf_tables.proofs.tables.Names.{has_limit, Stored}
use Rattle.drf_tables.specs.Inside.{rows_of}
use Rattle.drf_tables.proofs.limits.Counts.{found_limit}
use Rattle.drf_tables.proofs.registry.Entries.{is_some-copied}
use Rattle.drf_tables.proofs.tables.Tables.has_limit.Goals as goal

pub returns : goal.returns
unfolding rows_of
returns c =
    c.is_some.ensures ∙ sym (is_some-copied c.get.result) ∙ ap is_some c.get.ensures ∙ found_limit c.self.inside.limits c.args.role.now
    ∙ ap (λ (s : Stored). has_limit s.rows c.args.role.now) c.self.view_is
