use Rattle.std.proofs.Common.{filter, refl, ap, ◌∙◌}
use Rattle.drf_rows.specs.Filters.{is_on_agent}
use Rattle.drf_explain.proofs.Rooms.{gates_of}
use Rattle.drf_explain.proofs.gates.Gates.on.Goals as goal

pub returns : goal.returns
returns c = λ a named.
    gates_of c.args.rows.now a _ named refl (c.in_ok-filters.ensures ∙ ap (filter (is_on_agent c.args.agent.now)) c.as_slice.ensures) c.as_slice-2.ensures
