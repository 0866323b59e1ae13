use Rattle.drf_state.proofs.theorems.Texts.{what_is_said_can_be_saved, what_is_said_is_the_text, what_is_written_is_said}
use Rattle.drf_state.proofs.Readable.{read_is_valid}
use Rattle.drf_state.proofs.Sayable.{read_back}
use Rattle.drf_state.proofs.laws.state_law.Goals as goal

pub returns-clause-text : goal.returns-clause-text
returns-clause-text c = what_is_said_is_the_text

pub returns-clause-can_be_saved : goal.returns-clause-can_be_saved
returns-clause-can_be_saved c = what_is_said_can_be_saved read_is_valid

pub returns-clause-said : goal.returns-clause-said
returns-clause-said c =
    what_is_written_is_said (record { head = c.one_line_law.ensures.head; row = c.one_line_law.ensures.row; end = c.one_line_law.ensures.end })

pub returns-clause-each : goal.returns-clause-each
returns-clause-each c =
    λ limits rows ceilings can valid few.
    returns-clause-said c limits rows can
    (read_back (record { bundle = c.bundle_round_trip_law.ensures; quantities = c.quantities_round_trip_law.ensures; weight = c.weight_round_trip_law.ensures })
    limits rows ceilings can valid few)
