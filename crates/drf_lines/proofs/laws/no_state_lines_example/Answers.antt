use Rattle.std.proofs.Common.{refl}
use Rattle.drf_lines.specs.AgentRows.{agent_row}
use Rattle.drf_lines.specs.Object.{has_members, keys, text_at, boolean_at}
use Rattle.drf_lines.specs.StateMeaning.{state_line_in}
use Rattle.drf_lines.specs.WeightEvents.{its_weight}
use Rattle.drf_lines.specs.Words.{name_in}
use Rattle.drf_lines.proofs.laws.no_state_lines_example.Goals as goal

pub returns : goal.returns
unfolding has_members keys text_at boolean_at agent_row its_weight name_in state_line_in
returns c = record { event = refl; bad_name = refl; shape_first = refl; one_key_more = refl }
