use Rattle.drf_row_laws.proofs.FilterLaws.{held_back-in_force}
use Rattle.drf_gates.proofs.filters.Held.{less_is_held_back, held_back_is_refused}
use Rattle.drf_gates.proofs.laws.filters_law.Goals as goal

pub returns : goal.returns
returns c = record { spent = held_back-in_force; less = less_is_held_back; refused = held_back_is_refused }
