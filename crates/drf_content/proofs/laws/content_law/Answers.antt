use Rattle.drf_content.proofs.theorems.Same.{lines_of_rows, order_of_rows, sound_of_rows}
use Rattle.drf_content.proofs.laws.content_law.Goals as goal

pub returns-clause-sound : goal.returns-clause-sound
returns-clause-sound c = sound_of_rows

pub returns-clause-order : goal.returns-clause-order
returns-clause-order c = order_of_rows

pub returns-clause-lines : goal.returns-clause-lines
returns-clause-lines c = lines_of_rows
