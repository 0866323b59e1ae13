use Rattle.drf_saved_laws.specs.examples.StateExamples.{ports_are_restored}
use Rattle.drf_saved_laws.proofs.examples.state_example.Goals as goal

pub returns-clause-ports : goal.returns-clause-ports
returns-clause-ports c = ports_are_restored
