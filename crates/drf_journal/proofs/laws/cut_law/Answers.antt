use Rattle.drf_journal.specs.Audited.{agents_text, cycle_text}
use Rattle.drf_journal.proofs.Audits.{agents-live, cycle-live}
use Rattle.drf_journal.proofs.Resumes.{lines-in-two, output-in-two, allocator-in-two, reported-in-two, steps-leave}
use Rattle.drf_journal.proofs.laws.cut_law.Goals as goal

pub returns : goal.returns
returns c = record {
  lines = lines-in-two;
  output = output-in-two;
  allocator = allocator-in-two;
  audit = reported-in-two agents_text agents-live;
  explanation = λ machine at. reported-in-two (cycle_text at) (cycle-live at) machine;
  steps = steps-leave;
}
