use Rattle.drf_saved_laws.proofs.theorems.Runs.{rows_resume, runs_resume}
use Rattle.drf_saved_laws.proofs.laws.resume_law.Goals as goal

pub returns-clause-replies : goal.returns-clause-replies
returns-clause-replies c = runs_resume

pub returns-clause-rows : goal.returns-clause-rows
returns-clause-rows c = rows_resume
