use Rattle.std.proofs.Common.{◌∙◌, codes}
use Rattle.clap.specs.Words.{found_of}
use Rattle.clap.proofs.WalkLemmas.{first_value-rows}
use Rattle.drf_app.proofs.request.request_of.Goals as goal

pub returns-clause-says : goal.returns-clause-says
returns-clause-says c = record {
  task = c.task_of-task.ensures.says;
  from = c.get_str-from.ensures ∙ first_value-rows (found_of c.args.command.now) (codes "from");
}
