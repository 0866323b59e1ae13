use Rattle.std.proofs.Common.{◌∙◌}
use Rattle.clap.specs.Words.{found_of}
use Rattle.clap.proofs.WalkLemmas.{one_text-rows}
use Rattle.drf_app.proofs.arguments.flag_of.Goals as goal

pub returns : goal.returns
returns c =
    let flag = one_text-rows (found_of c.args.command.now) c.args.name.now in
    record {
      unsaid = λ e. c.get_flag.ensures.none (flag ∙ e);
      no = λ e. c.get_flag.ensures.other (flag ∙ e);
      yes = λ e. c.get_flag.ensures.value (flag ∙ e);
    }
