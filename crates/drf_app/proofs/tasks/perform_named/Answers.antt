use Rattle.std.proofs.Common.{subst}
use Rattle.clap.specs.Words.{Text, found_of, rows_of}
use Rattle.drf_app.specs.Line.{Names}
use Rattle.drf_app.specs.Done.{done}
use Rattle.drf_app.proofs.Bounds.{bounds_said}
use Rattle.drf_app.proofs.tasks.perform_named.Goals as goal

pub perform_request-requires-clause-bounds : goal.perform_request-requires-clause-bounds
perform_request-requires-clause-bounds g c κs within =
    bounds_said (rows_of (found_of c.args.arguments.now)) c.request_of-request.result.task c.request_of-request.ensures.says.task

pub returns-clause-obeyed : goal.returns-clause-obeyed
returns-clause-obeyed g c = λ words names.
    let rows = rows_of (found_of c.args.arguments.now) in
    done c.request_of-request.result (record {
      rows = rows;
      names = subst (λ (name : Text). Names words name rows) c.request_of-request.ensures.name names;
      says = c.request_of-request.ensures.says;
    }) c.perform_request.ensures.done
