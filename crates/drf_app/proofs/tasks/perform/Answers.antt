use Rattle.std.proofs.Common.{map, subst}
use Rattle.clap.specs.Words.{Text, found_of, rows_of}
use Rattle.drf_app.specs.Line.{Names}
use Rattle.drf_app.specs.Streams.{stream_of}
use Rattle.drf_app.specs.Done.{refused}
use Rattle.drf_app.proofs.tasks.perform.Goals as goal

pub perform_named-requires-clause-command : goal.perform_named-requires-clause-command
perform_named-requires-clause-command g c κs within = c.in-Ok.ensures.is_name

pub returns-in-Ok-clause-obeyed : goal.returns-in-Ok-clause-obeyed
returns-in-Ok-clause-obeyed g c =
    c.perform_named.ensures.obeyed (map g.S.AsStr.text c.args.words.now) (record { right = c.in-Ok.ensures.right; entered = c.in-Ok.ensures.entered })

pub returns-in-Ok-clause-left : goal.returns-in-Ok-clause-left
returns-in-Ok-clause-left g c = λ none.
    let words = map g.S.AsStr.text c.args.words.now in
    let rows = rows_of (found_of c.in-Ok.arguments) in
    let left = c.perform_named.ensures.left none in
    record {
      asks = record {
        rows = rows;
        names = subst (λ (name : Text). Names words name rows) left.0 (record { right = c.in-Ok.ensures.right; entered = c.in-Ok.ensures.entered });
      };
      same = left.1;
    }

pub returns-in-Err-clause-obeyed : goal.returns-in-Err-clause-obeyed
returns-in-Err-clause-obeyed g c =
    refused c.in-Err.error c.in-Err.ensures (c.refuse.ensures.refused (stream_of g.R.Read.remaining c.args.input.now))
