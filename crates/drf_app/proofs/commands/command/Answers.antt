use Rattle.std.proofs.Common.{map, subst}
use Rattle.drf_journal.specs.Files.{Known}
use Rattle.drf_app.specs.Done.{HasObeyed}
use Rattle.drf_app.specs.Streams.{Streams, stream_of}
use Rattle.drf_app.proofs.commands.command.Goals as goal

pub drive-requires-clause-asks : goal.drive-requires-clause-asks
drive-requires-clause-asks g c κs within = (c.perform.ensures.left c.in-None.is).asks

pub returns-in-None-clause-obeyed : goal.returns-in-None-clause-obeyed
returns-in-None-clause-obeyed g c =
    let words = map g.S.AsStr.text c.args.words.now in
    let input = stream_of g.R.Read.remaining c.perform.new.input in
    let new : Streams = record {
      input = input;
      output = stream_of g.W.Write.contents c.drive.new.output;
      errors = stream_of g.E.Write.contents c.drive.new.errors;
    } in
    let left = c.perform.ensures.left c.in-None.is in
    let known = g.F.FileBytes.known c.args.files.now in
    subst (λ (old : Streams). HasObeyed known words old new c.drive.result) left.same
    (subst (λ (k : Known). HasObeyed k words (record {
      input = input;
      output = stream_of g.W.Write.contents c.perform.new.output;
      errors = stream_of g.E.Write.contents c.perform.new.errors;
    }) new c.drive.result) (c.perform.ensures.files c.in-None.is) (c.drive.ensures.obeyed input))
