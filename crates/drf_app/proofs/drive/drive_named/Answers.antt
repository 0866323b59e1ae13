use Rattle.std.proofs.Common.{◌∙◌, List, codes, inl, inr, map, refl, subst}
use Rattle.std.specs.Prelude.{Option}
use Rattle.clap.specs.Words.{Text, found_of}
use Rattle.clap.proofs.WalkLemmas.{first_value-rows}
use Rattle.drf_core.specs.Machine.{live}
use Rattle.drf_journal.specs.Files.{Known}
use Rattle.drf_app.specs.Streams.{Streams, stream_of}
use Rattle.drf_app.specs.Starts.{HasNotStarted, IsStart}
use Rattle.drf_app.specs.Done.{HasDriven}
use Rattle.drf_app.proofs.Bounds.{few_named}
use Rattle.drf_app.proofs.drive.drive_named.Goals as goal

pub drive_files-requires-clause-few : goal.drive_files-requires-clause-few
drive_files-requires-clause-few g c κs within = few_named c.files_of-names.result.now _ c.files_of-names.ensures

pub returns-in-Ok-clause-done : goal.returns-in-Ok-clause-done
returns-in-Ok-clause-done g c = λ input.
    let old : Streams = record { input = input; output = stream_of g.W.Write.contents c.args.output.now; errors = stream_of g.E.Write.contents c.args.errors.now } in
    let new : Streams = record { input = input; output = stream_of g.W.Write.contents c.drive_files.new.output; errors = stream_of g.E.Write.contents c.drive_files.new.errors } in
    let known = g.F.FileBytes.known c.args.files.now in
    let start = live c.in-Ok.core in
    let from = c.get_str-from.ensures ∙ first_value-rows (found_of c.args.arguments.now) (codes "from") in
    let driven = subst (λ (k : Known). HasDriven start k (map (λ name. name.now) c.files_of-names.result.now) old new c.drive_files.result) c.begin.ensures.same (c.drive_files.ensures.driven input) in
    inr (
      start,
      subst (λ (name : Option Text). IsStart known name start) from c.in-Ok.ensures.ok,
      subst (λ (files : List Text). HasDriven start known files old new c.drive_files.result) c.files_of-names.ensures driven,
    )

pub returns-in-Err-clause-done : goal.returns-in-Err-clause-done
returns-in-Err-clause-done g c = λ input.
    let old : Streams = record { input = input; output = stream_of g.W.Write.contents c.args.output.now; errors = stream_of g.E.Write.contents c.args.errors.now } in
    let new : Streams = record { input = input; output = stream_of g.W.Write.contents c.args.output.now; errors = stream_of g.E.Write.contents c.report_start.new.errors } in
    let known = g.F.FileBytes.known c.args.files.now in
    let from = c.get_str-from.ensures ∙ first_value-rows (found_of c.args.arguments.now) (codes "from") in
    inl (subst (λ (name : Option Text). HasNotStarted known name old new c.report_start.result) from
    (record { fault = c.in-Err.fault; why = c.in-Err.ensures.err; input = refl; output = refl; reported = c.report_start.ensures }))
