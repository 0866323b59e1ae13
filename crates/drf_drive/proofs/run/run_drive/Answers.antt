use Rattle.std.proofs.Common.{◌≡◌, ◌≤◌, [], length, map, refl, ◌∙◌, arith}
use Rattle.std.proofs.lemmas.Bool.Decides.{nat_tests}
use Rattle.std.proofs.lemmas.List.{length-map}
use Rattle.drf_core.specs.Machine.{live}
use Rattle.drf_drive.proofs.Releases.{journal-none, scripts-few, scripts-none, written-ends}
use Rattle.drf_drive.proofs.run.run_drive.Goals as goal

pub returns-then-is_empty-clause-driven : goal.returns-then-is_empty-clause-driven
returns-then-is_empty-clause-driven g c =
    let names = map g.S.AsStr.text c.args.names.now in
    let count : length names ≡ 0 = length-map c.args.names.now g.S.AsStr.text ∙ grind (arith, nat_tests) in
    let known = g.F.FileBytes.known c.args.files.now in
    written-ends (live c.args.core) known names [] (journal-none (live c.args.core) known names [] (scripts-none known names count) refl) c.write_nothing.result _ _
    c.write_nothing.ensures.ok c.write_nothing.ensures.err

pub drive_scripts-requires-clause-count : goal.drive_scripts-requires-clause-count
drive_scripts-requires-clause-count g c κs within =
    let names = c.args.names.now in
    let same = scripts-few _ (map g.S.AsStr.text names) c.in_ok-scripts.scripts.items c.in_ok-scripts.ensures.ok in
    let count = length-map names g.S.AsStr.text in
    let some : 1 ≤ length names = grind (arith, nat_tests) in
    let few : length names ≤ 64 = c.requires.few in
    (omega (arith, same, count, some), omega (arith, same, count, few))
