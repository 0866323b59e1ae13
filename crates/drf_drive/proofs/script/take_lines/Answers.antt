use Rattle.std.proofs.Common.{◌≡◌, length, arith}
use Rattle.std.proofs.lemmas.Bool.Decides.{nat_tests}
use Rattle.drf_drive.proofs.Scripts.{read-all}
use Rattle.drf_drive.proofs.script.take_lines.Goals as goal

pub returns-clause-ok : goal.returns-clause-ok
returns-clause-ok c =
    let rest = c.loop-rest.rest.now in
    let none : length rest ≡ 0 = grind (arith, nat_tests) in
    read-all c.args.bytes.now rest c.loop-rest.events.items c.loop-rest.invariant none
