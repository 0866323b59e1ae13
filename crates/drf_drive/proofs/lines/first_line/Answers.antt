use Rattle.std.proofs.Common.{◌≡◌, ◌+◌, ◌-◌, length, take, drop, arith}
use Rattle.std.proofs.lemmas.List.{take_all, length-drop}
use Rattle.drf_drive.proofs.Cuts.{lines-alone, lines-cut}
use Rattle.drf_drive.proofs.lines.first_line.Goals as goal

pub returns-in-Some-clause-lines : goal.returns-in-Some-clause-lines
returns-in-Some-clause-lines c =
    let bytes = c.args.bytes.now in
    let at = c.in-Some.at in
    let found = c.in-Some.ensures.found in
    let inside = found.0 in
    let tail : take (length bytes - (at + 1)) (drop (at + 1) bytes) ≡ drop (at + 1) bytes =
    take_all _ _ (simp length-drop (omega arith)) in
    rw tail (lines-cut bytes at inside found.1 found.2)

pub returns-in-None-clause-lines : goal.returns-in-None-clause-lines
returns-in-None-clause-lines c = lines-alone c.args.bytes.now c.in-None.ensures.none c.requires
