use Rattle.std.proofs.Common.{◌≡◌, ◌∙◌, Some, List, map, ap, sym, subst}
use Rattle.clap.specs.Words.{Row, Text, found_of, rows_of}
use Rattle.drf_app.specs.Line.{Names}
use Rattle.drf_app.specs.Done.{driven, refused}
use Rattle.drf_app.proofs.drive.drive.Goals as goal

-- two results of the same parse are equal
same_name : {a b : Text × List Row} → Some a ≡ Some b → a.0 ≡ b.0
same_name {a = a} {b = b} e = let same : a ≡ b = cc in ap (λ (p : Text × List Row). p.0) same

pub returns-in-Ok-clause-obeyed : goal.returns-in-Ok-clause-obeyed
returns-in-Ok-clause-obeyed g c = λ input.
    let words = map g.S.AsStr.text c.args.words.now in
    let rows = rows_of (found_of c.in-Ok.arguments) in
    let entered = c.in-Ok.ensures in
    let name = same_name (sym entered.entered ∙ c.requires.asks.names.entered) in
    driven (record { rows = rows; names = subst (λ (text : Text). Names words text rows) name (record { right = entered.right; entered = entered.entered }) })
    (c.drive_named.ensures.done input)

pub returns-in-Err-clause-obeyed : goal.returns-in-Err-clause-obeyed
returns-in-Err-clause-obeyed g c = λ input. refused c.in-Err.error c.in-Err.ensures (c.refuse.ensures.refused input)
