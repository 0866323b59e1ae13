use Rattle.std.proofs.Common.{lit<, refl}
use Rattle.std.proofs.lemmas.Str.Pattern.{split_once_first}
use Rattle.drf_text.specs.Steps.{cut_in}
use Rattle.drf_text.proofs.Numbers.{all_before}
use Rattle.drf_text.proofs.piece.cut_piece.Goals as goal

pub returns-in-None : goal.returns-in-None
unfolding cut_in
returns-in-None c =
    let split = split_once_first 58 c.args.piece.now c.split_once.result c.split_once.ensures.cases (lit< tt) in
    (refl, rw ((all_before _ c.args.piece.now (rw c.in-None.is at split)).0))
