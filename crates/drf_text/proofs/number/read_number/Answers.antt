use Rattle.std.proofs.Common.{lit<}
use Rattle.std.proofs.lemmas.Str.Pattern.{split_once_first}
use Rattle.drf_text.proofs.Numbers.{number_without_point, number_with_point}
use Rattle.drf_text.proofs.number.read_number.Goals as goal

pub returns-in-None : goal.returns-in-None
returns-in-None c =
    let split = split_once_first 46 c.args.text.now c.split_once.result c.split_once.ensures.cases (lit< tt) in
    number_without_point c.args.text.now c.whole_number.result (rw c.in-None.is at split) c.whole_number.ensures

pub returns-in-Some : goal.returns-in-Some
returns-in-Some c =
    let split = split_once_first 46 c.args.text.now c.split_once.result c.split_once.ensures.cases (lit< tt) in
    let parts = rw c.in-Some.is at split in
    number_with_point c.args.text.now _ _ c.parted_number.result parts.0 parts.1 parts.2 c.parted_number.ensures
