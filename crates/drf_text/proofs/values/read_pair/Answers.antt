use Rattle.std.proofs.Common.{lit<, sym, ◌∙◌, ap}
use Rattle.std.proofs.lemmas.Str.Pattern.{split_once_first}
use Rattle.drf_text.specs.Blanks.{trimmed}
use Rattle.drf_text.proofs.Exits.{pair_without_dash, pair_with_dash}
use Rattle.drf_text.proofs.Numbers.{all_before}
use Rattle.drf_text.proofs.values.read_pair.Goals as goal

pub returns-in-Some : goal.returns-in-Some
returns-in-Some c =
    let split = rw c.in-Some.is at (split_once_first 45 c.args.part.now c.split_once.result c.split_once.ensures.cases (lit< tt)) in
    pair_with_dash c.args.part.now c.trim.result.now c.trim-in-Some.result.now c.read_ends.result c.ok_or.result
    (c.trim.ensures ∙ ap trimmed split.1) (c.trim-in-Some.ensures ∙ ap trimmed split.2) c.read_ends.ensures c.ok_or.ensures.value

pub returns-in-None : goal.returns-in-None
returns-in-None c =
    let none = rw c.in-None.is at (split_once_first 45 c.args.part.now c.split_once.result c.split_once.ensures.cases (lit< tt)) in
    let parts = all_before _ c.args.part.now none in
    sym (pair_without_dash c.args.part.now (ap trimmed parts.1, ap trimmed parts.2))
