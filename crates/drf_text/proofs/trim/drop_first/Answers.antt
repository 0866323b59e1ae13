use Rattle.std.proofs.Common.{lit<, inr, refl}
use Rattle.std.proofs.lemmas.Str.Pattern.{strip_prefix_char}
use Rattle.drf_text.proofs.BlankLemmas.{stays_first}
use Rattle.drf_text.proofs.trim.drop_first.Goals as goal

pub returns-in-None-strip_prefix : goal.returns-in-None-strip_prefix
returns-in-None-strip_prefix c =
    let space = strip_prefix_char 32 c.args.text.now c.strip_prefix.result c.strip_prefix.ensures.cases (lit< tt) in
    let tab = strip_prefix_char 9 c.args.text.now c.strip_prefix-in-None.result c.strip_prefix-in-None.ensures.cases (lit< tt) in
    inr (refl, stays_first c.args.text.now (rw c.in-None.is at space) (rw c.in-None-strip_prefix.is at tab))
