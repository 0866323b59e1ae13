use Rattle.std.proofs.Common.{lit<, inr, refl}
use Rattle.std.proofs.lemmas.Str.Pattern.{strip_suffix_char}
use Rattle.drf_text.proofs.BlankLemmas.{stays_last}
use Rattle.drf_text.proofs.trim.drop_last.Goals as goal

pub returns-in-None-strip_suffix : goal.returns-in-None-strip_suffix
returns-in-None-strip_suffix c =
    let space = strip_suffix_char 32 c.args.text.now c.strip_suffix.result c.strip_suffix.ensures.cases (lit< tt) in
    let tab = strip_suffix_char 9 c.args.text.now c.strip_suffix-in-None.result c.strip_suffix-in-None.ensures.cases (lit< tt) in
    inr (refl, stays_last c.args.text.now (rw c.in-None.is at space) (rw c.in-None-strip_suffix.is at tab))
