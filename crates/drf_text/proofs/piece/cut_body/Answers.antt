use Rattle.std.proofs.Common.{lit<}
use Rattle.std.proofs.lemmas.Str.Pattern.{strip_prefix_char}
use Rattle.drf_text.proofs.Cuts.{body_without_bracket}
use Rattle.drf_text.proofs.piece.cut_body.Goals as goal

pub returns-in-None-strip_prefix : goal.returns-in-None-strip_prefix
returns-in-None-strip_prefix c =
    let no_range = rw c.in-None.is at (strip_prefix_char 91 c.args.body.now c.strip_prefix.result c.strip_prefix.ensures.cases (lit< tt)) in
    let no_set = rw c.in-None-strip_prefix.is at (strip_prefix_char 123 c.args.body.now c.strip_prefix-in-None.result c.strip_prefix-in-None.ensures.cases (lit< tt)) in
    body_without_bracket c.args.body.now no_range no_set
