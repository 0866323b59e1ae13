use Rattle.std.proofs.Common.{lit<, rules, tests}
use Rattle.std.proofs.lemmas.Iterator.Search.{all_from_yields_List}
use Rattle.std.proofs.lemmas.Iterator.Splits.{YieldsList-from_str_split}
use Rattle.drf_text.proofs.Names.{Text, trimmed, has_one_dash}
use Rattle.drf_text.proofs.piece.have_one_dash.Goals as goal

pub returns : goal.returns
returns c =
    all_from_yields_List (λ (part : Text). has_one_dash (trimmed part)) _ _ c.all.result c.all.ensures.ran
    (YieldsList-from_str_split 44 c.args.text.now (lit< tt) (cc) (cc) (cc)) (λ x b q k. search (rules, tests))
