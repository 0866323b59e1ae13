use Rattle.std.proofs.Common.{ap, ◌∙◌}
use Rattle.std.specs.Prelude.{codes}
use Rattle.serde_json.specs.Data.{number, put, unsigned}
use Rattle.drf_why.proofs.tally.put_counts.Goals as goal

pub returns : goal.returns
returns c =
    let t = c.args.tally.now in
    c.in_ok-put_count-9.ensures
    ∙ ap (put (codes "passed") (number (unsigned t.passed))) (c.in_ok-put_count-8.ensures
    ∙ ap (put (codes "ReservedForOthers") (number (unsigned t.reserved))) (c.in_ok-put_count-7.ensures
    ∙ ap (put (codes "OverLimit") (number (unsigned t.over_limit))) (c.in_ok-put_count-6.ensures
    ∙ ap (put (codes "NothingLeft") (number (unsigned t.nothing_left))) (c.in_ok-put_count-5.ensures
    ∙ ap (put (codes "NothingFree") (number (unsigned t.nothing_free))) (c.in_ok-put_count-4.ensures
    ∙ ap (put (codes "Inactive") (number (unsigned t.inactive))) (c.in_ok-put_count-3.ensures
    ∙ ap (put (codes "HeldBack") (number (unsigned t.held_back))) (c.in_ok-put_count-2.ensures
    ∙ ap (put (codes "Grant") (number (unsigned t.granted))) (c.in_ok-put_count.ensures
    ))))))))
