use Rattle.std.proofs.Common.{◌∙◌}
use Rattle.drf_text.proofs.BlankLemmas.{last_more}
use Rattle.drf_text.proofs.trim.trim_end.Goals as goal

pub loop-more-preserved : goal.loop-more-preserved
loop-more-preserved c = record {
  same = last_more c.loop-more.rest.now c.loop-more.more.now c.loop-more-test.true c.loop-more.invariant.less ∙ c.loop-more.invariant.same;
  less = c.drop_last-more-in-loop-more.ensures;
  utf8 = c.drop_last-more-in-loop-more.utf8;
}
