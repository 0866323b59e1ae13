use Rattle.drf_explain.specs.ExplainedText.{finding_text}
use Rattle.drf_ask.proofs.Texts.{unfed}
use Rattle.drf_ask.proofs.list.FindingListed.push.Goals as goal

pub returns : goal.returns
unfolding finding_text
returns c = unfed c.args.text.now.items _ _ _ c.in_ok-write_explained_line.ensures.ok c.drop_last.ensures
