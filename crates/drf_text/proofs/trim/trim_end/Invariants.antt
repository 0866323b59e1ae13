use Rattle.std.proofs.Common.{◌≡◌, length}
use Rattle.std.specs.Str.{IsUtf8}
use Rattle.drf_text.specs.Blanks.{without_last_blanks, IsOneLastLess}
use Rattle.drf_text.proofs.trim.trim_end.Given as goal

-- trimming the rest gives the same as trimming the text
abbrev pub invariant-loop-more : goal.invariant-loop-more
invariant-loop-more l = record {
  same : without_last_blanks l.rest ≡ without_last_blanks l.text;
  less : IsOneLastLess l.rest l.more;
  utf8 : IsUtf8 l.more;
}

abbrev pub decreases-loop-more : goal.decreases-loop-more
decreases-loop-more l = length l.rest
