use Rattle.std.proofs.Common.{◌≡◌, length}
use Rattle.std.specs.Str.{IsUtf8}
use Rattle.drf_text.specs.Blanks.{without_first_blanks, IsOneFirstLess}
use Rattle.drf_text.proofs.trim.trim_start.Given as goal

-- trimming the rest gives the same as trimming the text
abbrev pub invariant-loop-more : goal.invariant-loop-more
invariant-loop-more l = record {
  same : without_first_blanks l.rest ≡ without_first_blanks l.text;
  less : IsOneFirstLess l.rest l.more;
  utf8 : IsUtf8 l.more;
}

abbrev pub decreases-loop-more : goal.decreases-loop-more
decreases-loop-more l = length l.rest
