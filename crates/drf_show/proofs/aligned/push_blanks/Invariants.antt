use Rattle.std.proofs.Common.{◌≡◌, ◌++◌, replicate}
use Rattle.drf_show.proofs.aligned.push_blanks.Given as goal

abbrev pub invariant-loop-blank : goal.invariant-loop-blank
invariant-loop-blank l = l.text.items ≡ l.initial.text.items ++ replicate l._blank 32
