use Rattle.drf_ask.proofs.Written.{in_lines, each_is_line, marked, beside, nothing_changed}
use Rattle.drf_ask.proofs.laws.asked_law.Goals as goal

pub returns : goal.returns
returns c = record {
  lines = in_lines;
  whole = each_is_line;
  marked = marked;
  beside = beside c.line_law.ensures.output;
  allocator = nothing_changed;
}
