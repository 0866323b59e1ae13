use Rattle.std.proofs.Common.{◌≡◌, ◌++◌, drop}
use Rattle.json.specs.Print.{escape}
use Rattle.drf_lines.specs.Amounts.{left_amounts}
use Rattle.drf_lines.specs.ReportLine.{amounts_text}
use Rattle.drf_lines.specs.Written.{KeepsPrefix, KeepsUtf8}
use Rattle.drf_lines.proofs.amounts.put_entries.Given as goal

-- the line so far, followed by the text of the remaining entries, is the whole line
abbrev pub invariant-loop-entry : goal.invariant-loop-entry
invariant-loop-entry l = record {
  text : l.line.items ++ left_amounts l.has_any (drop l.entry-index l.entries) ≡ l.fn.line.items ++ escape (amounts_text l.entries);
  prefix : KeepsPrefix l.fn.line.items l.line.items;
  utf8 : KeepsUtf8 l.fn.line.items l.line.items;
}
