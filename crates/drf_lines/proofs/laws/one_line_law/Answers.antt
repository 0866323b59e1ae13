use Rattle.drf_lines.specs.StateLine.{head_value, row_value, end_value, head_line, row_line, end_line}
use Rattle.drf_lines.proofs.OneLines.{written_once}
use Rattle.drf_lines.proofs.laws.one_line_law.Goals as goal

pub returns : goal.returns
unfolding head_line row_line end_line
returns c = record {
  head = λ head. written_once (head_value head);
  row = λ row. written_once (row_value row);
  end = λ rows digest. written_once (end_value rows digest);
}
