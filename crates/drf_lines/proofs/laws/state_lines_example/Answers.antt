use Rattle.std.proofs.Common.{refl}
use Rattle.std.specs.Fmt.{digits}
use Rattle.json.specs.Print.{escape_byte}
use Rattle.drf_text.specs.Written.{bundle_text, decimals_text}
use Rattle.drf_lines.specs.StateLine.{head_line, row_line, end_line}
use Rattle.drf_lines.proofs.laws.state_lines_example.Goals as goal

pub returns : goal.returns
unfolding digits escape_byte bundle_text decimals_text head_line row_line end_line
returns c = record { head = refl; agent = refl; framework = refl; no_clients = refl; weight = refl; limit = refl; end = refl }
