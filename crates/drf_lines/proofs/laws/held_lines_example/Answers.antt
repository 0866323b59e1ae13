use Rattle.std.proofs.Common.{refl}
use Rattle.std.specs.Fmt.{digits}
use Rattle.json.specs.Print.{escape_byte}
use Rattle.drf_text.specs.Written.{bundle_text, decimals_text}
use Rattle.drf_lines.specs.StateLine.{row_line}
use Rattle.drf_lines.proofs.laws.held_lines_example.Goals as goal

pub returns : goal.returns
unfolding digits escape_byte bundle_text decimals_text row_line
returns c = record { offer = refl; task = refl; filter = refl }
