use Rattle.std.proofs.Common.{Result, sym, ap, ◌∙◌, subst}
use Rattle.std.specs.Option.{ok_or}
use Rattle.serde_json.specs.Data.{Data}
use Rattle.serde_json.specs.Read.{read}
use Rattle.drf_lines.specs.declared.fault.LineFault.{LineFault}
use Rattle.drf_lines.specs.declared.fault.LineFault.TheVariants.{NotJson}
use Rattle.drf_lines.specs.Fault.{IsReadAs}
use Rattle.drf_lines.specs.LineValue.{line_view}
use Rattle.drf_lines.proofs.LineReads.{value_of_utf8, value_of_other}
use Rattle.drf_lines.proofs.line.line_value.Goals as goal

pub returns-in-Ok-clause-read : goal.returns-in-Ok-clause-read
returns-in-Ok-clause-read c =
    subst (λ (r : Result Data LineFault). IsReadAs line_view c.text_value.result r)
    (ap (λ text. ok_or (read text) NotJson) c.in-Ok.ensures.cases.0 ∙ sym (value_of_utf8 c.args.line.now c.in-Ok.ensures.cases.1))
    c.text_value.ensures

pub returns-in-Err-clause-read : goal.returns-in-Err-clause-read
returns-in-Err-clause-read c = value_of_other c.args.line.now c.in-Err.ensures.cases.0

pub returns-in-Ok-clause-memory : goal.returns-in-Ok-clause-memory
returns-in-Ok-clause-memory c = λ _. c.in-Ok.ensures.cases.1
