use Rattle.std.proofs.Common.{◌∙◌, sym, ap, Err}
use Rattle.drf_text.proofs.Exits.{number_fits, number_too_large, number_refused}
use Rattle.drf_text.proofs.values.read_scalar.Goals as goal

pub returns-in-Ok : goal.returns-in-Ok
returns-in-Ok c = rw c.new.ensures (number_fits c.args.text.now c.in-Ok.thousandths (sym c.in-Ok.is ∙ c.read_number.ensures))

pub returns-in-TooLarge : goal.returns-in-TooLarge
returns-in-TooLarge c =
    number_too_large c.args.text.now (sym (c.in-Err.is ∙ ap Err c.in-TooLarge.is) ∙ c.read_number.ensures)

pub returns-in_default : goal.returns-in_default
returns-in_default c = number_refused c.args.text.now c.in-Err.fault (sym c.in-Err.is ∙ c.read_number.ensures) c.in_default.not-TooLarge
