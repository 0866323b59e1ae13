use Rattle.std.proofs.Common.{MatchResult, map, ap, subst}
use Rattle.clap.specs.Words.{App, HasKind, fault_of, found_of, is_simple_and_free, rows_of}
use Rattle.drf_app.specs.Arguments.{HasEntered}
use Rattle.drf_app.proofs.arguments.read_arguments.Goals as goal

pub enter-requires-clause-simple : goal.enter-requires-clause-simple
enter-requires-clause-simple g c = ap is_simple_and_free c.in_ok-line.ensures

pub enter-requires-clause-required : goal.enter-requires-clause-required
enter-requires-clause-required g c = ap (λ (a : App). a.top.subcommand_required) c.in_ok-line.ensures

pub returns : goal.returns
returns g c =
    let words = map g.S.AsStr.text c.args.words.now in
    subst (λ (a : App). MatchResult c.enter.result (λ command. HasEntered a words command.0.now (rows_of (found_of command.1))) (HasKind (fault_of a words)))
    c.in_ok-line.ensures c.enter.ensures
