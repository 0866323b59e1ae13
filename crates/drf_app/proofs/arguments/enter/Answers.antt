use Rattle.std.proofs.Common.{ℕ, List, Bor, map, ◌∙◌, sym}
use Rattle.std.proofs.lemmas.Bool.{and_parts, false≢true}
use Rattle.clap.specs.Words.{app_of, built, fault_of, found_of, is_simple, rows_of}
use Rattle.clap.specs.Faults.{is_free_app}
use Rattle.clap.specs.declared.parser.matches.ArgMatches.{ArgMatches}
use Rattle.clap.specs.declared.parser.matches.ArgMatches.TheViews.{out-ArgMatches}
use Rattle.clap.proofs.CallerLemmas.{subcommand_required}
use Rattle.drf_app.specs.Arguments.{HasEntered}
use Rattle.drf_app.proofs.Entered.{entered, entered_is_named, is_plain_form, local, refused_as}
use Rattle.drf_app.proofs.arguments.enter.Goals as goal

pub returns-in_err-matches : goal.returns-in_err-matches
returns-in_err-matches g c =
    let form = app_of c.args.line in
    let words = map g.S.AsStr.text c.args.words.now in
    refused_as (λ (command : Bor (List ℕ) × ArgMatches). HasEntered form words command.0.now (rows_of (found_of command.1))) (fault_of form words) c.from_residual.result
    c.in_err-matches.field-0.0 c.from_residual.ensures.1 (c.in_err-matches.ensures.kinds c.requires.simple)

pub unreachable-requires : goal.unreachable-requires
unreachable-requires g c =
    let globals = local c.args.line (is_plain_form (app_of c.args.line) c.requires.simple) in
    let has = subcommand_required c.args.line c.in_ok-matches.matches c.in_ok-matches.ensures.parsed globals c.requires.required in
    absurd (false≢true (c.in_default.ensures.variant ∙ has))

pub returns : goal.returns
returns g c =
    let form = app_of c.args.line in
    let words = map g.S.AsStr.text c.args.words.now in
    let name = c.in-Some.command.0.now in
    let rows = rows_of (found_of c.in-Some.command.1) in
    let simple = (and_parts (is_simple form) (is_free_app (built form)) c.requires.simple).0 in
    let same = (c.in_ok-matches.ensures.matches simple).1 in
    let named = sym same ∙ entered (out-ArgMatches c.in_ok-matches.matches).subcommand name rows c.in-Some.ensures.name c.in-Some.ensures.rows in
    record {
      right = c.in_ok-matches.ensures.kinds c.requires.simple;
      entered = named;
      is_name = entered_is_named form words (name, rows) named;
    }
