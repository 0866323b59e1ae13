-- Lemmas about the arguments that `clap` has read.
use Rattle.std.specs.Prelude.{◌≡◌, ◌&&◌, not, Bool, true, false, List, [], ◌∷◌, Option, Some, None, Box, find, option_map, option_and_then, Result, Ok, Err, IsErrAnd, MatchResult}
use Rattle.std.specs.Box.{box_value}
use Rattle.std.proofs.Common.{refl, sym, ap, subst, inl, inr}
use Rattle.std.specs.List.{list_all}
use Rattle.std.proofs.lemmas.Bool.{and_parts, false≢true}
use Rattle.clap.specs.Kinds.{Kinds, HasKind}
use Rattle.clap.specs.Words.{App, Row, Shape, Text, app_of, built, found_of, kind_of, rows_of, is_buildable, is_simple, is_simple_and_free, subcommand_of, subcommand_rows}
use Rattle.clap.specs.Faults.{is_free_app}
use Rattle.clap.specs.Simple.{argument_words, has_simple_rules, is_ready, is_ready_leaf, is_simple_leaf, label_of, names_of, rows_at}
use Rattle.clap.specs.Walk.{answers_to, is_empty, stop_after}
use Rattle.clap.specs.declared.builder.command.Command.{Command}
use Rattle.clap.specs.declared.builder.command.Command.TheViews.{out-Command}
use Rattle.clap.specs.declared.parser.matches.ArgMatches.TheViews.{out-SubCommand}
use Rattle.clap.specs.declared.parser.matches.SubCommand.{SubCommand}
use Rattle.clap.specs.declared.error.Error.{Error}
use Rattle.clap.specs.declared.error.kind.ErrorKind.TheVariants.{OutOfMemory}
use Rattle.drf_app.specs.Arguments.{IsNameOf}

-- ---- the command that was entered

found_among : (test : Shape → Bool) (words : List Text) (p : Text × List Row) (shapes : List Shape)
    → option_map (λ s. rows_at s words) (find test shapes) ≡ Some p → IsNameOf shapes p.0
found_among test words p [] e = cc
found_among test words p (s ∷ ss) e = by (test s) refl (found_among test words p ss)
  where
    by : (b : Bool) → test s ≡ b
        → (option_map (λ s. rows_at s words) (find test ss) ≡ Some p → IsNameOf ss p.0) → IsNameOf (s ∷ ss) p.0
    by true passes later =
        let one : Some (rows_at s words) ≡ Some p = rw passes at e in
        let same : rows_at s words ≡ p = cc in
        inl (sym (ap (λ (q : Text × List Row). q.0) same))
    by false fails later = inr (later (rw fails at e))

entered_among : (shapes : List Shape) (p : Text × List Row) (stop : Option (Text × List Text))
    → option_and_then (λ q. option_map (λ s. rows_at s q.1) (find (λ s. answers_to q.0 (label_of s)) shapes)) stop ≡ Some p
    → IsNameOf shapes p.0
entered_among shapes p None e = cc
entered_among shapes p (Some q) e = found_among (λ s. answers_to q.0 (label_of s)) q.1 p shapes e

-- it is one of the commands of the form
pub entered_is_named : (a : App) (words : List Text) (p : Text × List Row) → subcommand_of a words ≡ Some p → IsNameOf (built a).subs p.0
entered_is_named a words p e =
    entered_among (built a).subs p (stop_after (built a).top.rules (names_of (built a)) (argument_words a words)) e

module _ {Z : Type 0} where
  abbrev name_in : Option (Box SubCommand Z) → Option Text
  name_in o = option_map (λ b. (out-SubCommand (box_value b)).name.now) o

  -- a command with this name and these arguments was entered
  pub entered : (o : Option (Box SubCommand Z)) (name : Text) (rows : List Row) → Some name ≡ name_in o
      → Some rows ≡ option_map (λ p. p.1) (subcommand_rows o) → subcommand_rows o ≡ Some (name, rows)
  entered None name rows named with_rows = cc
  entered (Some b) name rows named with_rows =
      let same_name : (out-SubCommand (box_value b)).name.now ≡ name = cc in
      let same_rows : rows_of (found_of (out-SubCommand (box_value b)).matches) ≡ rows = cc in
      λ i. Some (same_name i, same_rows i)

-- ---- the form

no_globals : (a b c rest : Bool) → a && (not b && (not c && rest)) ≡ true → c ≡ false
no_globals a b false rest plain = refl
no_globals false b true rest plain = absurd (false≢true plain)
no_globals true true true rest plain = absurd (false≢true plain)
no_globals true false true rest plain = absurd (false≢true plain)

-- a plain command has no argument that applies to all its subcommands
pub local : (command : Command) → (app_of command).top.is_plain ≡ true → (out-Command command).has_globals ≡ false
local command plain =
    let fields = out-Command command in
    no_globals (is_empty fields.groups.items) fields.allow_external_subcommands fields.has_globals _ plain

-- a command that `clap` reads exactly is plain
pub is_plain_form : (a : App) → is_simple_and_free a ≡ true → a.top.is_plain ≡ true
is_plain_form a exact =
    let simple = (and_parts (is_simple a) (is_free_app (built a)) exact).0 in
    let buildable = (and_parts (is_buildable a) (is_ready (built a).top && list_all is_ready_leaf (built a).subs) simple).0 in
    let rules = (and_parts (has_simple_rules a.top) (list_all is_simple_leaf a.subs) buildable).0 in
    (and_parts a.top.is_plain (list_all (λ r. r.is_simple) a.top.rules) rules).0

-- ---- arguments that are refused

module _ {T : Type 0} (Asked : T → Type 0) (kinds : Kinds) where
  -- after running out of memory
  pub out_of_memory : (r : Result T Error) → IsErrAnd r (λ e. kind_of e ≡ OutOfMemory) → MatchResult r Asked (HasKind kinds)
  out_of_memory (Ok task) memory = absurd memory
  out_of_memory (Err error) memory = inl memory

  -- an error that is passed on is one of the same kinds
  pub refused_as : (r : Result T Error) (error : Error) → IsErrAnd r (λ e. e ≡ error) → HasKind kinds error
      → MatchResult r Asked (HasKind kinds)
  refused_as (Ok task) error same refused = absurd same
  refused_as (Err e) error same refused = subst (HasKind kinds) (sym same) refused
