-- How the command line is built, and how its arguments are read.
use Rattle.std.specs.Prelude.{◌≡◌, ◌⊎◌, Bool, true, false, List, [], ◌∷◌, Some, None, codes}
use Rattle.clap.specs.Words.{App, Row, Rule, Shape, Text, built, fault_of, new_app, new_rule, one_of, subcommand_of}
use Rattle.clap.specs.Simple.{on_top}
use Rattle.clap.specs.declared.builder.action.ArgAction.TheVariants.{SetTrue}

-- `drf COMMAND`, which has a version
abbrev pub drf_top : Shape → Shape
drf_top s = record s { subcommand_required = true; has_version = true; disable_help_subcommand = true }

-- the command line before any command is added
abbrev pub top_line : App
top_line = on_top drf_top (new_app (codes "drf"))

abbrev pub flag : Text → Rule
flag name = record (new_rule name) { long = Some name; action = Some SetTrue }

-- one of the commands has this name
abbrev pub IsNameOf : List Shape → Text → Type 0
IsNameOf [] name = ⊥
IsNameOf (s ∷ ss) name = (name ≡ s.name) ⊎ IsNameOf ss name

-- the arguments, of which the first is the program's name, are right; they name this command, and these are its own arguments
pub record HasEntered (form : App) (words : List Text) (name : Text) (rows : List Row) : Type 0 where
  pub right : fault_of form words ≡ []
  pub entered : subcommand_of form words ≡ Some (name, rows)
  pub is_name : IsNameOf (built form).subs name

-- whether the arguments of a command set a flag
pub record HasFlag (rows : List Row) (name : Text) (is_set : Bool) : Type 0 where
  pub unsaid : one_of name rows ≡ None → is_set ≡ false
  pub no : one_of name rows ≡ Some (codes "false") → is_set ≡ false
  pub yes : one_of name rows ≡ Some (codes "true") → is_set ≡ true
