-- The command line of `vortex`, as the parser `clap` is told of it:
-- `vortex run --date Y-M-D-T --out NAME [--script EDITS] [--budget N] [--pages N] [--keep N] FILE..`, `vortex gen SEED PAGES`,
-- `vortex list FILE`, `vortex serve --date Y-M-D-T [--budget N] [--pages N] [--keep N] FILE..`, `--help` and `--version`.
use Rattle.std.specs.Prelude.{List, ℕ, true, codes, Option, Some}
use Rattle.clap.specs.Words.{App, Rule, Row, Shape, Kinds, fault_of, new_app, new_rule, subcommand_of, with_rule, with_subcommand}
use Rattle.clap.specs.Simple.{on_top}
use Rattle.clap.specs.declared.builder.action.ArgAction.TheVariants.{Append}

-- an option `--NAME` with one value, at most once
abbrev pub option_rule : List ℕ → Rule
option_rule name = record (new_rule name) { long = Some name }

-- such an option, which must be there
abbrev pub required_rule : List ℕ → Rule
required_rule name = record (option_rule name) { required = true }

-- the files, at least one: the words that are no options and no values of options
abbrev pub files_rule : Rule
files_rule = record (new_rule (codes "file")) { required = true; action = Some Append }

abbrev pub with_options : App → App
with_options app = with_rule (with_rule (with_rule (with_rule (with_rule (with_rule app
    (required_rule (codes "date"))) (required_rule (codes "out"))) (option_rule (codes "script")))
    (option_rule (codes "budget"))) (option_rule (codes "pages"))) (option_rule (codes "keep"))

abbrev pub run_command : App
run_command = with_rule (with_options (new_app (codes "run"))) files_rule

-- a word that is no option, which must be there
abbrev pub word_rule : List ℕ → Rule
word_rule name = record (new_rule name) { required = true }

abbrev pub gen_command : App
gen_command = with_rule (with_rule (new_app (codes "gen")) (word_rule (codes "seed"))) (word_rule (codes "pages"))

abbrev pub list_command : App
list_command = with_rule (new_app (codes "list")) (word_rule (codes "file"))

abbrev pub serve_command : App
serve_command = with_rule (with_rule (with_rule (with_rule (with_rule (new_app (codes "serve"))
    (required_rule (codes "date"))) (option_rule (codes "budget"))) (option_rule (codes "pages"))) (option_rule (codes "keep"))) files_rule

-- the words don't begin with the program's name, there is a version, and a subcommand must be there, which is not `help`
abbrev pub with_settings : Shape → Shape
with_settings top = record top { no_binary_name = true; has_version = true; subcommand_required = true; disable_help_subcommand = true }

unfoldable pub run_line : App
run_line = with_subcommand (on_top with_settings (new_app (codes "vortex"))) run_command.top

unfoldable pub gen_line : App
gen_line = with_subcommand run_line gen_command.top

unfoldable pub list_line : App
list_line = with_subcommand gen_line list_command.top

unfoldable pub command_line : App
command_line = with_subcommand list_line serve_command.top

-- what `clap` finds wrong with the words first: nothing where it takes them
unfoldable pub faults : List (List ℕ) → Kinds
faults words = fault_of command_line words

-- the subcommand that the words name, with the values of its options and its files
unfoldable pub subcommand : List (List ℕ) → Option (List ℕ × List Row)
subcommand words = subcommand_of command_line words
