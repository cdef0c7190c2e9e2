-- What the words of a call ask for.
use Rattle.std.specs.Prelude.{◌≡◌, ℕ, Bool, true, false, if◌then◌else◌, List, [], ◌∷◌, map, Option, Some, None, option_map, codes, String, string_bytes}
use Rattle.std.specs.Global.{Global}
use Rattle.std.specs.Str.{bytes_eq}
use Rattle.clap.specs.Words.{Row, Kinds, all_of, first_of}
use Rattle.clap.specs.declared.error.kind.ErrorKind.{ErrorKind}
use Rattle.clap.specs.declared.error.kind.ErrorKind.TheVariants.{DisplayHelp, DisplayVersion}
use Rattle.tx_machine.specs.Ranges.{IsDate, AreLimits}
use Rattle.tx_machine.specs.declared.types.Date.{Date}
use Rattle.tx_machine.specs.declared.types.Limits.{Limits}
use Rattle.tx_words.specs.declared.given.Given.{Given}
use Rattle.tx_words.specs.declared.given.Serving.{Serving}
use Rattle.tx_words.specs.declared.given.Asked.{Asked}
use Rattle.tx_words.specs.declared.given.Asked.TheVariants.{Run, Serve, Gen, Listing, Help, RunHelp, GenHelp, ListHelp, ServeHelp, Version, Nothing}
use Rattle.tx_words.specs.CommandLine.{faults, subcommand}
use Rattle.tx_words.specs.Values.{date_meant, seed_meant, limit_meant, named, are_distinct, all_named}

-- the value of --date
abbrev pub date_given : Option (List ℕ) → Option Date
date_given None = None
date_given (Some text) = date_meant text

-- the value of --out
abbrev pub name_given : Option (List ℕ) → Option (List ℕ)
name_given None = None
name_given (Some text) = named text

-- the value of --script, which may be left out
abbrev pub some_named : Option (List ℕ) → Option (Option (List ℕ))
some_named None = None
some_named (Some name) = Some (Some name)

abbrev pub script_given : Option (List ℕ) → Option (Option (List ℕ))
script_given None = Some None
script_given (Some text) = some_named (named text)

-- the value of an option that may be left out
abbrev pub limit_given : ℕ → ℕ → Option (List ℕ) → Option ℕ
limit_given default most None = Some default
limit_given default most (Some text) = limit_meant most text

abbrev pub limits_of : Option ℕ → Option ℕ → Option ℕ → Option Limits
limits_of (Some budget) (Some pages) (Some keep) = Some (record { budget = budget; pages = pages; keep = keep })
limits_of _ _ _ = None

-- the values of --budget, --pages and --keep
abbrev pub limits_given : List Row → Option Limits
limits_given rows = limits_of
    (limit_given 1000000 1000000000 (first_of (codes "budget") rows))
    (limit_given 1000 10000 (first_of (codes "pages") rows))
    (limit_given 10000 10000 (first_of (codes "keep") rows))

abbrev pub files_given : Option (List (List ℕ)) → Option (List (List ℕ))
files_given None = None
files_given (Some texts) = all_named texts

-- all five are as they are to be; the first file is the main one
abbrev pub given_of : Option Date → Option Limits → Option (List ℕ) → Option (Option (List ℕ)) → Option (List (List ℕ)) → Option Given
given_of (Some date) (Some limits) (Some out) (Some script) (Some (main ∷ others)) =
    Some (record { date = date; limits = limits; out = out; script = script; main = main; files = main ∷ others })
given_of _ _ _ _ _ = None

-- what `run` is given
abbrev pub run_given : List Row → Option Given
run_given rows = given_of (date_given (first_of (codes "date") rows)) (limits_given rows)
    (name_given (first_of (codes "out") rows)) (script_given (first_of (codes "script") rows)) (files_given (all_of (codes "file") rows))

abbrev pub run_asked : Option Given → Asked
run_asked None = Nothing
run_asked (Some given) = Run given

-- what `serve` is given; the first file is the main one
abbrev pub serving_of : Option Date → Option Limits → Option (List (List ℕ)) → Option Serving
serving_of (Some date) (Some limits) (Some (main ∷ others)) = Some (record { date = date; limits = limits; main = main; files = main ∷ others })
serving_of _ _ _ = None

abbrev pub serving_given : List Row → Option Serving
serving_given rows = serving_of (date_given (first_of (codes "date") rows)) (limits_given rows) (files_given (all_of (codes "file") rows))

abbrev pub serve_asked : Option Serving → Asked
serve_asked None = Nothing
serve_asked (Some serving) = Serve serving

-- SEED and PAGES, which must be there
abbrev pub seed_given : Option (List ℕ) → Option ℕ
seed_given None = None
seed_given (Some text) = seed_meant text

abbrev pub pages_given : Option (List ℕ) → Option ℕ
pages_given None = None
pages_given (Some text) = limit_meant 1000 text

abbrev pub gen_of : Option ℕ → Option ℕ → Asked
gen_of (Some seed) (Some pages) = Gen seed pages
gen_of _ _ = Nothing

-- what `gen` is given
abbrev pub gen_asked : List Row → Asked
gen_asked rows = gen_of (seed_given (first_of (codes "seed") rows)) (pages_given (first_of (codes "pages") rows))

-- FILE, which must be there
abbrev pub list_of : Option (List ℕ) → Asked
list_of None = Nothing
list_of (Some name) = Listing name

-- what `list` is given
abbrev pub list_asked : List Row → Asked
list_asked rows = list_of (name_given (first_of (codes "file") rows))

-- the date and the limits are those of a run, and the files are distinct
abbrev pub IsWithin : Given → Type 0
IsWithin given = IsDate given.date × AreLimits given.limits × (are_distinct given.files ≡ true)

abbrev pub IsServing : Serving → Type 0
IsServing serving = IsDate serving.date × AreLimits serving.limits × (are_distinct serving.files ≡ true)

abbrev pub IsAskedWithin : Asked → Type 0
IsAskedWithin (Run given) = IsWithin given
IsAskedWithin (Serve serving) = IsServing serving
IsAskedWithin _ = Unit {0}

-- the file of the script that they name, if they name one
abbrev pub script_asked : Asked → Option (List ℕ)
script_asked (Run given) = given.script
script_asked _ = None

-- the file whose pages they ask for, if they ask for pages
abbrev pub dvi_asked : Asked → Option (List ℕ)
dvi_asked (Listing name) = Some name
dvi_asked _ = None

-- they ask for something that is made of files
abbrev pub IsOfFiles : Asked → Type 0
IsOfFiles (Run given) = Unit {0}
IsOfFiles (Serve serving) = Unit {0}
IsOfFiles (Listing name) = Unit {0}
IsOfFiles _ = ⊥

-- what a subcommand with its values asks for; there are `run`, `gen`, `list` and `serve`
unfoldable pub command_asked : List ℕ → List Row → Asked
command_asked name rows =
    if bytes_eq name (codes "gen") then gen_asked rows
    else if bytes_eq name (codes "list") then list_asked rows
    else if bytes_eq name (codes "serve") then serve_asked (serving_given rows)
    else run_asked (run_given rows)

abbrev pub subcommand_asked : Option (List ℕ) → Option (List Row) → Asked
subcommand_asked (Some name) (Some rows) = command_asked name rows
subcommand_asked _ _ = Nothing

-- the first word is this one
abbrev pub begins_with : List ℕ → List (List ℕ) → Bool
begins_with word [] = false
begins_with word (first ∷ _) = bytes_eq first word

-- where `clap` finds that help is asked for, it is that of `run`, `gen`, `list` or `serve` behind this word
abbrev pub help_shown : List (List ℕ) → Asked
help_shown words =
    if begins_with (codes "run") words then RunHelp
    else if begins_with (codes "gen") words then GenHelp
    else if begins_with (codes "list") words then ListHelp
    else if begins_with (codes "serve") words then ServeHelp
    else Help

-- where `clap` doesn't take the words, that may be since they ask for help or for the version
abbrev pub asked_instead : List (List ℕ) → ErrorKind → Asked
asked_instead words DisplayHelp = help_shown words
asked_instead words DisplayVersion = Version
asked_instead words _ = Nothing

abbrev pub asked : List (List ℕ) → Kinds → Option (List ℕ × List Row) → Asked
asked words [] found = subcommand_asked (option_map (λ named. named.0) found) (option_map (λ named. named.1) found)
asked words (kind ∷ _) found = asked_instead words kind

-- what words ask for that are a call by `clap`
abbrev pub call_meant : List (List ℕ) → Asked
call_meant words = asked words (faults words) (subcommand words)

-- help of a command
abbrev pub help_of : List ℕ → Asked
help_of command =
    if bytes_eq command (codes "run") then RunHelp
    else if bytes_eq command (codes "gen") then GenHelp
    else if bytes_eq command (codes "list") then ListHelp
    else if bytes_eq command (codes "serve") then ServeHelp
    else if bytes_eq command (codes "help") then Help
    else Nothing

-- `help`, or `help` and one command
abbrev pub help_meant : List (List ℕ) → Asked
help_meant (_ ∷ []) = Help
help_meant (_ ∷ command ∷ []) = help_of command
help_meant _ = Nothing

-- what the words ask for
abbrev pub words_meant : List (List ℕ) → Asked
words_meant words = if begins_with (codes "help") words then help_meant words else call_meant words

-- the bytes of each word
abbrev pub texts : List (String Global) → List (List ℕ)
texts words = map (λ word. string_bytes word) words
