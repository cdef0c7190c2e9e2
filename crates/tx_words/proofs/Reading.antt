-- What `clap` says of the words, as what they ask for.
use Rattle.std.proofs.Common.{◌≡◌, ◌⊎◌, true, false, List, ℕ, [], Option, Some, None, Result, Ok, Err, refl, sym, ap, ◌∙◌, subst, inl, inr, option_map}
use Rattle.std.specs.Prelude.{IfOk, IsErr}
use Rattle.std.specs.Box.{box_value}
use Rattle.std.specs.declared.alloc.AllocError.{AllocError}
use Rattle.std.proofs.lemmas.Result.{IfOk-weaker}
use Rattle.clap.specs.Simple.{argument_words, built}
use Rattle.clap.specs.Walk.{nothing_held}
use Rattle.clap.specs.Words.{App, Row, Kinds, HasKind, HasMatchesOf, IsAmong, fault_of, found_of, is_simple, is_simple_and_free, kind_of, rows_of, subcommand_name_of, subcommand_of, subcommand_rows_of}
use Rattle.clap.specs.declared.parser.matches.ArgMatches.{ArgMatches}
use Rattle.clap.specs.declared.parser.matches.ArgMatches.TheViews.{out-ArgMatches, out-SubCommand}
use Rattle.clap.specs.declared.error.Error.{Error}
use Rattle.clap.specs.declared.error.kind.ErrorKind.{ErrorKind}
use Rattle.clap.specs.declared.error.kind.ErrorKind.TheVariants as kind
use Rattle.tx_words.specs.declared.given.Asked.{Asked}
use Rattle.tx_words.specs.CommandLine.{run_line, gen_line, list_line, command_line, faults, subcommand}
use Rattle.tx_words.specs.Words.{asked, asked_instead, subcommand_asked, call_meant}
use Rattle.tx_words.proofs.ClearFaults.{IsClear, nothing, one, stray, clear_faults}

if_err : {T E : Type 0} (r : Result T E) (P : T → Type 0) → IsErr r → IfOk r P
if_err (Ok x) P err = absurd (let no : false ≡ true = err in cc)
if_err (Err e) P err = tt

simple : is_simple_and_free command_line ≡ true
unfolding run_line gen_line list_line command_line
simple = refl

one_level : is_simple command_line ≡ true
unfolding run_line gen_line list_line command_line
one_level = refl

no_help_command : (built command_line).top.disable_help_subcommand ≡ true
unfolding run_line gen_line list_line command_line
no_help_command = refl

clear : (words : List (List ℕ)) → IsClear (faults words)
unfolding faults
clear words = clear_faults (built command_line) nothing_held (argument_words command_line words) no_help_command

-- nothing is wrong with them
pub nothing_wrong : (app : App) (words : List (List ℕ)) → app ≡ command_line → (is_simple_and_free app ≡ true → fault_of app words ≡ []) → faults words ≡ []
unfolding faults
nothing_wrong app words is none = ap (λ a. fault_of a words) (sym is) ∙ none (ap is_simple_and_free is ∙ simple)

-- or memory was wanting, or the refusal is of one of the faults' kinds
pub wrong : (app : App) (words : List (List ℕ)) (e : Error) (k : ErrorKind) → app ≡ command_line → k ≡ kind_of e → (is_simple_and_free app ≡ true → HasKind (fault_of app words) e) → (k ≡ kind.OutOfMemory) ⊎ IsAmong k (faults words)
unfolding faults
wrong app words e k is of some =
    subst (λ (k : ErrorKind). (k ≡ kind.OutOfMemory) ⊎ IsAmong k (fault_of command_line words)) (sym of)
    (subst (λ (a : App). HasKind (fault_of a words) e) is (some (ap is_simple_and_free is ∙ simple)))

-- the name of the subcommand alone, and with its values
first_told : {B : Type 0} (told : Option B) (name : B → List ℕ) (rows : B → List Row) → option_map name told ≡ option_map (λ (named : List ℕ × List Row). named.0) (option_map (λ b. (name b, rows b)) told)
first_told None name rows = refl
first_told (Some b) name rows = refl

name_told : (m : ArgMatches) → subcommand_name_of m ≡ option_map (λ named. named.0) (subcommand_rows_of m)
name_told m = first_told (out-ArgMatches m).subcommand (λ b. (out-SubCommand (box_value b)).name.now) (λ b. rows_of (found_of (out-SubCommand (box_value b)).matches))

-- the words were taken
pub asked_taken : (app : App) (words : List (List ℕ)) (m : ArgMatches) → app ≡ command_line → faults words ≡ [] → HasMatchesOf app words m
    → subcommand_asked (subcommand_name_of m) (option_map (λ named. named.1) (subcommand_rows_of m)) ≡ call_meant words
unfolding subcommand
asked_taken app words m is none has =
    let found : subcommand_rows_of m ≡ subcommand words = (has (ap is_simple is ∙ one_level)).1 ∙ ap (λ a. subcommand_of a words) is in
    ap (λ (name : Option (List ℕ)). subcommand_asked name (option_map (λ named. named.1) (subcommand_rows_of m))) (name_told m)
    ∙ ap (λ f. subcommand_asked (option_map (λ named. named.0) f) (option_map (λ named. named.1) f)) found ∙ sym (ap (λ kinds. asked words kinds (subcommand words)) none)

instead : (words : List (List ℕ)) (kinds : Kinds) (k : ErrorKind) (found : Option (List ℕ × List Row)) → IsClear kinds → IsAmong k kinds → asked_instead words k ≡ asked words kinds found
instead words kinds k found nothing among = absurd among
instead words kinds k found (one x) (inl is) = ap (asked_instead words) is
instead words kinds k found (one x) (inr never) = absurd never
instead words kinds k found stray (inl is) = ap (asked_instead words) is
instead words kinds k found stray (inr (inl is)) = ap (asked_instead words) is
instead words kinds k found stray (inr (inr never)) = absurd never

-- or they weren't, or memory was wanting
pub asked_refused : (words : List (List ℕ)) (k : ErrorKind) → (k ≡ kind.OutOfMemory) ⊎ IsAmong k (faults words) → (r : Result Asked AllocError) → (k ≡ kind.OutOfMemory → IsErr r) → IfOk r (λ a. a ≡ asked_instead words k)
    → IfOk r (λ a. a ≡ call_meant words)
asked_refused words k (inl memory) r err ok = if_err r _ (err memory)
asked_refused words k (inr among) r err ok = IfOk-weaker r _ _ (λ a is. is ∙ instead words (faults words) k (subcommand words) (clear words) among) ok
