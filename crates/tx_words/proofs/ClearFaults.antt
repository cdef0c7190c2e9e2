-- What is wrong with the words is one thing, but for a stray word, which is refused by either of its two kinds.
use Rattle.std.proofs.Common.{◌≡◌, ◌⊎◌, ◌==◌, nat_lt, ◌&&◌, ℕ, zero, suc, Bool, true, false, cond, not, List, [], ◌∷◌, length, Option, Some, None, is_some, refl, sym, subst, inl, inr, codes}
use Rattle.std.specs.Str.{bytes_eq}
use Rattle.std.specs.Option.{option_map_or}
use Rattle.clap.specs.Kinds.{Kinds, or_else, values_kinds, range_kinds, request_kinds, check_kinds}
use Rattle.clap.specs.Walk.{Held, Names, Row, Rule, Step, Text, Waiting, Walk, next, trailing, subcommand, value, action_of, arg_by_id, arg_by_index, arg_by_long, arg_by_short, nothing_held, settled, subcommand_met, walk, walk_from, walked, with_default, word_met, values_or_missing, most_values, idle, option, positional}
use Rattle.clap.specs.Simple.{App, Shape, names_of}
use Rattle.clap.specs.Facts.{unwrap_or_range}
use Rattle.clap.specs.Lexer.{long_of}
use Rattle.clap.specs.Faults.{action_fault, bundle_step_fault, built_fault, count_fault, set_fault, default_fault, defaults_fault, entered_fault, flag_word_fault, flags_fault, level_fault, long_fault, option_fault, other_fault, react_fault, settle_fault, short_fault, step_fault, turn_fault, use_fault, walk_fault}
use Rattle.clap.specs.declared.builder.action.ArgAction.{ArgAction}
use Rattle.clap.specs.declared.builder.action.ArgAction.TheVariants as action
use Rattle.clap.specs.declared.builder.value_parser.ValueParser.{ValueParser}
use Rattle.clap.specs.declared.error.kind.ErrorKind.{ErrorKind}
use Rattle.clap.specs.declared.error.kind.ErrorKind.TheVariants as kind

-- none or one, or an unknown argument that may be an unknown subcommand
pub data IsClear : Kinds → Type 0 where
  nothing : IsClear []
  one : (k : ErrorKind) → IsClear (k ∷ [])
  stray : IsClear (kind.UnknownArgument ∷ kind.InvalidSubcommand ∷ [])

clear_if : (b : Bool) {f g : Kinds} → IsClear f → IsClear g → IsClear (cond b f g)
clear_if true f g = f
clear_if false f g = g

clear_or : {f g : Kinds} → IsClear f → IsClear g → IsClear (or_else f g)
clear_or nothing g = g
clear_or (one k) g = one k
clear_or stray g = stray

clear_option : {A : Type 0} (found : Option A) {f : A → Kinds} {g : Kinds} → ((x : A) → IsClear (f x)) → IsClear g → IsClear (option_map_or f found g)
clear_option None f g = g
clear_option (Some x) f g = f x

clear_values : (ignore_case : Bool) (parser : ValueParser) (values : List Text) → IsClear (values_kinds ignore_case parser values)
clear_values ignore_case parser [] = nothing
clear_values ignore_case parser (v ∷ vs) = clear_or (clear_if _ nothing (one _)) (clear_values ignore_case parser vs)

clear_range : (least most n : ℕ) → IsClear (range_kinds least most n)
clear_range least most n =
    clear_if (nat_lt 0 least && (n == 0)) (one _) (clear_if (least == most) (clear_if (least == n) nothing (one _)) (clear_if (nat_lt n least) (one _) (clear_if (nat_lt most n) (one _) nothing)))

clear_request : (a : ArgAction) → IsClear (request_kinds a)
clear_request action.Set = nothing
clear_request action.Append = nothing
clear_request action.SetTrue = nothing
clear_request action.SetFalse = nothing
clear_request action.Count = nothing
clear_request action.Help = one _
clear_request action.HelpShort = one _
clear_request action.HelpLong = one _
clear_request action.Version = one _

clear_count : (a : Rule) (values : List Text) (rows : List Row) → IsClear (count_fault a values rows)
clear_count a [] rows = clear_if _ nothing (one _)
clear_count a (v ∷ vs) rows = clear_values _ _ (v ∷ vs)

clear_set : (again : Bool) (a : Rule) (values : List Text) (rows : List Row) → IsClear (set_fault again a values rows)
clear_set again a values rows = clear_or (clear_if _ (one _) nothing) (clear_values _ _ values)

clear_action : (act : ArgAction) (again : Bool) (a : Rule) (values : List Text) (rows : List Row) → IsClear (action_fault act again a values rows)
clear_action action.Set again a values rows = clear_set again a values rows
clear_action action.SetTrue again a values rows = clear_set again a values rows
clear_action action.SetFalse again a values rows = clear_set again a values rows
clear_action action.Append again a values rows = clear_values _ _ values
clear_action action.Count again a values rows = clear_count a values rows
clear_action action.Help again a values rows = one _
clear_action action.HelpShort again a values rows = one _
clear_action action.HelpLong again a values rows = one _
clear_action action.Version again a values rows = one _

clear_use : (again : Bool) (a : Rule) (values : List Text) (rows : List Row) → IsClear (use_fault again a values rows)
clear_use again a values rows = clear_or (clear_range (unwrap_or_range a.range).start_inclusive (most_values a) (length values)) (clear_action (action_of a) again a (values_or_missing a values) rows)

clear_settle : (c : List Rule) (again : Bool) (h : Held) → IsClear (settle_fault c again h)
clear_settle c again h = clear_option h.pending (λ p. clear_option (arg_by_id c p.0) (λ a. clear_use again a p.1 h.rows) nothing) nothing

clear_react : (c : List Rule) (again : Bool) (a : Rule) (values : List Text) (h : Held) → IsClear (react_fault c again a values h)
clear_react c again a values h = clear_or (clear_settle c again h) (clear_use again a values (settled c h).rows)

clear_option_word : (c : List Rule) (again : Bool) (a : Rule) (v : Option Text) (h : Held) → IsClear (option_fault c again a v h)
clear_option_word c again a (Some v) h = clear_react c again a (v ∷ []) h
clear_option_word c again a None h = clear_settle c again h

clear_long : (c : List Rule) (again : Bool) (found : Option Rule) (v : Option Text) (h : Held) → IsClear (long_fault c again found v h)
clear_long c again None v h = one _
clear_long c again (Some a) v h = clear_if _ (clear_option_word c again a v h) (clear_if _ (one _) (clear_react c again a [] h))

clear_short : (c : List Rule) (again : Bool) (found : Option Rule) (rest : Text) (h : Held) (then : Held → Kinds) → ((h : Held) → IsClear (then h)) → IsClear (short_fault c again found rest h then)
clear_short c again None rest h then clear = one _
clear_short c again (Some a) rest h then clear =
    clear_if _ (clear_option_word c again a _ h) (clear_or (clear_react c again a [] h) (clear _))

clear_bundle_step : (c : List Rule) (again : Bool) (x : Option ℕ) (flags : Text) (skip : ℕ) (h : Held) (then : Text → ℕ → Held → Kinds) → ((t : Text) (n : ℕ) (h : Held) → IsClear (then t n h))
    → IsClear (bundle_step_fault c again x flags skip h then)
clear_bundle_step c again None flags skip h then clear = nothing
clear_bundle_step c again (Some x) flags zero h then clear = clear_short c again (arg_by_short c x) _ h _ (λ h. clear _ _ h)
clear_bundle_step c again (Some x) flags (suc skip) h then clear = clear _ _ _

clear_flags : (c : List Rule) (again : Bool) (k : ℕ) (flags : Text) (skip : ℕ) (h : Held) → IsClear (flags_fault c again k flags skip h)
unfolding flags_fault
clear_flags c again zero flags skip h = nothing
clear_flags c again (suc k) flags skip h = clear_bundle_step c again _ flags skip h (flags_fault c again k) (clear_flags c again k)

clear_flag_word : (c : List Rule) (again : Bool) (long : Option (Text × Option Text)) (word : Text) (h : Held) → IsClear (flag_word_fault c again long word h)
clear_flag_word c again (Some p) word h = clear_long c again (arg_by_long c p.0) p.1 h
clear_flag_word c again None word h = clear_option _ (λ flags. clear_flags c again _ _ _ _) nothing

-- where the word `help` is no call for help
clear_other : (s : Shape) (found : Option Text) (word : Text) (h : Held) → (s.disable_help_subcommand ≡ true) ⊎ (found ≡ None) → IsClear (other_fault s found word h)
clear_other s None word h quiet = clear_if _ nothing (clear_flag_word s.rules s.args_override_self (long_of word) word h)
clear_other s (Some name) word h (inl off) = subst (λ (b : Bool). IsClear (cond (bytes_eq name (codes "help") && not b) (kind.DisplayHelp ∷ kind.InvalidSubcommand ∷ []) [])) (sym off) (go (bytes_eq name (codes "help")))
  where
    go : (b : Bool) → IsClear (cond (b && false) (kind.DisplayHelp ∷ kind.InvalidSubcommand ∷ []) [])
    go true = nothing
    go false = nothing
clear_other s (Some name) word h (inr none) = absurd (let no : Some name ≡ None = none in cc)

-- no name of a subcommand is a call for help
abbrev IsQuiet : Shape → Names → Type 0
IsQuiet s names = (waiting : Waiting) (word : Text) → (s.disable_help_subcommand ≡ true) ⊎ (subcommand_met names waiting word ≡ None)

clear_step : (s : Shape) (position : ℕ) (h : Held) (step : Step) → IsClear (step_fault s position h step)
clear_step s position h value =
    clear_option (arg_by_index s.rules position) (λ a. clear_if _ nothing (clear_settle s.rules s.args_override_self h)) (clear_if _ (one _) stray)
clear_step s position h (next waiting) = nothing
clear_step s position h (trailing n) = nothing
clear_step s position h (subcommand name) = nothing

clear_turn : (s : Shape) (names : Names) (w : Walk) (word : Text) → IsQuiet s names → IsClear (turn_fault s names w word)
clear_turn s names w word quiet =
    let met = word_met s.rules names w.is_trailing w.waiting w.position word w.held in
    clear_if (is_some w.stopped) nothing
    (clear_or (clear_if w.is_trailing nothing (clear_other s (subcommand_met names w.waiting word) word w.held (quiet w.waiting word))) (clear_step s w.position met.0 met.1))

clear_walk : (s : Shape) (names : Names) (w : Walk) (words : List Text) → IsQuiet s names → IsClear (walk_fault s names w words)
unfolding walk_fault
clear_walk s names w [] quiet = nothing
clear_walk s names w (word ∷ rest) quiet = clear_or (clear_turn s names w word quiet) (clear_walk s names (walked s.rules names w word) rest quiet)

clear_default : (rows : List Row) (a : Rule) → IsClear (default_fault rows a)
clear_default rows a = clear_if _ nothing (clear_or (clear_request _) (clear_values _ _ a.defaults))

clear_defaults : (rows : List Row) (rules : List Rule) → IsClear (defaults_fault rows rules)
unfolding defaults_fault
clear_defaults rows [] = nothing
clear_defaults rows (a ∷ rest) = clear_or (clear_default rows a) (clear_defaults (with_default rows a) rest)

clear_check : (a b c : Bool) → IsClear (check_kinds a b c)
clear_check a b c = clear_if a (one _) (clear_if b (one _) (clear_if c (one _) nothing))

clear_level : (s : Shape) (names : Names) (h : Held) (words : List Text) (has_subcommand : Bool) (below : Kinds) → IsQuiet s names → IsClear below → IsClear (level_fault s names h words has_subcommand below)
clear_level s names h words has_subcommand below quiet clear =
    clear_or (clear_walk s names (walk_from h) words quiet) (clear_or clear (clear_or (clear_settle s.rules s.args_override_self (walk s.rules names h words).held) (clear_or (clear_defaults (settled s.rules (walk s.rules names h words).held).rows s.rules) (clear_check _ _ _))))

none_met : (waiting : Waiting) (word : Text) → subcommand_met [] waiting word ≡ None
none_met idle word = refl
none_met (option id) word = refl
none_met positional word = refl

nothing_met : (s : Shape) → IsQuiet s []
nothing_met s = λ waiting word. inr (none_met waiting word)

clear_entered : (a : App) (stop : Option (Text × List Text)) → IsClear (entered_fault a stop)
clear_entered a stop = clear_option stop (λ p. clear_option _ (λ s. clear_level s [] nothing_held p.1 false [] (nothing_met s) nothing) nothing) nothing

-- of a command whose subcommands have no `help` among them
pub clear_faults : (a : App) (h : Held) (words : List Text) → a.top.disable_help_subcommand ≡ true → IsClear (built_fault a h words)
clear_faults a h words off = clear_level a.top (names_of a) h words _ _ (λ _ _. inl off) (clear_entered a _)
