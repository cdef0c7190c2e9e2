-- What reading on gives, by what a scan still needs: a scan that is fed token by token means the rest of what it reads.
use Rattle.std.specs.Prelude.{◌≡◌, ◌≤◌, ◌+◌, ℕ, List, [], ◌∷◌, ◌++◌, Some}
use Rattle.tx_prim.specs.declared.modes.Mode.{Mode}
use Rattle.tx_prim.specs.declared.modes.Standing.TheVariants.{Stands}
use Rattle.tx_seen.specs.declared.fed.Fed.{Fed}
use Rattle.tx_seen.specs.declared.fed.Fed.TheVariants as fed
use Rattle.tx_seen.specs.declared.item.Item.{Item}
use Rattle.tx_seen.specs.declared.error.TexError.TheVariants.{NotAllowed}
use Rattle.tx_seen.specs.declared.fed.Want.{Want}
use Rattle.tx_seen.specs.declared.item.Item.TheVariants.{Took, Gave}
use Rattle.tx_seen.specs.declared.meaning.Meaning.{Meaning}
use Rattle.tx_seen.specs.Readings.{Reading, Done, Wrong, next}
use Rattle.tx_scan.specs.Mapped.{mapped}
use Rattle.tx_scan.specs.Rests.{HasTakenBy, IsRead}
use Rattle.tx_scan.specs.Settled.{WantsNext}
use Rattle.tx_scan.specs.Supplied.{NeedsNoMore}
use Rattle.tx_scan.specs.DimensionRests.{rest as dimen_rest, held as dimen_held, more_needed as dimen_needed}
use Rattle.tx_rule.specs.Rests.{rule_rest, rule_held, rule_needed, IsSizing, IsUnnamed}
use Rattle.tx_shape.specs.Rests.{rest as shape_rest, held as shape_held, needed as shape_needed, IsWaiting as IsWaiting_shape}
use Rattle.tx_shape.specs.LoadRests.{rest as load_rest, held as load_held, needed as load_needed, IsWaiting as IsWaiting_load}
use Rattle.tx_assign.specs.Beginnings.{variable_of}
use Rattle.tx_assign.specs.declared.types.Variable.{Variable}
use Rattle.tx_assign.specs.Rests.{made as assignment_made, rest as assign_rest, held as assign_held, more_needed as assign_needed, IsWaiting as IsWaiting_assign}
use Rattle.tx_command.specs.declared.types.Command.{Command}
use Rattle.tx_command.specs.declared.types.Command.TheVariants.{Assign, Sized, Rule as Rule_command, BeginLeaders}
use Rattle.tx_command.specs.declared.types.Head.{Head}
use Rattle.tx_command.specs.declared.types.Head.TheVariants.{Defining as Defining_head}
use Rattle.tx_command.specs.declared.scans.Scans.{Scans}
use Rattle.tx_command.specs.declared.scans.Stage.{Stage}
use Rattle.tx_command.specs.declared.scans.Stage.TheVariants as stage
use Rattle.tx_command.specs.declared.scans.Whole.{Whole}
use Rattle.tx_command.specs.declared.scans.Whole.TheVariants as whole
use Rattle.tx_command.specs.Standing.{standing_in}
use Rattle.tx_command.specs.Commands.{command, defining, macro_defining, font_defining, future_defining, future_of, keeping, command_of, leaders_of, load_of, skipping}

-- the second of two tokens that are read again
abbrev pub second_rest : Head → List Item → Item → List Item → Reading Command
second_rest head behind (Gave v) more = Wrong NotAllowed
second_rest head behind (Took t) more = Done (future_of head t) (behind ++ Took t ∷ more)

-- the rest of a command by the part that comes next
abbrev pub stage_rest : Mode → Head → Stage → Scans → List Item → Item → List Item → Reading Command
stage_rest mode head stage.Start scans behind item more = command mode head (item ∷ more)
stage_rest mode head stage.Assign scans behind item more = next (assign_rest scans.assignment behind item more) (λ a behind. Done (Assign a) behind)
stage_rest mode head (stage.Name kind) scans behind item more = defining kind (item ∷ more)
stage_rest mode head (stage.MacroName kind) scans behind item more = macro_defining kind (item ∷ more)
stage_rest mode head stage.FutureName scans behind item more = future_defining (item ∷ more)
stage_rest mode head stage.FontName scans behind item more = font_defining (item ∷ more)
stage_rest mode head stage.Loading scans behind item more = next (load_rest scans.loading behind item more) (λ asked behind. Done (load_of asked) behind)
stage_rest mode head stage.SecondToken scans behind item more = second_rest head behind item more
stage_rest mode head (stage.KeptToken kind) scans behind item more = keeping kind (item ∷ more)
stage_rest mode head (stage.Sized kind) scans behind item more = next (dimen_rest scans.size behind item more) (λ measure behind. Done (Sized kind measure.size) behind)
stage_rest mode head (stage.Rule kind) scans behind item more = next (rule_rest scans.rule behind item more) (λ rule behind. Done (Rule_command kind rule) behind)
stage_rest mode head (stage.Leaders kind) scans behind item more = leaders_of kind (item ∷ more)
stage_rest mode head (stage.LeadersRule kind) scans behind item more = next (rule_rest scans.rule behind item more) (λ rule behind. Done (BeginLeaders kind rule) behind)
stage_rest mode head stage.Shape scans behind item more = next (shape_rest scans.shape behind item more) (λ shaped behind. Done (command_of shaped) behind)
stage_rest mode head stage.Spaces scans behind item more = skipping (item ∷ more)

abbrev pub command_rest : Mode → Head → Scans → List Item → Item → List Item → Reading Command
command_rest mode head scans behind item more = stage_rest mode head scans.stage scans behind item more

-- how many of its tokens may be given back
abbrev pub stage_held : Stage → Scans → ℕ
stage_held stage.Assign scans = assign_held scans.assignment
stage_held (stage.Sized kind) scans = dimen_held scans.size
stage_held (stage.Rule kind) scans = rule_held scans.rule
stage_held (stage.LeadersRule kind) scans = rule_held scans.rule
stage_held stage.Shape scans = shape_held scans.shape
stage_held stage.Loading scans = load_held scans.loading
stage_held stage.SecondToken scans = 1
stage_held _ scans = 0

abbrev pub held : Scans → ℕ
held scans = stage_held scans.stage scans

-- how many values it may need at most, unless more tokens need more; what the first token begins may need one
abbrev pub stage_needs : Stage → Scans → ℕ
stage_needs stage.Start scans = 1
stage_needs stage.Assign scans = assign_needed scans.assignment
stage_needs (stage.Sized kind) scans = dimen_needed scans.size
stage_needs (stage.Rule kind) scans = rule_needed scans.rule
stage_needs (stage.LeadersRule kind) scans = rule_needed scans.rule
stage_needs stage.Shape scans = shape_needed scans.shape
stage_needs stage.Loading scans = load_needed scans.loading
stage_needs _ scans = 0

abbrev pub more_needed : Scans → ℕ
more_needed scans = stage_needs scans.stage scans

-- only assignments, sizes and what a box takes need values
abbrev pub NeedsValues : Stage → Scans → Type 0
NeedsValues stage.Start scans = ⊥
NeedsValues stage.Assign scans = IsWaiting_assign scans.assignment
NeedsValues (stage.Name kind) scans = ⊥
NeedsValues (stage.MacroName kind) scans = ⊥
NeedsValues stage.FutureName scans = ⊥
NeedsValues stage.FontName scans = ⊥
NeedsValues stage.Loading scans = IsWaiting_load scans.loading
NeedsValues stage.SecondToken scans = ⊥
NeedsValues (stage.KeptToken kind) scans = ⊥
NeedsValues (stage.Sized kind) scans = Unit {0}
NeedsValues (stage.Rule kind) scans = IsSizing scans.rule.part
NeedsValues (stage.Leaders kind) scans = ⊥
NeedsValues (stage.LeadersRule kind) scans = IsSizing scans.rule.part
NeedsValues stage.Shape scans = IsWaiting_shape scans.shape
NeedsValues stage.Spaces scans = ⊥

-- the scans wait for a value, and hold one token at most
abbrev pub IsWaiting : Scans → Type 0
IsWaiting scans = NeedsValues scans.stage scans × (held scans ≤ 1)

-- no name is being defined
abbrev pub IsNoName : Head → Type 0
IsNoName (Defining_head prefixes name kind) = ⊥
IsNoName _ = Unit {0}

-- a stage that is neither the first token, nor an assignment, nor what boxes and their kin take
abbrev pub IsPart : Stage → Type 0
IsPart stage.Start = ⊥
IsPart stage.Assign = ⊥
IsPart stage.Shape = ⊥
IsPart _ = Unit {0}

-- the command that is whole: the assignment that its scan has made, or the one that was put beside
abbrev pub whole_command : Scans → Command → Whole → Command
whole_command scans made whole.Assignment = Assign (assignment_made scans.assignment)
whole_command scans made whole.Command = made

-- an answer, with that command
abbrev pub told : Scans → Command → Fed Whole → Fed Command
told scans made answer = mapped (whole_command scans made) answer

-- a stage that goes on
abbrev pub IsOnAt : Stage → Scans → Type 0
IsOnAt (stage.Rule kind) scans = IsUnnamed scans.rule.part
IsOnAt (stage.LeadersRule kind) scans = IsUnnamed scans.rule.part
IsOnAt _ scans = Unit {0}

abbrev pub IsOn : Scans → Type 0
IsOn scans = IsOnAt scans.stage scans

abbrev pub GoesOn : {A : Type 0} → Scans → Fed A → Type 0
GoesOn new (fed.More want) = IsOn new
GoesOn new (fed.Need kind) = IsWaiting new
GoesOn new (fed.Done value back) = Unit {0}
GoesOn new (fed.Wrong error) = Unit {0}

-- an answer says what reading gives of the items behind these tokens, of which so many may be given back; so many values are
-- needed at most, and the scans go on
pub record IsBegunBy (mode : Mode) (head : Head) (count : ℕ) (reading : List Item → Reading Command) (tokens : List Item) (new : Scans) (answer : Fed Command) : Type 0 where
  pub reads : IsRead (command_rest mode head) held count reading tokens new answer
  pub needs : NeedsNoMore count (more_needed new) answer
  pub goes_on : GoesOn new answer

-- the same of the first token of a command, behind which this is read, whatever stands before it
abbrev pub Begins : (List Item → Reading Command) → Scans → Fed Command → Type 0
Begins reading new answer = (mode : Mode) (head : Head) → IsBegunBy mode head 0 reading [] new answer

-- what means this stands in the mode, and gives this variable a value
pub record BeginsVariable (mode : Mode) (meant : Meaning) (variable : Variable) : Type 0 where
  pub stands : standing_in mode meant ≡ Stands
  pub is : variable_of meant ≡ Some variable

-- the scans of a command, in this mode and behind this head, that has taken these items and wants its next token so
pub record IsAt (mode : Mode) (head : Head) (taken : List Item) (want : Want) (scans : Scans) : Type 0 where
  pub at : WantsNext (command mode head) (HasTakenBy (command_rest mode head) held (command mode head)) more_needed taken want scans
  pub goes_on : IsOn scans
