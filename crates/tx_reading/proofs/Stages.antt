-- Each part of a command reads on as its scan.
use Rattle.std.proofs.Common.{◌≡◌, ◌≤◌, ◌||◌, ℕ, ℤ, true, false, cond, Option, Some, None, List, [], ◌∷◌, ◌++◌, length, unwrap_or, Result, Ok, Err, IfOk, refl, ap, sym, subst, ◌∙◌, arith}
use Rattle.std.specs.Prelude.{IfSome}
use Rattle.tx_node.specs.declared.rule.Rule.{Rule}
use Rattle.tx_prim.specs.declared.family.AfterKind.{AfterKind}
use Rattle.tx_shape.specs.declared.types.Opener.{Opener}
use Rattle.tx_shape.specs.declared.types.Opener.TheVariants as opener
use Rattle.tx_prim.specs.declared.glue.GlueParameter.TheVariants.{Tabskip}
use Rattle.tx_command.specs.declared.scans.PreamblePart.{PreamblePart}
use Rattle.tx_command.specs.declared.scans.PreamblePart.TheVariants as part
use Rattle.tx_command.specs.declared.scans.RowStart.{RowStart}
use Rattle.tx_command.specs.declared.scans.RowStart.TheVariants as start
use Rattle.tx_prim.specs.declared.family.DefinitionKind.{DefinitionKind}
use Rattle.tx_prim.specs.declared.family.GlueForm.{GlueForm}
use Rattle.tx_node.specs.Items.{PackedBox}
use Rattle.tx_prim.specs.declared.family.LeadersKind.{LeadersKind}
use Rattle.tx_prim.specs.declared.family.RuleKind.{RuleKind}
use Rattle.tx_prim.specs.declared.primitive.Primitive.{Primitive}
use Rattle.tx_prim.specs.declared.primitive.Primitive.TheVariants as primitive
use Rattle.tx_seen.specs.declared.meaning.Meaning.{Meaning}
use Rattle.tx_seen.specs.declared.meaning.Meaning.TheVariants as meant
use Rattle.tx_prim.specs.declared.family.Shorthand.{Shorthand}
use Rattle.tx_prim.specs.declared.family.SizeKind.TheVariants.{Above}
use Rattle.tx_command.specs.declared.types.SizeUse.{SizeUse}
use Rattle.tx_command.specs.declared.types.SizeUse.TheVariants as size
use Rattle.tx_prim.specs.declared.modes.Mode.{Mode}
use Rattle.tx_prim.specs.declared.modes.Standing.TheVariants.{Stands}
use Rattle.tx_seen.specs.declared.error.TexError.TheVariants.{NoAssignment, NotAllowed, Undefined}
use Rattle.tx_seen.specs.Seen.{is_space, is_relax, is_undefined, continues_word}
use Rattle.tx_seen.specs.declared.fed.Fed.{Fed}
use Rattle.tx_seen.specs.declared.fed.Fed.TheVariants as fed
use Rattle.tx_seen.specs.declared.fed.Value.{Value}
use Rattle.tx_seen.specs.declared.fed.Want.{Want}
use Rattle.tx_seen.specs.declared.fed.Want.TheVariants.{Raw, Expanded}
use Rattle.tx_seen.specs.declared.item.Item.{Item}
use Rattle.tx_seen.specs.declared.item.Item.TheVariants.{Took, Gave}
use Rattle.tx_seen.specs.declared.place.Place.{Place}
use Rattle.tx_seen.specs.declared.place.Place.TheVariants as place
use Rattle.tx_seen.specs.declared.seen.Seen.{Seen}
use Rattle.tx_seen.specs.Readings.{Reading, More, Done, Wrong, ending, next}
use Rattle.tx_scan.specs.Rests.{IsFedBy, IsGivenBehind, IsRead, HoldsOne}
use Rattle.tx_scan.specs.Supplied.{NeedsNoMore, NeedsFewer, NeedsNothing}
use Rattle.tx_scan.specs.declared.scans.DimenScan.{DimenScan}
use Rattle.tx_scan.specs.declared.scans.Measure.{Measure}
use Rattle.tx_prim.specs.declared.family.AtomPart.{AtomPart}
use Rattle.tx_scan.specs.DimensionRests.{begun_size, rest as dimen_rest, held as dimen_held, more_needed as dimen_needed}
use Rattle.tx_assign.specs.declared.scan.AssignScan.{AssignScan}
use Rattle.tx_assign.specs.declared.types.Assigning.{Assigning}
use Rattle.tx_assign.specs.declared.types.Assigning.TheVariants as assign_begun
use Rattle.tx_assign.specs.declared.types.Assigning.TheVariants.{Named}
use Rattle.tx_assign.specs.declared.types.Variable.{Variable}
use Rattle.tx_assign.specs.declared.types.Variable.TheVariants.{Numbered, Standing}
use Rattle.tx_assign.specs.Beginnings.{primitive_variable, variable_of}
use Rattle.tx_assign.specs.Assignments.{assignment}
use Rattle.tx_assign.specs.Rests.{rest as assign_rest, held as assign_held, more_needed as assign_needed, told as told_assigning, IsBegun, IsFed as IsAssigned, IsGiven as IsAssignedBehind, WaitsIfNeeded as WaitsIfAssigning}
use Rattle.tx_shape.specs.declared.types.Shaped.{Shaped}
use Rattle.tx_shape.specs.declared.types.Shaping.{Shaping}
use Rattle.tx_shape.specs.declared.types.Shaping.TheVariants as shape_glue
use Rattle.tx_shape.specs.Shapes.{shape}
use Rattle.tx_shape.specs.declared.types.FontAsked.{FontAsked}
use Rattle.tx_shape.specs.Loading.{loading as load}
use Rattle.tx_shape.specs.LoadRests.{rest as load_rest, held as load_held, needed as load_needed, BeginsLoad, WaitsIfNeeded as WaitsIfLoading}
use Rattle.tx_shape.specs.Rests.{rest as shape_rest, held as shape_held, needed as shape_needed, Begins as BeginsShape, WaitsIfNeeded}
use Rattle.tx_shape.proofs.Amounts.{none-waits}
use Rattle.tx_rule.specs.declared.scans.RulePart.TheVariants as rule
use Rattle.tx_command.specs.declared.scans.Scans.{Scans}
use Rattle.tx_command.specs.declared.scans.Stage.{Stage}
use Rattle.tx_command.specs.declared.scans.Stage.TheVariants as stage
use Rattle.tx_command.specs.declared.scans.Whole.{Whole}
use Rattle.tx_command.specs.declared.scans.Whole.TheVariants as whole
use Rattle.tx_command.specs.declared.types.Command.{Command}
use Rattle.tx_command.specs.declared.types.Command.TheVariants.{Nothing, Assign, EndAccent, Keep, Sized}
use Rattle.tx_command.specs.declared.types.Delimiting.{Delimiting}
use Rattle.tx_command.specs.declared.types.Head.{Head}
use Rattle.tx_command.specs.declared.types.Head.TheVariants.{Fresh, Prefixed, Defining, Future, Leading, LeadingBox, Shift, Part, Delimiting as Delimiting_head, Thickness, Accenting, Loading, Shaping as Shaping_head, Opening, Aligning, Preamble, Row, Entry, SecondShift, Displayed}
use Rattle.tx_command.specs.declared.types.Prefixes.{Prefixes}
use Rattle.tx_command.specs.Commands.{accent_assigning, accent_bare, accent_command, accent_prefixed, command, command_meant, delimiter_command, family_command, font_defining, future_defining, load_of, loading, future_of, future_second, keeping, macro_defining, fresh_command, standing_command, may_be_prefixed, prefixed_command, assigning, defining, leaders_of, led_box, led_rule, leaders_rule, leading_command, leading_glue, led_by, repeated, ruling, sizing, skipping, command_of, shaping, is_assignment, is_delimiter, is_part, is_prefixed, is_setbox, part_command, shift_command, units_of, entry_start, preamble_by, preamble_command, preamble_part, row_start, started, second_shift_command, displayed_command}
use Rattle.tx_command.specs.Standing.{standing_in}
use Rattle.tx_scan.proofs.Answering.{ending-none}
use Rattle.tx_scan.specs.Mapped.{mapped}
use Rattle.tx_rule.specs.Rests.{rule_needed, IsRuleFed}
use Rattle.tx_command.specs.Rests.{command_rest, held, more_needed, second_rest, stage_rest, stage_held, told, whole_command, Begins, BeginsVariable, GoesOn, IsBegunBy, IsOn, IsOnAt}
use Rattle.tx_rule.specs.Rules.{plain_rule}
use Rattle.tx_scan.proofs.Mappings.{Rest, read-none, fed-first, mapped-read, mapped-fed, same-read, needs-mapped, fewer-mapped}
use Rattle.tx_scan.proofs.Behind.{mapped-behind, none-needs}
use Rattle.tx_reading.proofs.Told.{goes-mapped, plain-goes, plain-needs, told-assigned, told-needs}

-- how many values are needed
needs-least : {A : Type 0} (few most new : ℕ) (answer : Fed A) → few ≤ most → NeedsNoMore few new answer → NeedsNoMore most new answer
needs-least few most new (fed.More want) h k = omega (arith, h, k)
needs-least few most new (fed.Need kind) h k = omega (arith, h, k)
needs-least few most new (fed.Done value back) h k = tt
needs-least few most new (fed.Wrong error) h k = tt

-- the answers of the scan of a part, as those of commands
pub part-fed : {S A : Type 0} (part : Rest S A) (part_held : S → ℕ) (f : A → Command) (s : Stage) (mode : Mode) (head : Head) (was is : S) (old new : Scans) (t : Seen) (answer : Fed A) → old.stage ≡ s → new.stage ≡ s → ((behind : List Item) (item : Item) (more : List Item) → stage_rest mode head s old behind item more ≡ next (part was behind item more) (λ a rest. Done (f a) rest)) → stage_held s old ≡ part_held was → ((behind : List Item) (item : Item) (more : List Item) → stage_rest mode head s new behind item more ≡ next (part is behind item more) (λ a rest. Done (f a) rest)) → stage_held s new ≡ part_held is → IsFedBy part part_held was t is answer → IsFedBy (command_rest mode head) held old t new (mapped f answer)
part-fed part part_held f s mode head was is old new t answer at_old at_new old_reads old_holds new_reads new_holds k =
    mapped-fed part part_held (command_rest mode head) held f was is old new t answer
    (λ behind item more. ap (λ s. stage_rest mode head s old behind item more) at_old ∙ old_reads behind item more) (ap (λ s. stage_held s old) at_old ∙ old_holds)
    (λ behind item more. ap (λ s. stage_rest mode head s new behind item more) at_new ∙ new_reads behind item more) (ap (λ s. stage_held s new) at_new ∙ new_holds) k

pub part-needs : (old new : Scans) (answer : Fed Command) → more_needed new ≡ 0 → NeedsNoMore (more_needed old) (more_needed new) answer
part-needs old new (fed.More want) none = omega (arith, none)
part-needs old new (fed.Need kind) none = omega (arith, none)
part-needs old new (fed.Done c back) none = tt
part-needs old new (fed.Wrong error) none = tt

on-at : (s : Stage) (new : Scans) → new.stage ≡ s → IsOnAt s new → IsOn new
on-at s new is on = subst (λ x. IsOnAt x new) (sym is) on

pub part-goes : {A : Type 0} (f : A → Command) (s : Stage) (new : Scans) (answer : Fed A) → new.stage ≡ s → IsOnAt s new → NeedsNothing answer → GoesOn new (mapped f answer)
part-goes f s new (fed.More want) is on k = on-at s new is on
part-goes f s new (fed.Need kind) is on k = absurd k
part-goes f s new (fed.Done a back) is on k = tt
part-goes f s new (fed.Wrong error) is on k = tt

pub size-goes : (f : Measure → Command) (kind : SizeUse) (new : Scans) (answer : Fed Measure) → new.stage ≡ stage.Sized kind → HoldsOne (dimen_held new.size) answer → GoesOn new (mapped f answer)
size-goes f kind new (fed.More want) is k = rw is tt
size-goes f kind new (fed.Need need) is k = rw is (tt, k)
size-goes f kind new (fed.Done a back) is k = tt
size-goes f kind new (fed.Wrong error) is k = tt

pub rule-goes : (f : Rule → Command) (kind : RuleKind) (new : Scans) (answer : Fed Rule) → new.stage ≡ stage.Rule kind → IsRuleFed new.rule answer → GoesOn new (mapped f answer)
rule-goes f kind new (fed.More want) is k = rw is k
rule-goes f kind new (fed.Need need) is k = rw is k
rule-goes f kind new (fed.Done a back) is k = tt
rule-goes f kind new (fed.Wrong error) is k = tt

pub led-goes : (f : Rule → Command) (kind : LeadersKind) (new : Scans) (answer : Fed Rule) → new.stage ≡ stage.LeadersRule kind → IsRuleFed new.rule answer → GoesOn new (mapped f answer)
led-goes f kind new (fed.More want) is k = rw is k
led-goes f kind new (fed.Need need) is k = rw is k
led-goes f kind new (fed.Done a back) is k = tt
led-goes f kind new (fed.Wrong error) is k = tt

-- the same of values
pub part-behind : {S A : Type 0} (part : Rest S A) (part_held : S → ℕ) (f : A → Command) (s : Stage) (mode : Mode) (head : Head) (was is : S) (old new : Scans) (v : Value) (t : Seen) (answer : Fed A) → old.stage ≡ s → new.stage ≡ s → ((behind : List Item) (item : Item) (more : List Item) → stage_rest mode head s old behind item more ≡ next (part was behind item more) (λ a rest. Done (f a) rest)) → stage_held s old ≡ part_held was → ((behind : List Item) (item : Item) (more : List Item) → stage_rest mode head s new behind item more ≡ next (part is behind item more) (λ a rest. Done (f a) rest)) → stage_held s new ≡ part_held is → IsGivenBehind part part_held was v t is answer → IsGivenBehind (command_rest mode head) held old v t new (mapped f answer)
part-behind part part_held f s mode head was is old new v t answer at_old at_new old_reads old_holds new_reads new_holds k =
    mapped-behind part part_held (command_rest mode head) held f was is old new v t answer
    (λ behind item more. ap (λ s. stage_rest mode head s old behind item more) at_old ∙ old_reads behind item more) (ap (λ s. stage_held s old) at_old ∙ old_holds)
    (λ behind item more. ap (λ s. stage_rest mode head s new behind item more) at_new ∙ new_reads behind item more) (ap (λ s. stage_held s new) at_new ∙ new_holds) k

-- the answers of the scan of assignments, which has made the command
pub assigned-fed : (mode : Mode) (head : Head) (old new : Scans) (made : Command) (t : Seen) (answer : Fed (Unit {0})) → old.stage ≡ stage.Assign → new.stage ≡ stage.Assign → IsAssigned old.assignment t new.assignment answer → IsFedBy (command_rest mode head) held old t new (told new made (mapped (λ _. whole.Assignment) answer))
assigned-fed mode head old new made t answer was is k =
    subst (λ (a : Fed Command). IsFedBy (command_rest mode head) held old t new a) (sym (told-assigned new made answer))
    (part-fed assign_rest assign_held Assign stage.Assign mode head old.assignment new.assignment old new t (told_assigning new.assignment answer) was is
    (λ behind item more. refl) refl (λ behind item more. refl) refl k)

pub assigned-behind : (mode : Mode) (head : Head) (old new : Scans) (made : Command) (v : Value) (t : Seen) (answer : Fed (Unit {0})) → old.stage ≡ stage.Assign → new.stage ≡ stage.Assign → IsAssignedBehind old.assignment v t new.assignment answer → IsGivenBehind (command_rest mode head) held old v t new (told new made (mapped (λ _. whole.Assignment) answer))
assigned-behind mode head old new made v t answer was is k =
    subst (λ (a : Fed Command). IsGivenBehind (command_rest mode head) held old v t new a) (sym (told-assigned new made answer))
    (part-behind assign_rest assign_held Assign stage.Assign mode head old.assignment new.assignment old new v t (told_assigning new.assignment answer) was is
    (λ behind item more. refl) refl (λ behind item more. refl) refl k)

-- how many values an assignment, a size and a rule need
pub assign-needs : {A B : Type 0} (f : A → B) (old new : Scans) (answer : Fed A) → old.stage ≡ stage.Assign → new.stage ≡ stage.Assign → NeedsNoMore (assign_needed old.assignment) (assign_needed new.assignment) answer → NeedsNoMore (more_needed old) (more_needed new) (mapped f answer)
assign-needs f old new answer was is k = rw (was, is) (needs-mapped f (assign_needed old.assignment) (assign_needed new.assignment) answer k)

pub assign-fewer : {A B : Type 0} (f : A → B) (old new : Scans) (answer : Fed A) → old.stage ≡ stage.Assign → new.stage ≡ stage.Assign → NeedsFewer (assign_needed old.assignment) (assign_needed new.assignment) answer → NeedsFewer (more_needed old) (more_needed new) (mapped f answer)
assign-fewer f old new answer was is k = rw (was, is) (fewer-mapped f (assign_needed old.assignment) (assign_needed new.assignment) answer k)

pub size-needs : (f : Measure → Command) (kind : SizeUse) (old new : Scans) (answer : Fed Measure) → old.stage ≡ stage.Sized kind → new.stage ≡ stage.Sized kind → NeedsNoMore (dimen_needed old.size) (dimen_needed new.size) answer → NeedsNoMore (more_needed old) (more_needed new) (mapped f answer)
size-needs f kind old new answer was is k = rw (was, is) (needs-mapped f (dimen_needed old.size) (dimen_needed new.size) answer k)

pub size-fewer : (f : Measure → Command) (kind : SizeUse) (old new : Scans) (answer : Fed Measure) → old.stage ≡ stage.Sized kind → new.stage ≡ stage.Sized kind → NeedsFewer (dimen_needed old.size) (dimen_needed new.size) answer → NeedsFewer (more_needed old) (more_needed new) (mapped f answer)
size-fewer f kind old new answer was is k = rw (was, is) (fewer-mapped f (dimen_needed old.size) (dimen_needed new.size) answer k)

pub rule-needs : (f : Rule → Command) (kind : RuleKind) (old new : Scans) (answer : Fed Rule) → old.stage ≡ stage.Rule kind → new.stage ≡ stage.Rule kind → NeedsNoMore (rule_needed old.rule) (rule_needed new.rule) answer → NeedsNoMore (more_needed old) (more_needed new) (mapped f answer)
rule-needs f kind old new answer was is k = rw (was, is) (needs-mapped f (rule_needed old.rule) (rule_needed new.rule) answer k)

pub rule-fewer : (f : Rule → Command) (kind : RuleKind) (old new : Scans) (answer : Fed Rule) → old.stage ≡ stage.Rule kind → new.stage ≡ stage.Rule kind → NeedsFewer (rule_needed old.rule) (rule_needed new.rule) answer → NeedsFewer (more_needed old) (more_needed new) (mapped f answer)
rule-fewer f kind old new answer was is k = rw (was, is) (fewer-mapped f (rule_needed old.rule) (rule_needed new.rule) answer k)

pub led-needs : (f : Rule → Command) (kind : LeadersKind) (old new : Scans) (answer : Fed Rule) → old.stage ≡ stage.LeadersRule kind → new.stage ≡ stage.LeadersRule kind → NeedsNoMore (rule_needed old.rule) (rule_needed new.rule) answer → NeedsNoMore (more_needed old) (more_needed new) (mapped f answer)
led-needs f kind old new answer was is k = rw (was, is) (needs-mapped f (rule_needed old.rule) (rule_needed new.rule) answer k)

pub led-fewer : (f : Rule → Command) (kind : LeadersKind) (old new : Scans) (answer : Fed Rule) → old.stage ≡ stage.LeadersRule kind → new.stage ≡ stage.LeadersRule kind → NeedsFewer (rule_needed old.rule) (rule_needed new.rule) answer → NeedsFewer (more_needed old) (more_needed new) (mapped f answer)
led-fewer f kind old new answer was is k = rw (was, is) (fewer-mapped f (rule_needed old.rule) (rule_needed new.rule) answer k)

pub assign-goes : {A B : Type 0} (f : A → B) (new : Scans) (answer : Fed A) → new.stage ≡ stage.Assign → WaitsIfAssigning new.assignment answer → GoesOn new (mapped f answer)
assign-goes f new (fed.More want) is k = rw is tt
assign-goes f new (fed.Need kind) is k = rw is (k, k.1)
assign-goes f new (fed.Done a back) is k = tt
assign-goes f new (fed.Wrong error) is k = tt

-- what a box, or what is done with one, takes, and its kin
pub shape-fed : (mode : Mode) (head : Head) (old new : Scans) (t : Seen) (answer : Fed Shaped) → old.stage ≡ stage.Shape → new.stage ≡ stage.Shape → IsFedBy shape_rest shape_held old.shape t new.shape answer → IsFedBy (command_rest mode head) held old t new (mapped command_of answer)
shape-fed mode head old new t answer was is k =
    part-fed shape_rest shape_held command_of stage.Shape mode head old.shape new.shape old new t answer was is
    (λ behind item more. refl) refl (λ behind item more. refl) refl k

pub shape-behind : (mode : Mode) (head : Head) (old new : Scans) (v : Value) (t : Seen) (answer : Fed Shaped) → old.stage ≡ stage.Shape → new.stage ≡ stage.Shape → IsGivenBehind shape_rest shape_held old.shape v t new.shape answer → IsGivenBehind (command_rest mode head) held old v t new (mapped command_of answer)
shape-behind mode head old new v t answer was is k =
    part-behind shape_rest shape_held command_of stage.Shape mode head old.shape new.shape old new v t answer was is
    (λ behind item more. refl) refl (λ behind item more. refl) refl k

pub shape-needs : {B : Type 0} (f : Shaped → B) (old new : Scans) (answer : Fed Shaped) → old.stage ≡ stage.Shape → new.stage ≡ stage.Shape → NeedsNoMore (shape_needed old.shape) (shape_needed new.shape) answer → NeedsNoMore (more_needed old) (more_needed new) (mapped f answer)
shape-needs f old new answer was is k = rw (was, is) (needs-mapped f (shape_needed old.shape) (shape_needed new.shape) answer k)

pub shape-fewer : {B : Type 0} (f : Shaped → B) (old new : Scans) (answer : Fed Shaped) → old.stage ≡ stage.Shape → new.stage ≡ stage.Shape → NeedsFewer (shape_needed old.shape) (shape_needed new.shape) answer → NeedsFewer (more_needed old) (more_needed new) (mapped f answer)
shape-fewer f old new answer was is k = rw (was, is) (fewer-mapped f (shape_needed old.shape) (shape_needed new.shape) answer k)

pub shape-goes : {B : Type 0} (f : Shaped → B) (new : Scans) (answer : Fed Shaped) → new.stage ≡ stage.Shape → WaitsIfNeeded new.shape answer → GoesOn new (mapped f answer)
shape-goes f new (fed.More want) is k = rw is tt
shape-goes f new (fed.Need kind) is k = rw is (k, k.1)
shape-goes f new (fed.Done shaped back) is k = tt
shape-goes f new (fed.Wrong error) is k = tt

pub shape-begun-by : (reading : List Item → Reading Shaped) (new : Scans) (answer : Fed Shaped) → new.stage ≡ stage.Shape → BeginsShape reading new.shape answer → Begins (λ items. next (reading items) (λ s behind. Done (command_of s) behind)) new (mapped command_of answer)
shape-begun-by reading new answer is k = λ mode head. record {
  reads = mapped-read shape_rest shape_held (command_rest mode head) held command_of 0 reading [] new.shape new answer
      (λ behind item more. ap (λ s. stage_rest mode head s new behind item more) is) (ap (λ s. stage_held s new) is) k.reads;
  needs = rw is (needs-mapped command_of 0 (shape_needed new.shape) answer (none-needs 0 (shape_needed new.shape) answer k.fewer));
  goes_on = shape-goes command_of new answer is (none-waits new.shape (shape_needed new.shape) answer k.fewer);
}

pub shape-begun : (what : Shaping) (new : Scans) (answer : Fed Shaped) → new.stage ≡ stage.Shape → BeginsShape (shape what) new.shape answer → Begins (shaping what) new (mapped command_of answer)
shape-begun what new answer is k = shape-begun-by (shape what) new answer is k

-- what \font takes
pub load-needs : (old new : Scans) (answer : Fed FontAsked) → old.stage ≡ stage.Loading → new.stage ≡ stage.Loading → NeedsNoMore (load_needed old.loading) (load_needed new.loading) answer → NeedsNoMore (more_needed old) (more_needed new) (mapped load_of answer)
load-needs old new answer was is k = rw (was, is) (needs-mapped load_of (load_needed old.loading) (load_needed new.loading) answer k)

pub load-fewer : (old new : Scans) (answer : Fed FontAsked) → old.stage ≡ stage.Loading → new.stage ≡ stage.Loading → NeedsFewer (load_needed old.loading) (load_needed new.loading) answer → NeedsFewer (more_needed old) (more_needed new) (mapped load_of answer)
load-fewer old new answer was is k = rw (was, is) (fewer-mapped load_of (load_needed old.loading) (load_needed new.loading) answer k)

pub load-goes : (new : Scans) (answer : Fed FontAsked) → new.stage ≡ stage.Loading → WaitsIfLoading new.loading answer → GoesOn new (mapped load_of answer)
load-goes new (fed.More want) is k = rw is tt
load-goes new (fed.Need kind) is k = rw is (k, k.1)
load-goes new (fed.Done asked back) is k = tt
load-goes new (fed.Wrong error) is k = tt

pub load-begun : (mode : Mode) (head : Head) (name same : Place) (t : Seen) (new : Scans) (answer : Fed FontAsked) → name ≡ same → new.stage ≡ stage.Loading → BeginsLoad (λ more. load name (Took t ∷ more)) t new.loading answer → IsBegunBy mode head 1 (λ more. loading same (Took t ∷ more)) (Took t ∷ []) new (mapped load_of answer)
load-begun mode head name same t new answer e is k = rw (← e) (record {
  reads = mapped-read load_rest load_held (command_rest mode head) held load_of 1 (λ more. load name (Took t ∷ more)) (Took t ∷ []) new.loading new answer
      (λ behind item more. ap (λ s. stage_rest mode head s new behind item more) is) (ap (λ s. stage_held s new) is) k.reads;
  needs = rw is (needs-mapped load_of 1 (load_needed new.loading) answer (needs-least 0 1 (load_needed new.loading) answer (omega arith) k.needs));
  goes_on = load-goes new answer is k.waits;
})

-- parts that held nothing
pub start-fed : {E : Type 0} (mode : Mode) (head : Head) (t : Seen) (old new : Scans) (made : Command) (answer : Result (Fed Whole) E) → old.stage ≡ stage.Start → IfOk answer (λ a. IsBegunBy mode head 1 (λ more. command mode head (Took t ∷ more)) (Took t ∷ []) new (told new made a)) → IfOk answer (λ a. IsFedBy (command_rest mode head) held old t new (told new made a))
start-fed mode head t old new made (Ok answer) was k = fed-first (command_rest mode head) held old t new (told new made answer) (rw was refl) (rw was k.reads)
start-fed mode head t old new made (Err e) was k = tt

pub start-needs : {E : Type 0} (mode : Mode) (head : Head) (t : Seen) (old new : Scans) (made : Command) (answer : Result (Fed Whole) E) → old.stage ≡ stage.Start → IfOk answer (λ a. IsBegunBy mode head 1 (λ more. command mode head (Took t ∷ more)) (Took t ∷ []) new (told new made a)) → IfOk answer (NeedsNoMore (more_needed old) (more_needed new))
start-needs mode head t old new made (Ok answer) was k = rw was (plain-needs new made 1 (more_needed new) answer k.needs)
start-needs mode head t old new made (Err e) was k = tt

pub start-goes : {E : Type 0} (mode : Mode) (head : Head) (t : Seen) (new : Scans) (made : Command) (answer : Result (Fed Whole) E) → IfOk answer (λ a. IsBegunBy mode head 1 (λ more. command mode head (Took t ∷ more)) (Took t ∷ []) new (told new made a)) → IfOk answer (GoesOn new)
start-goes mode head t new made (Ok answer) k = plain-goes new new made answer k.goes_on
start-goes mode head t new made (Err e) k = tt

pub space-fed : (mode : Mode) (head : Head) (t : Seen) (old new : Scans) (answer : Fed Command) → old.stage ≡ stage.Spaces → IsBegunBy mode head 1 (λ more. skipping (Took t ∷ more)) (Took t ∷ []) new answer → IsFedBy (command_rest mode head) held old t new answer
space-fed mode head t old new answer was k = fed-first (command_rest mode head) held old t new answer (rw was refl) (rw was k.reads)

-- what reads on alike is begun alike
alike : (mode : Mode) (head : Head) (count : ℕ) (reading other : List Item → Reading Command) (tokens : List Item) (new : Scans) (answer : Fed Command) → ((more : List Item) → reading more ≡ other more) → IsBegunBy mode head count other tokens new answer → IsBegunBy mode head count reading tokens new answer
alike mode head count reading other tokens new answer same k =
    record { reads = same-read (command_rest mode head) held count reading other tokens new answer same k.reads; needs = k.needs; goes_on = k.goes_on }

one-token : (mode : Mode) (head : Head) (reading : List Item → Reading Command) (t : Seen) (new : Scans) (answer : Fed Command) → IsBegunBy mode head 0 reading [] new answer → IsBegunBy mode head 1 reading (Took t ∷ []) new answer
one-token mode head reading t new answer k = record {
  reads = read-none (command_rest mode head) held 1 reading (Took t ∷ []) new answer k.reads;
  needs = needs-least 0 1 (more_needed new) answer (omega arith) k.needs;
  goes_on = k.goes_on;
}

-- leaders, behind which a rule is to come
pub leaders-fed : (mode : Mode) (head : Head) (kind : LeadersKind) (t : Seen) (old new : Scans) (answer : Fed Command) → old.stage ≡ stage.Leaders kind → Begins (λ more. leaders_of kind (Took t ∷ more)) new answer → IsFedBy (command_rest mode head) held old t new answer
leaders-fed mode head kind t old new answer was k =
    fed-first (command_rest mode head) held old t new answer (rw was refl) (rw was (one-token mode head (λ more. leaders_of kind (Took t ∷ more)) t new answer (k mode head)).reads)

pub leaders-needs : (mode : Mode) (head : Head) (kind : LeadersKind) (t : Seen) (old new : Scans) (answer : Fed Command) → old.stage ≡ stage.Leaders kind → Begins (λ more. leaders_of kind (Took t ∷ more)) new answer → NeedsNoMore (more_needed old) (more_needed new) answer
leaders-needs mode head kind t old new answer was k = rw was (k mode head).needs

-- the parts that a first token begins
pub name-begun : (kind : Shorthand) (new : Scans) (want : Want) → defining kind [] ≡ More want → new.stage ≡ stage.Name kind → Begins (defining kind) new (fed.More want)
name-begun kind new want wants is = λ mode head. record { reads = (wants, rw is (omega arith), λ item more. rw is refl); needs = rw is (omega arith); goes_on = rw is tt }

pub macro-begun : (kind : DefinitionKind) (new : Scans) → new.stage ≡ stage.MacroName kind → Begins (macro_defining kind) new (fed.More Raw)
macro-begun kind new is = λ mode head. record { reads = (refl, rw is (omega arith), λ item more. rw is refl); needs = rw is (omega arith); goes_on = rw is tt }

pub future-begun : (new : Scans) → new.stage ≡ stage.FutureName → Begins future_defining new (fed.More Raw)
future-begun new is = λ mode head. record { reads = (refl, rw is (omega arith), λ item more. rw is refl); needs = rw is (omega arith); goes_on = rw is tt }

pub font-begun : (new : Scans) → new.stage ≡ stage.FontName → Begins font_defining new (fed.More Raw)
font-begun new is = λ mode head. record { reads = (refl, rw is (omega arith), λ item more. rw is refl); needs = rw is (omega arith); goes_on = rw is tt }

pub kept-begun : (kind : AfterKind) (new : Scans) → new.stage ≡ stage.KeptToken kind → Begins (keeping kind) new (fed.More Raw)
kept-begun kind new is = λ mode head. record { reads = (refl, rw is (omega arith), λ item more. rw is refl); needs = rw is (omega arith); goes_on = rw is tt }

pub size-begun : (kind : SizeUse) (new : Scans) → new.stage ≡ stage.Sized kind → new.size ≡ begun_size (units_of kind) → Begins (sizing kind) new (fed.More Expanded)
size-begun kind new is same = λ mode head. record { reads = (refl, rw (is, same) (omega arith), λ item more. rw (is, same) refl); needs = rw (is, same) (omega arith); goes_on = rw is tt }

pub rule-begun : (kind : RuleKind) (new : Scans) → new.stage ≡ stage.Rule kind → new.rule.rule ≡ plain_rule kind → new.rule.part ≡ rule.Start → Begins (ruling kind) new (fed.More Expanded)
rule-begun kind new is same part = λ mode head. record { reads = (refl, rw (is, part) (omega arith), λ item more. rw (is, part, same) refl); needs = rw (is, part) (omega arith); goes_on = rw (is, part) tt }

pub spaces-begun : (new : Scans) → new.stage ≡ stage.Spaces → Begins skipping new (fed.More Expanded)
spaces-begun new is = λ mode head. record { reads = (refl, rw is (omega arith), λ item more. rw is refl); needs = rw is (omega arith); goes_on = rw is tt }

pub assign-begun : (begun : Assigning) (want : Want) (new : Scans) → assignment begun [] ≡ More want → new.stage ≡ stage.Assign → IsBegun begun new.assignment → assign_needed new.assignment ≤ 1 → Begins (assigning begun) new (fed.More want)
assign-begun begun want new wants is k few = λ mode head. record {
  reads = (
    ap (λ r. next r (λ a behind. Done (Assign a) behind)) wants,
    rw is (omega (arith, k.0)),
    λ item more. rw is (ap (λ r. next r (λ a behind. Done (Assign a) behind)) (sym (k.1 _ item more))),
  );
  needs = rw is few;
  goes_on = rw is tt;
}

pub leaders-begun : (kind : LeadersKind) (new : Scans) → new.stage ≡ stage.Leaders kind → Begins (leaders_of kind) new (fed.More Expanded)
leaders-begun kind new is = λ mode head. record { reads = (refl, rw is (omega arith), λ item more. rw is refl); needs = rw is (omega arith); goes_on = rw is tt }

led-begun : (kind : LeadersKind) (direction : RuleKind) (new : Scans) → new.stage ≡ stage.LeadersRule kind → new.rule.rule ≡ plain_rule direction → new.rule.part ≡ rule.Start → Begins (leaders_rule kind direction) new (fed.More Expanded)
led-begun kind direction new is same part = λ mode head. record { reads = (refl, rw (is, part) (omega arith), λ item more. rw (is, part, same) refl); needs = rw (is, part) (omega arith); goes_on = rw (is, part) tt }

-- what is skipped before the rule that leaders repeat, and its first token
pub leaders-skip : (kind : LeadersKind) (t : Seen) (new : Scans) → is_undefined t ≡ false → (is_space t || is_relax t) ≡ true → new.stage ≡ stage.Leaders kind → Begins (λ more. leaders_of kind (Took t ∷ more)) new (fed.More Expanded)
leaders-skip kind t new u s is = λ mode head.
    alike mode head 0 (λ more. leaders_of kind (Took t ∷ more)) (leaders_of kind) [] new (fed.More Expanded) (λ more. rw (u, s) refl) (leaders-begun kind new is mode head)

pub leaders-ruled : (kind : LeadersKind) (direction : RuleKind) (t : Seen) (new : Scans) → is_undefined t ≡ false → (is_space t || is_relax t) ≡ false → led_rule t.meaning ≡ Some direction → new.stage ≡ stage.LeadersRule kind → new.rule.rule ≡ plain_rule direction → new.rule.part ≡ rule.Start → Begins (λ more. leaders_of kind (Took t ∷ more)) new (fed.More Expanded)
leaders-ruled kind direction t new u s means is same part = λ mode head.
    alike mode head 0 (λ more. leaders_of kind (Took t ∷ more)) (leaders_rule kind direction) [] new (fed.More Expanded) (λ more. rw (u, s) (ap (λ found. repeated kind found t more) means)) (led-begun kind direction new is same part mode head)

-- the box that they repeat
pub leaders-boxed : (kind : LeadersKind) (t : Seen) (new : Scans) (answer : Fed Command) → is_undefined t ≡ false → (is_space t || is_relax t) ≡ false → led_rule t.meaning ≡ None → Begins (λ more. led_box kind (Took t ∷ more)) new answer → Begins (λ more. leaders_of kind (Took t ∷ more)) new answer
leaders-boxed kind t new answer u s found k = λ mode head.
    alike mode head 0 (λ more. leaders_of kind (Took t ∷ more)) (λ more. led_box kind (Took t ∷ more)) [] new answer
    (λ more.
    ap (λ b. cond b (Wrong Undefined) (cond (is_space t || is_relax t) (leaders_of kind more) (repeated kind (led_rule t.meaning) t more))) u
    ∙ (ap (λ b. cond b (leaders_of kind more) (repeated kind (led_rule t.meaning) t more)) s ∙ ap (λ f. repeated kind f t more) found)) (k mode head)

-- glue behind leaders
pub leading-glued : (mode : Mode) (form : GlueForm) (t : Seen) (new : Scans) (answer : Fed Command) → is_undefined t ≡ false → (is_space t || is_relax t) ≡ false → leading_glue mode t.meaning ≡ Some form → Begins (shaping (shape_glue.Glue form)) new answer → Begins (λ more. leading_command mode (Took t ∷ more)) new answer
leading-glued mode form t new answer u s found k = λ m head.
    alike m head 0 (λ more. leading_command mode (Took t ∷ more)) (λ more. shaping (shape_glue.Glue form) more) [] new answer
    (λ more. rw (u, s) (ap (λ f. led_by f more) found)) (k m head)

-- a part of an atom
pub part-stands : (t : Seen) (new : Scans) (answer : Fed Command) → is_undefined t ≡ false → (is_space t || is_relax t) ≡ false → is_part t.meaning ≡ true → Begins (command_meant t.meaning) new answer → Begins (λ more. part_command (Took t ∷ more)) new answer
part-stands t new answer u s p k = λ mode head.
    alike mode head 0 (λ more. part_command (Took t ∷ more)) (λ more. command_meant t.meaning more) [] new answer
    (λ more. rw (u, s, p) refl) (k mode head)

-- a delimiter
pub delimiter-stands : (t : Seen) (new : Scans) (answer : Fed Command) → is_undefined t ≡ false → (is_space t || is_relax t) ≡ false → is_delimiter t.meaning ≡ true → Begins (command_meant t.meaning) new answer → Begins (λ more. delimiter_command (Took t ∷ more)) new answer
delimiter-stands t new answer u s d k = λ mode head.
    alike mode head 0 (λ more. delimiter_command (Took t ∷ more)) (λ more. command_meant t.meaning more) [] new answer
    (λ more. rw (u, s, d) refl) (k mode head)

-- what stands behind an accent
pub accent-stands : (mode : Mode) (t : Seen) (new : Scans) (answer : Fed Command) → is_undefined t ≡ false → (is_space t || is_relax t) ≡ false → continues_word t ≡ true → Begins (command_meant t.meaning) new answer → (around : Mode) (head : Head) → IsBegunBy around head 1 (λ more. accent_bare mode (Took t ∷ more)) (Took t ∷ []) new answer
accent-stands mode t new answer u s c k = λ around head.
    one-token around head (λ more. accent_bare mode (Took t ∷ more)) t new answer
    (alike around head 0 (λ more. accent_bare mode (Took t ∷ more)) (λ more. command_meant t.meaning more) [] new answer
    (λ more. rw (u, s) (ap (λ b. cond b (command_meant t.meaning more) (accent_assigning mode (Took t ∷ more))) c)) (k around head))

pub accent-assigns : (mode : Mode) (t : Seen) (new : Scans) (answer : Fed Command) → is_undefined t ≡ false → (is_space t || is_relax t) ≡ false → continues_word t ≡ false → ((around : Mode) (head : Head) → IsBegunBy around head 1 (λ more. accent_assigning mode (Took t ∷ more)) (Took t ∷ []) new answer) → (around : Mode) (head : Head) → IsBegunBy around head 1 (λ more. accent_bare mode (Took t ∷ more)) (Took t ∷ []) new answer
accent-assigns mode t new answer u s c k = λ around head.
    alike around head 1 (λ more. accent_bare mode (Took t ∷ more)) (λ more. accent_assigning mode (Took t ∷ more)) (Took t ∷ []) new answer
    (λ more. rw (u, s) (ap (λ b. cond b (command_meant t.meaning more) (accent_assigning mode (Took t ∷ more))) c)) (k around head)

pub accent-set : (mode : Mode) (t : Seen) (new : Scans) (answer : Fed Command) → is_setbox t.meaning ≡ false → is_assignment t.meaning ≡ true → ((around : Mode) (head : Head) → IsBegunBy around head 1 (λ more. fresh_command mode (Took t ∷ more)) (Took t ∷ []) new answer) → (around : Mode) (head : Head) → IsBegunBy around head 1 (λ more. accent_assigning mode (Took t ∷ more)) (Took t ∷ []) new answer
accent-set mode t new answer e h k = λ around head.
    alike around head 1 (λ more. accent_assigning mode (Took t ∷ more)) (λ more. fresh_command mode (Took t ∷ more)) (Took t ∷ []) new answer
    (λ more.
    ap (λ b. cond b (Wrong NotAllowed) (cond (is_assignment t.meaning) (fresh_command mode (Took t ∷ more)) (Done EndAccent (Took t ∷ more)))) e
    ∙ ap (λ b. cond b (fresh_command mode (Took t ∷ more)) (Done EndAccent (Took t ∷ more))) h) (k around head)

-- and behind prefixes there
pub accent-behind : (prefixes : Prefixes) (t : Seen) (new : Scans) (answer : Fed Command) → is_setbox t.meaning ≡ false → Begins (λ more. prefixed_command prefixes (Took t ∷ more)) new answer → Begins (λ more. accent_prefixed prefixes (Took t ∷ more)) new answer
accent-behind prefixes t new answer e k = λ mode head.
    alike mode head 0 (λ more. accent_prefixed prefixes (Took t ∷ more)) (λ more. prefixed_command prefixes (Took t ∷ more)) [] new answer
    (λ more. ap (λ b. cond b (Wrong NotAllowed) (prefixed_command prefixes (Took t ∷ more))) e) (k mode head)

pub accent-with : (mode : Mode) (prefixes : Prefixes) (t : Seen) (new : Scans) (answer : Fed Command) → is_prefixed prefixes ≡ true → Begins (λ more. accent_prefixed prefixes (Took t ∷ more)) new answer → (around : Mode) (head : Head) → IsBegunBy around head 1 (λ more. accent_command mode prefixes (Took t ∷ more)) (Took t ∷ []) new answer
accent-with mode prefixes t new answer e k = λ around head.
    one-token around head (λ more. accent_command mode prefixes (Took t ∷ more)) t new answer
    (alike around head 0 (λ more. accent_command mode prefixes (Took t ∷ more)) (λ more. accent_prefixed prefixes (Took t ∷ more)) [] new answer
    (λ more. ap (λ b. cond b (accent_prefixed prefixes (Took t ∷ more)) (accent_bare mode (Took t ∷ more))) e) (k around head))

pub accent-without : (mode : Mode) (prefixes : Prefixes) (t : Seen) (new : Scans) (answer : Fed Command) → is_prefixed prefixes ≡ false → ((around : Mode) (head : Head) → IsBegunBy around head 1 (λ more. accent_bare mode (Took t ∷ more)) (Took t ∷ []) new answer) → (around : Mode) (head : Head) → IsBegunBy around head 1 (λ more. accent_command mode prefixes (Took t ∷ more)) (Took t ∷ []) new answer
accent-without mode prefixes t new answer e k = λ around head.
    alike around head 1 (λ more. accent_command mode prefixes (Took t ∷ more)) (λ more. accent_bare mode (Took t ∷ more)) (Took t ∷ []) new answer
    (λ more. ap (λ b. cond b (accent_prefixed prefixes (Took t ∷ more)) (accent_bare mode (Took t ∷ more))) e) (k around head)

-- the first token behind a name that is defined
pub first-assigned : (mode : Mode) (head : Head) (begun : Assigning) (old : AssignScan) (new : Scans) (made : Command) (t : Seen) (answer : Fed (Unit {0})) → new.stage ≡ stage.Assign → IsBegun begun old → assign_needed old ≤ 1 → IsAssigned old t new.assignment answer → NeedsNoMore (assign_needed old) (assign_needed new.assignment) answer → WaitsIfAssigning new.assignment answer → IsBegunBy mode head 1 (λ more. assigning begun (Took t ∷ more)) (Took t ∷ []) new (told new made (mapped (λ _. whole.Assignment) answer))
first-assigned mode head begun old new made t answer is k few fits needs waits =
    let h : length {A = Item} [] ≤ assign_held old = omega arith in
    record {
      reads = subst (λ (a : Fed Command). IsRead (command_rest mode head) held 1 (λ more. assigning begun (Took t ∷ more)) (Took t ∷ []) new a) (sym (told-assigned new made answer))
          (same-read (command_rest mode head) held 1 (λ more. assigning begun (Took t ∷ more)) (λ more. next (assign_rest old [] (Took t) more) (λ a rest. Done (Assign a) rest)) (Took t ∷ []) new (mapped Assign (told_assigning new.assignment answer))
          (λ more. ap (λ r. next r (λ a rest. Done (Assign a) rest)) (sym (k.1 [] (Took t) more)))
          (mapped-read assign_rest assign_held (command_rest mode head) held Assign 1 (λ more. assign_rest old [] (Took t) more) (Took t ∷ []) new.assignment new (told_assigning new.assignment answer)
          (λ behind item more. ap (λ s. stage_rest mode head s new behind item more) is) (ap (λ s. stage_held s new) is) (rw k.0 at (fits [] h))));
      needs = rw is (told-needs new made 1 (assign_needed new.assignment) (mapped (λ _. whole.Assignment) answer)
          (needs-mapped (λ _. whole.Assignment) 1 (assign_needed new.assignment) answer (needs-least (assign_needed old) 1 (assign_needed new.assignment) answer few needs)));
      goes_on = goes-mapped (whole_command new made) new (mapped (λ _. whole.Assignment) answer) (assign-goes (λ _. whole.Assignment) new answer is waits);
    }

pub named-begun : (name same : Place) (kind : Shorthand) (scan : AssignScan) → name ≡ same → IsBegun (Named name kind) scan → IsBegun (Named same kind) scan
named-begun name same kind scan e k = subst (λ n. IsBegun (Named n kind) scan) e k

-- the first token of a command
pub fresh-stands : (mode : Mode) (t : Seen) (new : Scans) (answer : Fed Command) → standing_in mode t.meaning ≡ Stands → Begins (command_meant t.meaning) new answer → (around : Mode) (head : Head) → IsBegunBy around head 1 (λ more. fresh_command mode (Took t ∷ more)) (Took t ∷ []) new answer
fresh-stands mode t new answer h k = λ around head.
    one-token around head (λ more. fresh_command mode (Took t ∷ more)) t new answer
    (alike around head 0 (λ more. fresh_command mode (Took t ∷ more)) (λ more. command_meant t.meaning more) [] new answer
    (λ more. ap (λ s. standing_command s t more) h) (k around head))

pub prefixed-stands : (prefixes : Prefixes) (t : Seen) (new : Scans) (answer : Fed Command) → (is_space t || is_relax t) ≡ false → may_be_prefixed prefixes t.meaning ≡ true → Begins (command_meant t.meaning) new answer → Begins (λ more. prefixed_command prefixes (Took t ∷ more)) new answer
prefixed-stands prefixes t new answer s h k = λ mode head.
    alike mode head 0 (λ more. prefixed_command prefixes (Took t ∷ more)) (λ more. command_meant t.meaning more) [] new answer
    (λ more.
    ap (λ b. cond b (Done Nothing more) (cond (may_be_prefixed prefixes t.meaning) (command_meant t.meaning more) (Wrong NoAssignment))) s
    ∙ ap (λ b. cond b (command_meant t.meaning more) (Wrong NoAssignment)) h) (k mode head)

pub first-fresh : (mode : Mode) (head : Head) (t : Seen) (new : Scans) (answer : Fed Command) → head ≡ Fresh → ((around : Mode) (before : Head) → IsBegunBy around before 1 (λ more. fresh_command mode (Took t ∷ more)) (Took t ∷ []) new answer) → IsBegunBy mode head 1 (λ more. command mode head (Took t ∷ more)) (Took t ∷ []) new answer
first-fresh mode head t new answer e k = rw e (k mode Fresh)

-- what gives a variable a value
some-alike : (v w : Variable) → Some v ≡ Some w → v ≡ w
some-alike v w e = ap (λ (o : Option Variable). unwrap_or o v) e

primitive-meant : (p : Primitive) (v : Variable) (more : List Item) → primitive_variable p ≡ Some v → family_command p more ≡ assigning (assign_begun.Variable v) more
primitive-meant (primitive.Numbered kind) v more e = ap (λ (w : Variable). assigning (assign_begun.Variable w) more) (some-alike (Numbered kind) v e)
primitive-meant (primitive.Integer parameter) v more e = ap (λ (w : Variable). assigning (assign_begun.Variable w) more) (some-alike (Standing (place.Integer parameter)) v e)
primitive-meant (primitive.Dimension parameter) v more e = ap (λ (w : Variable). assigning (assign_begun.Variable w) more) (some-alike (Standing (place.Dimension parameter)) v e)
primitive-meant (primitive.Glue parameter) v more e = ap (λ (w : Variable). assigning (assign_begun.Variable w) more) (some-alike (Standing (place.Glue parameter)) v e)
primitive-meant (primitive.Tokens parameter) v more e = ap (λ (w : Variable). assigning (assign_begun.Variable w) more) (some-alike (Standing (place.Tokens parameter)) v e)
primitive-meant _ v more e = absurd (cc)

variable-meant : (m : Meaning) (v : Variable) (more : List Item) → variable_of m ≡ Some v → command_meant m more ≡ assigning (assign_begun.Variable v) more
variable-meant (meant.Command p) v more e = primitive-meant p v more e
variable-meant (meant.CountRegister number) v more e = ap (λ (w : Variable). assigning (assign_begun.Variable w) more) (some-alike (Standing (place.Count number)) v e)
variable-meant (meant.DimenRegister number) v more e = ap (λ (w : Variable). assigning (assign_begun.Variable w) more) (some-alike (Standing (place.Dimen number)) v e)
variable-meant (meant.SkipRegister number) v more e = ap (λ (w : Variable). assigning (assign_begun.Variable w) more) (some-alike (Standing (place.Skip number)) v e)
variable-meant (meant.MuskipRegister number) v more e = ap (λ (w : Variable). assigning (assign_begun.Variable w) more) (some-alike (Standing (place.Muskip number)) v e)
variable-meant (meant.ToksRegister number) v more e = ap (λ (w : Variable). assigning (assign_begun.Variable w) more) (some-alike (Standing (place.Toks number)) v e)
variable-meant _ v more e = absurd (cc)

pub variable-in : (mode : Mode) (m : Meaning) (found : Option Variable) → standing_in mode m ≡ Stands → found ≡ variable_of m → IfSome found (λ v. BeginsVariable mode m v)
variable-in mode m (Some v) s e = record { stands = s; is = sym e }
variable-in mode m None s e = tt

pub variable-begun : (v : Variable) (new : Scans) → new.stage ≡ stage.Assign → IsBegun (assign_begun.Variable v) new.assignment → assign_needed new.assignment ≤ 1 → Begins (assigning (assign_begun.Variable v)) new (fed.More Expanded)
variable-begun (Numbered kind) new is k few = assign-begun (assign_begun.Variable (Numbered kind)) Expanded new refl is k few
variable-begun (Standing p) new is k few = assign-begun (assign_begun.Variable (Standing p)) Expanded new refl is k few

pub first-variable : (mode : Mode) (head : Head) (t : Seen) (v : Variable) (new : Scans) (want : Want) → head ≡ Fresh → BeginsVariable mode t.meaning v → Begins (assigning (assign_begun.Variable v)) new (fed.More want) → IsBegunBy mode head 1 (λ more. command mode head (Took t ∷ more)) (Took t ∷ []) new (fed.More want)
first-variable mode head t v new want e found k =
    first-fresh mode head t new (fed.More want) e
    (fresh-stands mode t new (fed.More want) found.stands (λ m h.
    alike m h 0 (λ more. command_meant t.meaning more) (assigning (assign_begun.Variable v)) [] new (fed.More want) (λ more. variable-meant t.meaning v more found.is) (k m h)))

pub first-prefixed : (mode : Mode) (head : Head) (prefixes : Prefixes) (t : Seen) (new : Scans) (answer : Fed Command) → head ≡ Prefixed prefixes → Begins (λ more. prefixed_command prefixes (Took t ∷ more)) new answer → IsBegunBy mode head 1 (λ more. command mode head (Took t ∷ more)) (Took t ∷ []) new answer
first-prefixed mode head prefixes t new answer e k = rw e (one-token mode (Prefixed prefixes) (λ more. prefixed_command prefixes (Took t ∷ more)) t new answer (k mode (Prefixed prefixes)))

pub first-leading : (mode : Mode) (head : Head) (kind : LeadersKind) (sides : Rule) (t : Seen) (new : Scans) (answer : Fed Command) → head ≡ Leading kind sides → Begins (λ more. leading_command mode (Took t ∷ more)) new answer → IsBegunBy mode head 1 (λ more. command mode head (Took t ∷ more)) (Took t ∷ []) new answer
first-leading mode head kind sides t new answer e k = rw e (one-token mode (Leading kind sides) (λ more. leading_command mode (Took t ∷ more)) t new answer (k mode (Leading kind sides)))

pub first-leading-box : (mode : Mode) (head : Head) (kind : LeadersKind) (b : PackedBox) (t : Seen) (new : Scans) (answer : Fed Command) → head ≡ LeadingBox kind b → Begins (λ more. leading_command mode (Took t ∷ more)) new answer → IsBegunBy mode head 1 (λ more. command mode head (Took t ∷ more)) (Took t ∷ []) new answer
first-leading-box mode head kind b t new answer e k = rw e (one-token mode (LeadingBox kind b) (λ more. leading_command mode (Took t ∷ more)) t new answer (k mode (LeadingBox kind b)))

pub first-shift : (mode : Mode) (head : Head) (t : Seen) (new : Scans) (answer : Fed Command) → head ≡ Shift → ((around : Mode) (h : Head) → IsBegunBy around h 1 (λ more. shift_command mode (Took t ∷ more)) (Took t ∷ []) new answer) → IsBegunBy mode head 1 (λ more. command mode head (Took t ∷ more)) (Took t ∷ []) new answer
first-shift mode head t new answer e k = rw e (k mode Shift)

-- the tokens behind the end of a displayed formula
pub first-second-shift : (mode : Mode) (head : Head) (t : Seen) (new : Scans) (answer : Fed Command) → head ≡ SecondShift → ((around : Mode) (h : Head) → IsBegunBy around h 1 (λ more. second_shift_command (Took t ∷ more)) (Took t ∷ []) new answer) → IsBegunBy mode head 1 (λ more. command mode head (Took t ∷ more)) (Took t ∷ []) new answer
first-second-shift mode head t new answer e k = rw e (k mode SecondShift)

pub first-displayed : (mode : Mode) (head : Head) (t : Seen) (new : Scans) (answer : Fed Command) → head ≡ Displayed → ((around : Mode) (h : Head) → IsBegunBy around h 1 (λ more. displayed_command (Took t ∷ more)) (Took t ∷ []) new answer) → IsBegunBy mode head 1 (λ more. command mode head (Took t ∷ more)) (Took t ∷ []) new answer
first-displayed mode head t new answer e k = rw e (k mode Displayed)

pub first-part : (mode : Mode) (head : Head) (part : AtomPart) (t : Seen) (new : Scans) (answer : Fed Command) → head ≡ Part part → Begins (λ more. part_command (Took t ∷ more)) new answer → IsBegunBy mode head 1 (λ more. command mode head (Took t ∷ more)) (Took t ∷ []) new answer
first-part mode head part t new answer e k = rw e (one-token mode (Part part) (λ more. part_command (Took t ∷ more)) t new answer (k mode (Part part)))

pub first-delimiting : (mode : Mode) (head : Head) (what : Delimiting) (t : Seen) (new : Scans) (answer : Fed Command) → head ≡ Delimiting_head what → Begins (λ more. delimiter_command (Took t ∷ more)) new answer → IsBegunBy mode head 1 (λ more. command mode head (Took t ∷ more)) (Took t ∷ []) new answer
first-delimiting mode head what t new answer e k = rw e (one-token mode (Delimiting_head what) (λ more. delimiter_command (Took t ∷ more)) t new answer (k mode (Delimiting_head what)))

pub first-accenting : (mode : Mode) (head : Head) (prefixes : Prefixes) (t : Seen) (new : Scans) (answer : Fed Command) → head ≡ Accenting prefixes → ((around : Mode) (h : Head) → IsBegunBy around h 1 (λ more. accent_command mode prefixes (Took t ∷ more)) (Took t ∷ []) new answer) → IsBegunBy mode head 1 (λ more. command mode head (Took t ∷ more)) (Took t ∷ []) new answer
first-accenting mode head prefixes t new answer e k = rw e (k mode (Accenting prefixes))

pub first-defining : {E : Type 0} (mode : Mode) (head : Head) (prefixes : Prefixes) (name : Place) (kind : Shorthand) (t : Seen) (new : Scans) (made : Command) (answer : Result (Fed Whole) E) → head ≡ Defining prefixes name kind → ((m : Mode) (h : Head) (c : Command) → IfOk answer (λ a. IsBegunBy m h 1 (λ more. assigning (Named name kind) (Took t ∷ more)) (Took t ∷ []) new (told new c a))) → IfOk answer (λ a. IsBegunBy mode head 1 (λ more. command mode head (Took t ∷ more)) (Took t ∷ []) new (told new made a))
first-defining mode head prefixes name kind t new made (Ok answer) e k = rw e (k mode (Defining prefixes name kind) made)
first-defining mode head prefixes name kind t new made (Err error) e k = tt

pub first-loading : {E : Type 0} (mode : Mode) (head : Head) (prefixes : Prefixes) (name : Place) (t : Seen) (new : Scans) (answer : Result (Fed Command) E) → head ≡ Loading prefixes name → ((m : Mode) (h : Head) → IfOk answer (IsBegunBy m h 1 (λ more. loading name (Took t ∷ more)) (Took t ∷ []) new)) → IfOk answer (IsBegunBy mode head 1 (λ more. command mode head (Took t ∷ more)) (Took t ∷ []) new)
first-loading mode head prefixes name t new (Ok answer) e k = rw e (k mode (Loading prefixes name))
first-loading mode head prefixes name t new (Err error) e k = tt

-- the first token of a size of \parshape
pub first-sized : (mode : Mode) (head : Head) (kind : SizeUse) (old : DimenScan) (new : Scans) (t : Seen) (answer : Fed Measure) → new.stage ≡ stage.Sized kind → old ≡ begun_size (units_of kind) → IsFedBy dimen_rest dimen_held old t new.size answer → NeedsNoMore (dimen_needed old) (dimen_needed new.size) answer → HoldsOne (dimen_held new.size) answer → IsBegunBy mode head 1 (λ more. sizing kind (Took t ∷ more)) (Took t ∷ []) new (mapped (λ measure. Sized kind measure.size) answer)
first-sized mode head kind old new t answer is same fits needs holds =
    let none : dimen_held old ≡ 0 = rw same refl in
    let h : length {A = Item} [] ≤ dimen_held old = omega arith in
    record {
      reads = same-read (command_rest mode head) held 1 (λ more. sizing kind (Took t ∷ more)) (λ more. next (dimen_rest old [] (Took t) more) (λ measure rest. Done (Sized kind measure.size) rest)) (Took t ∷ []) new (mapped (λ measure. Sized kind measure.size) answer)
          (λ more. rw same refl)
          (mapped-read dimen_rest dimen_held (command_rest mode head) held (λ measure. Sized kind measure.size) 1 (λ more. dimen_rest old [] (Took t) more) (Took t ∷ []) new.size new answer
          (λ behind item more. ap (λ s. stage_rest mode head s new behind item more) is) (ap (λ s. stage_held s new) is) (rw none at (fits [] h)));
      needs = rw is (needs-mapped (λ measure. Sized kind measure.size) 1 (dimen_needed new.size) answer (needs-least (dimen_needed old) 1 (dimen_needed new.size) answer (rw same (omega arith)) needs));
      goes_on = size-goes (λ measure. Sized kind measure.size) kind new answer is holds;
    }

pub first-thickness : {E : Type 0} (mode : Mode) (head : Head) (left right : ℕ) (t : Seen) (new : Scans) (answer : Result (Fed Command) E) → head ≡ Thickness left right → ((m : Mode) (h : Head) → IfOk answer (IsBegunBy m h 1 (λ more. sizing (size.Item Above) (Took t ∷ more)) (Took t ∷ []) new)) → IfOk answer (IsBegunBy mode head 1 (λ more. command mode head (Took t ∷ more)) (Took t ∷ []) new)
first-thickness mode head left right t new (Ok answer) e k = rw e (k mode (Thickness left right))
first-thickness mode head left right t new (Err error) e k = tt

pub first-shaping : {E : Type 0} (mode : Mode) (head : Head) (prefixes : Prefixes) (left : ℕ) (sizes : List ℤ) (t : Seen) (new : Scans) (answer : Result (Fed Command) E) → head ≡ Shaping_head prefixes left sizes → ((m : Mode) (h : Head) → IfOk answer (IsBegunBy m h 1 (λ more. sizing size.Shape (Took t ∷ more)) (Took t ∷ []) new)) → IfOk answer (IsBegunBy mode head 1 (λ more. command mode head (Took t ∷ more)) (Took t ∷ []) new)
first-shaping mode head prefixes left sizes t new (Ok answer) e k = rw e (k mode (Shaping_head prefixes left sizes))
first-shaping mode head prefixes left sizes t new (Err error) e k = tt

-- the begin-group token before a text of \discretionary
pub first-opening : (mode : Mode) (head : Head) (opener : Opener) (t : Seen) (new : Scans) (answer : Fed Command) → head ≡ Opening opener → Begins (λ more. shaping (shape_glue.Open opener) (Took t ∷ more)) new answer → IsBegunBy mode head 1 (λ more. command mode head (Took t ∷ more)) (Took t ∷ []) new answer
first-opening mode head opener t new answer e k = rw e (one-token mode (Opening opener) (λ more. shaping (shape_glue.Open opener) (Took t ∷ more)) t new answer (k mode (Opening opener)))

-- what the preamble of an alignment is set to
pub first-aligning : (mode : Mode) (head : Head) (level : ℤ) (t : Seen) (new : Scans) (answer : Fed Command) → head ≡ Aligning level → Begins (λ more. shaping shape_glue.Align (Took t ∷ more)) new answer → IsBegunBy mode head 1 (λ more. command mode head (Took t ∷ more)) (Took t ∷ []) new answer
first-aligning mode head level t new answer e k = rw e (one-token mode (Aligning level) (λ more. shaping shape_glue.Align (Took t ∷ more)) t new answer (k mode (Aligning level)))

-- the first token of a preamble
pub first-preamble : {E : Type 0} (mode : Mode) (head : Head) (t : Seen) (new : Scans) (answer : Result (Fed Command) E) → head ≡ Preamble → ((m : Mode) (h : Head) → IfOk answer (IsBegunBy m h 1 (λ more. preamble_command (Took t ∷ more)) (Took t ∷ []) new)) → IfOk answer (IsBegunBy mode head 1 (λ more. command mode head (Took t ∷ more)) (Took t ∷ []) new)
first-preamble mode head t new (Ok answer) e k = rw e (k mode Preamble)
first-preamble mode head t new (Err error) e k = tt

-- \tabskip in it is assigned
pub preamble-tabskip : (p : PreamblePart) (t : Seen) (new : Scans) (answer : Fed Command) → p ≡ preamble_part t.meaning → p ≡ part.Tabskip → Begins (assigning (assign_begun.Variable (Standing (place.Glue Tabskip)))) new answer → (mode : Mode) (head : Head) → IsBegunBy mode head 1 (λ more. preamble_command (Took t ∷ more)) (Took t ∷ []) new answer
preamble-tabskip p t new answer found is k = λ mode head.
    one-token mode head (λ more. preamble_command (Took t ∷ more)) t new answer
    (alike mode head 0 (λ more. preamble_command (Took t ∷ more)) (λ more. assigning (assign_begun.Variable (Standing (place.Glue Tabskip))) more) [] new answer
    (λ more. ap (λ (q : PreamblePart). preamble_by q t more) (sym found ∙ is)) (k mode head))

-- \noalign: the begin-group token behind it
pub started-open : (t : Seen) (new : Scans) (answer : Fed Command) → is_undefined t ≡ false → Begins (shaping (shape_glue.Open opener.NoAlign)) new answer → (mode : Mode) (head : Head) → IsBegunBy mode head 1 (λ more. started start.NoAlign (Took t ∷ more)) (Took t ∷ []) new answer
started-open t new answer u k = λ mode head.
    one-token mode head (λ more. started start.NoAlign (Took t ∷ more)) t new answer
    (alike mode head 0 (λ more. started start.NoAlign (Took t ∷ more)) (λ more. shaping (shape_glue.Open opener.NoAlign) more) [] new answer
    (λ more. rw u refl) (k mode head))

-- the first token of a row, and of a further entry
pub first-row : (mode : Mode) (head : Head) (how : RowStart) (t : Seen) (new : Scans) (answer : Fed Command) → head ≡ Row → how ≡ row_start t.meaning → ((m : Mode) (h : Head) → IsBegunBy m h 1 (λ more. started how (Took t ∷ more)) (Took t ∷ []) new answer) → IsBegunBy mode head 1 (λ more. command mode head (Took t ∷ more)) (Took t ∷ []) new answer
first-row mode head how t new answer e is k = rw (e, ← is) (k mode Row)

pub first-entry : (mode : Mode) (head : Head) (how : RowStart) (t : Seen) (new : Scans) (answer : Fed Command) → head ≡ Entry → how ≡ entry_start t → ((m : Mode) (h : Head) → IsBegunBy m h 1 (λ more. started how (Took t ∷ more)) (Took t ∷ []) new answer) → IsBegunBy mode head 1 (λ more. command mode head (Took t ∷ more)) (Took t ∷ []) new answer
first-entry mode head how t new answer e is k = rw (e, ← is) (k mode Entry)

-- the first of the two tokens behind \futurelet and its name
second-reads : (mode : Mode) (head : Head) (first : Seen) (new : Scans) (item : Item) (more : List Item) → new.stage ≡ stage.SecondToken → future_second head first (item ∷ more) ≡ command_rest mode head new (ending (held new) (Took first ∷ [])) item more
second-reads mode head first new (Took t) more is = rw is refl
second-reads mode head first new (Gave v) more is = rw is refl

pub first-future : (mode : Mode) (head : Head) (prefixes : Prefixes) (name : Place) (t : Seen) (new : Scans) → head ≡ Future prefixes name → new.stage ≡ stage.SecondToken → IsBegunBy mode head 1 (λ more. command mode head (Took t ∷ more)) (Took t ∷ []) new (fed.More Raw)
first-future mode head prefixes name t new e is = rw e (record {
  reads = (refl, rw is (omega arith), λ item more. second-reads mode (Future prefixes name) t new item more is);
  needs = rw is (omega arith);
  goes_on = rw is tt;
})

-- the second of them
second-back : (head : Head) (behind : List Item) (t : Seen) (more : List Item) → length behind ≤ 1 → second_rest head behind (Took t) more ≡ Done (future_of head t) (ending 2 (behind ++ Took t ∷ []) ++ more)
second-back head [] t more h = refl
second-back head (item ∷ []) t more h = refl
second-back head (item ∷ other ∷ behind) t more h = absurd (omega (arith, h))

pub second-fed : {E : Type 0} (mode : Mode) (head : Head) (t : Seen) (old new : Scans) (answer : Result (Fed Command) E) → old.stage ≡ stage.SecondToken → IfOk answer (λ given. given ≡ fed.Done (future_of head t) 2) → IfOk answer (IsFedBy (command_rest mode head) held old t new)
second-fed mode head t old new (Ok answer) was is = rw is (λ behind h. (rw was (omega arith), λ more. rw was (second-back head behind t more (rw was at h))))
second-fed mode head t old new (Err error) was is = tt

-- the token that is kept
pub kept-fed : {E : Type 0} (mode : Mode) (head : Head) (kind : AfterKind) (t : Seen) (old new : Scans) (answer : Result (Fed Command) E) → old.stage ≡ stage.KeptToken kind → IfOk answer (λ given. given ≡ fed.Done (Keep kind t.token) 0) → IfOk answer (IsFedBy (command_rest mode head) held old t new)
kept-fed mode head kind t old new (Ok answer) was is = rw is (λ behind h. (omega arith, λ more. rw was (ap (λ (xs : List Item). Done (Keep kind t.token) (xs ++ more)) (sym (ending-none (behind ++ Took t ∷ []))))))
kept-fed mode head kind t old new (Err error) was is = tt

-- an answer that ends a command
pub end-needs : {E : Type 0} (few most : ℕ) (c : Command) (back : ℕ) (answer : Result (Fed Command) E) → IfOk answer (λ given. given ≡ fed.Done c back) → IfOk answer (NeedsNoMore few most)
end-needs few most c back (Ok answer) is = rw is tt
end-needs few most c back (Err error) is = tt

pub end-goes : {E : Type 0} (new : Scans) (c : Command) (back : ℕ) (answer : Result (Fed Command) E) → IfOk answer (λ given. given ≡ fed.Done c back) → IfOk answer (GoesOn new)
end-goes new c back (Ok answer) is = rw is tt
end-goes new c back (Err error) is = tt
