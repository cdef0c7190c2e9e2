use Rattle.std.proofs.Common.{◌≡◌, ◌∷◌, [], Bool, true, false, ◌||◌, List, if◌then◌else◌, refl, ap, rules}
use Rattle.tx_seen.specs.declared.error.TexError.TheVariants.{MissingBeginGroup, Undefined}
use Rattle.tx_seen.specs.declared.fed.Fed.TheVariants as fed
use Rattle.tx_seen.specs.declared.fed.Want.{Want}
use Rattle.tx_seen.specs.declared.fed.Want.TheVariants.{Expanded}
use Rattle.tx_seen.specs.declared.item.Item.{Item}
use Rattle.tx_seen.specs.declared.item.Item.TheVariants.{Took}
use Rattle.tx_seen.specs.declared.seen.Seen.{Seen}
use Rattle.tx_seen.specs.Readings.{Reading, More, Done, Wrong, next}
use Rattle.tx_seen.specs.Seen.{is_begin_group, is_relax, is_space, is_undefined}
use Rattle.tx_scan.specs.declared.scans.BraceScan.{BraceScan}
use Rattle.tx_scan.specs.GrammarRests.{IsBraceFed}
use Rattle.tx_scan.specs.Grammars.{left_brace}
use Rattle.tx_shape.specs.declared.scans.Opening.{Opening}
use Rattle.tx_shape.specs.declared.scans.Plain.TheVariants as plain
use Rattle.tx_shape.specs.declared.scans.ShapeScan.{ShapeScan}
use Rattle.tx_shape.specs.declared.scans.Stage.TheVariants as stage
use Rattle.tx_shape.specs.declared.types.BoxGoal.{BoxGoal}
use Rattle.tx_shape.specs.Boxes.{begun, opened}
use Rattle.tx_shape.specs.Rests.{Begins}
use Rattle.tx_shape.proofs.Parts.{plain-on}
use Rattle.tx_shape.proofs.Steps.{brace-there}
use Rattle.tx_shape.proofs.scans.ShapeScan.feed_brace.Goals as goal

-- a token behind which the begin-group token is still awaited is skipped
abbrev brace_read : Bool → Bool → Bool → Reading (Unit {0}) → List Item → Reading (Unit {0})
brace_read undefined skips begins later rest =
    if undefined then Wrong Undefined else if skips then later else if begins then Done tt rest else Wrong MissingBeginGroup

skipped : (undefined skips begins : Bool) (want : Want) (more : List Item) → brace_read undefined skips begins (left_brace []) [] ≡ More want
    → brace_read undefined skips begins (left_brace more) more ≡ left_brace more
skipped true skips begins want more is = cc
skipped false true begins want more is = refl
skipped false false true want more is = cc
skipped false false false want more is = cc

brace-on : (opening : Opening) (goal : BoxGoal) (scan : BraceScan) (t : Seen) (new : ShapeScan) (want : Want) → IsBraceFed scan t (fed.More want) → new.stage ≡ stage.Plain (plain.Brace opening goal)
    → Begins (λ more. opened opening goal (Took t ∷ more)) new (fed.More Expanded)
brace-on opening goal scan t new want k was =
    plain-on _ (plain.Brace opening goal) new was
    (λ more. ap (λ r. next r (λ _ rest. Done (begun opening goal) rest)) (skipped (is_undefined t) (is_space t || is_relax t) (is_begin_group t) want more (k []).0))

pub returns-in-More : goal.returns-in-More
returns-in-More c =
    rw c.on.ensures.answer (brace-on c.args.opening c.args.goal c.feed.new.self c.args.token.now c.on.new.self c.in-More.field-0 c.in-More.ensures.fed (search rules))

pub returns-in-Done : goal.returns-in-Done
returns-in-Done c =
    brace-there c.args.opening c.args.goal c.feed.new.self c.args.token.now c.args.self.now c.in-Done.back c.in-Done.field-0 c.begun.result c.in-Done.ensures.fed c.begun.ensures
