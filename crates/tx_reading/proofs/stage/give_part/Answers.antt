use Rattle.std.proofs.Common.{◌≤◌, refl}
use Rattle.tx_scan.specs.DimensionRests.{rest as dimen_rest, held as dimen_held}
use Rattle.tx_command.specs.declared.scans.Stage.TheVariants as stage
use Rattle.tx_command.specs.declared.types.Command.TheVariants.{BeginLeaders, Sized, Rule}
use Rattle.tx_shape.specs.LoadRests.{rest as load_rest, held as load_held}
use Rattle.tx_command.specs.Commands.{load_of}
use Rattle.tx_rule.specs.Rests.{rule_rest, rule_held}
use Rattle.tx_scan.proofs.Behind.{given-behind, given-one}
use Rattle.tx_reading.proofs.Stages.{part-behind, size-fewer, size-goes, rule-fewer, rule-goes, led-fewer, led-goes, load-fewer, load-goes}
use Rattle.tx_reading.proofs.stage.give_part.Goals as goal

pub returns-in_ok-give-in-Sized-clause-given : goal.returns-in_ok-give-in-Sized-clause-given
returns-in_ok-give-in-Sized-clause-given c = λ mode head.
    let few : dimen_held c.args.scans.now.size ≤ 1 = rw c.in-Sized.is at c.requires.waits.1 in
    rw c.sized.ensures
    (part-behind dimen_rest dimen_held (λ measure. Sized c.in-Sized.size_use measure.size) (stage.Sized c.in-Sized.size_use) mode head c.args.scans.now.size c.give.new.self c.args.scans.now _ c.args.value.now c.args.behind.now c.in_ok-give-in-Sized.field-0 c.in-Sized.is c.in-Sized.is
    (λ behind item more. refl) refl (λ behind item more. refl) refl
    (given-behind dimen_rest dimen_held c.args.scans.now.size c.give.new.self c.args.value.now c.args.behind.now c.in_ok-give-in-Sized.field-0 few c.in_ok-give-in-Sized.ensures.part))

pub returns-in_ok-give-in-Sized-clause-needs : goal.returns-in_ok-give-in-Sized-clause-needs
returns-in_ok-give-in-Sized-clause-needs c = rw c.sized.ensures (size-fewer (λ measure. Sized c.in-Sized.size_use measure.size) c.in-Sized.size_use c.args.scans.now _ c.in_ok-give-in-Sized.field-0 c.in-Sized.is c.in-Sized.is c.in_ok-give-in-Sized.ensures.fewer)

pub returns-in_ok-give-in-Sized-clause-on : goal.returns-in_ok-give-in-Sized-clause-on
returns-in_ok-give-in-Sized-clause-on c =
    let few : dimen_held c.args.scans.now.size ≤ 1 = rw c.in-Sized.is at c.requires.waits.1 in
    rw c.sized.ensures
    (size-goes (λ measure. Sized c.in-Sized.size_use measure.size) c.in-Sized.size_use _ c.in_ok-give-in-Sized.field-0 c.in-Sized.is
    (given-one dimen_rest dimen_held c.args.scans.now.size c.give.new.self c.args.value.now c.in_ok-give-in-Sized.field-0 few c.in_ok-give-in-Sized.ensures.part))

pub returns-in_ok-give-in-Rule-clause-given : goal.returns-in_ok-give-in-Rule-clause-given
returns-in_ok-give-in-Rule-clause-given c = λ mode head.
    rw c.ruled.ensures
    (part-behind rule_rest rule_held (λ rule. Rule c.in-Rule.kind rule) (stage.Rule c.in-Rule.kind) mode head c.args.scans.now.rule c.give-in-Rule.new.self c.args.scans.now _ c.args.value.now c.args.behind.now c.in_ok-give-in-Rule.field-0 c.in-Rule.is c.in-Rule.is
    (λ behind item more. refl) refl (λ behind item more. refl) refl c.in_ok-give-in-Rule.ensures.given)

pub returns-in_ok-give-in-Rule-clause-needs : goal.returns-in_ok-give-in-Rule-clause-needs
returns-in_ok-give-in-Rule-clause-needs c = rw c.ruled.ensures (rule-fewer (λ rule. Rule c.in-Rule.kind rule) c.in-Rule.kind c.args.scans.now _ c.in_ok-give-in-Rule.field-0 c.in-Rule.is c.in-Rule.is c.in_ok-give-in-Rule.ensures.fewer)

pub returns-in_ok-give-in-Rule-clause-on : goal.returns-in_ok-give-in-Rule-clause-on
returns-in_ok-give-in-Rule-clause-on c = rw c.ruled.ensures (rule-goes (λ rule. Rule c.in-Rule.kind rule) c.in-Rule.kind _ c.in_ok-give-in-Rule.field-0 c.in-Rule.is c.in_ok-give-in-Rule.ensures.on)

pub returns-in_ok-give-in-LeadersRule-clause-given : goal.returns-in_ok-give-in-LeadersRule-clause-given
returns-in_ok-give-in-LeadersRule-clause-given c = λ mode head.
    rw c.led.ensures
    (part-behind rule_rest rule_held (λ rule. BeginLeaders c.in-LeadersRule.kind rule) (stage.LeadersRule c.in-LeadersRule.kind) mode head c.args.scans.now.rule c.give-in-LeadersRule.new.self c.args.scans.now _ c.args.value.now c.args.behind.now c.in_ok-give-in-LeadersRule.field-0 c.in-LeadersRule.is c.in-LeadersRule.is
    (λ behind item more. refl) refl (λ behind item more. refl) refl c.in_ok-give-in-LeadersRule.ensures.given)

pub returns-in_ok-give-in-LeadersRule-clause-needs : goal.returns-in_ok-give-in-LeadersRule-clause-needs
returns-in_ok-give-in-LeadersRule-clause-needs c = rw c.led.ensures (led-fewer (λ rule. BeginLeaders c.in-LeadersRule.kind rule) c.in-LeadersRule.kind c.args.scans.now _ c.in_ok-give-in-LeadersRule.field-0 c.in-LeadersRule.is c.in-LeadersRule.is c.in_ok-give-in-LeadersRule.ensures.fewer)

pub returns-in_ok-give-in-LeadersRule-clause-on : goal.returns-in_ok-give-in-LeadersRule-clause-on
returns-in_ok-give-in-LeadersRule-clause-on c = rw c.led.ensures (led-goes (λ rule. BeginLeaders c.in-LeadersRule.kind rule) c.in-LeadersRule.kind _ c.in_ok-give-in-LeadersRule.field-0 c.in-LeadersRule.is c.in_ok-give-in-LeadersRule.ensures.on)

pub returns-in_ok-give-in-Loading-clause-given : goal.returns-in_ok-give-in-Loading-clause-given
returns-in_ok-give-in-Loading-clause-given c = λ mode head.
    rw c.loaded.ensures
    (part-behind load_rest load_held load_of stage.Loading mode head c.args.scans.now.loading c.give-in-Loading.new.self c.args.scans.now _ c.args.value.now c.args.behind.now c.in_ok-give-in-Loading.field-0 c.in-Loading.is c.in-Loading.is
    (λ behind item more. refl) refl (λ behind item more. refl) refl (c.in_ok-give-in-Loading.ensures.given c.args.behind.now))

pub returns-in_ok-give-in-Loading-clause-needs : goal.returns-in_ok-give-in-Loading-clause-needs
returns-in_ok-give-in-Loading-clause-needs c = rw c.loaded.ensures (load-fewer c.args.scans.now _ c.in_ok-give-in-Loading.field-0 c.in-Loading.is c.in-Loading.is c.in_ok-give-in-Loading.ensures.needs)

pub returns-in_ok-give-in-Loading-clause-on : goal.returns-in_ok-give-in-Loading-clause-on
returns-in_ok-give-in-Loading-clause-on c = rw c.loaded.ensures (load-goes _ c.in_ok-give-in-Loading.field-0 c.in-Loading.is c.in_ok-give-in-Loading.ensures.waits)
