use Rattle.std.proofs.Common.{[], refl, lit≤}
use Rattle.tx_seen.specs.declared.item.Item.TheVariants.{Took}
use Rattle.tx_scan.specs.DimensionRests.{rest as dimen_rest, held as dimen_held, most as dimen_most}
use Rattle.tx_scan.specs.GrammarRests.{held_none, name_rest}
use Rattle.tx_command.specs.declared.scans.Stage.TheVariants as stage
use Rattle.tx_command.specs.declared.types.Command.TheVariants.{BeginLeaders, Define, DefineFont, DefineFuture, DefineMacro, Sized, Rule}
use Rattle.tx_shape.specs.LoadRests.{rest as load_rest, held as load_held}
use Rattle.tx_command.specs.Commands.{load_of}
use Rattle.tx_rule.specs.Rests.{rule_rest, rule_held}
use Rattle.tx_reading.proofs.Stages.{part-fed, part-needs, part-goes, size-needs, size-goes, rule-needs, rule-goes, led-needs, led-goes, leaders-fed, leaders-needs, load-needs, load-goes, space-fed, end-goes, end-needs, kept-fed, second-fed}
use Rattle.tx_scan.proofs.Mosts.{most-size}
use Rattle.tx_scan.proofs.Answering.{fed-part}
use Rattle.tx_scan.proofs.Behind.{fed-one}
use Rattle.tx_reading.proofs.stage.feed_part.Goals as goal

pub returns-in_ok-feed-in-Name-clause-fed : goal.returns-in_ok-feed-in-Name-clause-fed
returns-in_ok-feed-in-Name-clause-fed c =
    rw c.defined.ensures
    (part-fed name_rest held_none (λ name. Define name c.in-Name.kind) (stage.Name c.in-Name.kind) c.args.mode c.args.head.now c.new.result c.feed.new.self c.args.scans.now _ c.args.token.now c.in_ok-feed-in-Name.field-0 c.in-Name.is c.in-Name.is
    (λ behind item more. refl) refl (λ behind item more. refl) refl
    (fed-part name_rest held_none c.new.result c.feed.new.self 0 c.args.token.now c.in_ok-feed-in-Name.field-0 (lit≤ tt) c.in_ok-feed-in-Name.ensures.fed))

pub returns-in_ok-feed-in-Name-clause-needs : goal.returns-in_ok-feed-in-Name-clause-needs
returns-in_ok-feed-in-Name-clause-needs c = part-needs c.args.scans.now c.args.scans.now c.defined.result (rw c.in-Name.is refl)

pub returns-in_ok-feed-in-Name-clause-on : goal.returns-in_ok-feed-in-Name-clause-on
returns-in_ok-feed-in-Name-clause-on c = rw c.defined.ensures (part-goes (λ name. Define name c.in-Name.kind) (stage.Name c.in-Name.kind) c.args.scans.now c.in_ok-feed-in-Name.field-0 c.in-Name.is tt c.in_ok-feed-in-Name.ensures.nothing)

pub returns-in_ok-feed-in-Sized-clause-fed : goal.returns-in_ok-feed-in-Sized-clause-fed
returns-in_ok-feed-in-Sized-clause-fed c =
    rw c.sized.ensures
    (part-fed dimen_rest dimen_held (λ measure. Sized c.in-Sized.size_use measure.size) (stage.Sized c.in-Sized.size_use) c.args.mode c.args.head.now c.args.scans.now.size c.feed-in-Sized.new.self c.args.scans.now _ c.args.token.now c.in_ok-feed-in-Sized.field-0 c.in-Sized.is c.in-Sized.is
    (λ behind item more. refl) refl (λ behind item more. refl) refl c.in_ok-feed-in-Sized.ensures.part)

pub returns-in_ok-feed-in-Sized-clause-needs : goal.returns-in_ok-feed-in-Sized-clause-needs
returns-in_ok-feed-in-Sized-clause-needs c = rw c.sized.ensures (size-needs (λ measure. Sized c.in-Sized.size_use measure.size) c.in-Sized.size_use c.args.scans.now _ c.in_ok-feed-in-Sized.field-0 c.in-Sized.is c.in-Sized.is c.in_ok-feed-in-Sized.ensures.needed)

pub returns-in_ok-feed-in-Sized-clause-on : goal.returns-in_ok-feed-in-Sized-clause-on
returns-in_ok-feed-in-Sized-clause-on c =
    rw c.sized.ensures
    (size-goes (λ measure. Sized c.in-Sized.size_use measure.size) c.in-Sized.size_use _ c.in_ok-feed-in-Sized.field-0 c.in-Sized.is
    (fed-one dimen_rest dimen_held (dimen_most c.args.scans.now.size) (λ more. dimen_rest c.args.scans.now.size [] (Took c.args.token.now) more) c.args.token.now c.feed-in-Sized.new.self c.in_ok-feed-in-Sized.field-0 (most-size c.args.scans.now.size) (c.in_ok-feed-in-Sized.ensures.fed [])))

pub returns-in_ok-feed-in-Rule-clause-fed : goal.returns-in_ok-feed-in-Rule-clause-fed
returns-in_ok-feed-in-Rule-clause-fed c =
    rw c.ruled.ensures
    (part-fed rule_rest rule_held (λ rule. Rule c.in-Rule.kind rule) (stage.Rule c.in-Rule.kind) c.args.mode c.args.head.now c.args.scans.now.rule c.feed-in-Rule.new.self c.args.scans.now _ c.args.token.now c.in_ok-feed-in-Rule.field-0 c.in-Rule.is c.in-Rule.is
    (λ behind item more. refl) refl (λ behind item more. refl) refl c.in_ok-feed-in-Rule.ensures.fed)

pub returns-in_ok-feed-in-Rule-clause-needs : goal.returns-in_ok-feed-in-Rule-clause-needs
returns-in_ok-feed-in-Rule-clause-needs c = rw c.ruled.ensures (rule-needs (λ rule. Rule c.in-Rule.kind rule) c.in-Rule.kind c.args.scans.now _ c.in_ok-feed-in-Rule.field-0 c.in-Rule.is c.in-Rule.is c.in_ok-feed-in-Rule.ensures.needed)

pub returns-in_ok-feed-in-Rule-clause-on : goal.returns-in_ok-feed-in-Rule-clause-on
returns-in_ok-feed-in-Rule-clause-on c = rw c.ruled.ensures (rule-goes (λ rule. Rule c.in-Rule.kind rule) c.in-Rule.kind _ c.in_ok-feed-in-Rule.field-0 c.in-Rule.is c.in_ok-feed-in-Rule.ensures.on)

pub returns-in_ok-feed-in-LeadersRule-clause-fed : goal.returns-in_ok-feed-in-LeadersRule-clause-fed
returns-in_ok-feed-in-LeadersRule-clause-fed c =
    rw c.led.ensures
    (part-fed rule_rest rule_held (λ rule. BeginLeaders c.in-LeadersRule.kind rule) (stage.LeadersRule c.in-LeadersRule.kind) c.args.mode c.args.head.now c.args.scans.now.rule c.feed-in-LeadersRule.new.self c.args.scans.now _ c.args.token.now c.in_ok-feed-in-LeadersRule.field-0 c.in-LeadersRule.is c.in-LeadersRule.is
    (λ behind item more. refl) refl (λ behind item more. refl) refl c.in_ok-feed-in-LeadersRule.ensures.fed)

pub returns-in_ok-feed-in-LeadersRule-clause-needs : goal.returns-in_ok-feed-in-LeadersRule-clause-needs
returns-in_ok-feed-in-LeadersRule-clause-needs c = rw c.led.ensures (led-needs (λ rule. BeginLeaders c.in-LeadersRule.kind rule) c.in-LeadersRule.kind c.args.scans.now _ c.in_ok-feed-in-LeadersRule.field-0 c.in-LeadersRule.is c.in-LeadersRule.is c.in_ok-feed-in-LeadersRule.ensures.needed)

pub returns-in_ok-feed-in-LeadersRule-clause-on : goal.returns-in_ok-feed-in-LeadersRule-clause-on
returns-in_ok-feed-in-LeadersRule-clause-on c = rw c.led.ensures (led-goes (λ rule. BeginLeaders c.in-LeadersRule.kind rule) c.in-LeadersRule.kind _ c.in_ok-feed-in-LeadersRule.field-0 c.in-LeadersRule.is c.in_ok-feed-in-LeadersRule.ensures.on)

pub returns-in-Leaders-clause-fed : goal.returns-in-Leaders-clause-fed
returns-in-Leaders-clause-fed c = leaders-fed c.args.mode c.args.head.now c.in-Leaders.kind c.args.token.now c.args.scans.now c.feed_leaders.new.scans c.feed_leaders.result c.in-Leaders.is c.feed_leaders.ensures

pub returns-in-Leaders-clause-needs : goal.returns-in-Leaders-clause-needs
returns-in-Leaders-clause-needs c = leaders-needs c.args.mode c.args.head.now c.in-Leaders.kind c.args.token.now c.args.scans.now c.feed_leaders.new.scans c.feed_leaders.result c.in-Leaders.is c.feed_leaders.ensures

pub returns-in-Leaders-clause-on : goal.returns-in-Leaders-clause-on
returns-in-Leaders-clause-on c = (c.feed_leaders.ensures c.args.mode c.args.head.now).goes_on

pub returns-in-Spaces-clause-fed : goal.returns-in-Spaces-clause-fed
returns-in-Spaces-clause-fed c =
    space-fed c.args.mode c.args.head.now c.args.token.now c.args.scans.now c.args.scans.now c.feed_space.result c.in-Spaces.is (c.feed_space.ensures c.args.mode c.args.head.now)

pub returns-in-Spaces-clause-needs : goal.returns-in-Spaces-clause-needs
returns-in-Spaces-clause-needs c = part-needs c.args.scans.now c.args.scans.now c.feed_space.result (rw c.in-Spaces.is refl)

pub returns-in-Spaces-clause-on : goal.returns-in-Spaces-clause-on
returns-in-Spaces-clause-on c = (c.feed_space.ensures c.args.mode c.args.head.now).goes_on

pub returns-in_ok-feed-in-MacroName-clause-fed : goal.returns-in_ok-feed-in-MacroName-clause-fed
returns-in_ok-feed-in-MacroName-clause-fed c =
    rw c.macro_defined.ensures
    (part-fed name_rest held_none (λ name. DefineMacro name c.in-MacroName.kind) (stage.MacroName c.in-MacroName.kind) c.args.mode c.args.head.now c.new-in-MacroName.result c.feed-in-MacroName.new.self c.args.scans.now _ c.args.token.now c.in_ok-feed-in-MacroName.field-0 c.in-MacroName.is c.in-MacroName.is
    (λ behind item more. refl) refl (λ behind item more. refl) refl
    (fed-part name_rest held_none c.new-in-MacroName.result c.feed-in-MacroName.new.self 0 c.args.token.now c.in_ok-feed-in-MacroName.field-0 (lit≤ tt) c.in_ok-feed-in-MacroName.ensures.fed))

pub returns-in_ok-feed-in-MacroName-clause-needs : goal.returns-in_ok-feed-in-MacroName-clause-needs
returns-in_ok-feed-in-MacroName-clause-needs c = part-needs c.args.scans.now c.args.scans.now c.macro_defined.result (rw c.in-MacroName.is refl)

pub returns-in_ok-feed-in-MacroName-clause-on : goal.returns-in_ok-feed-in-MacroName-clause-on
returns-in_ok-feed-in-MacroName-clause-on c = rw c.macro_defined.ensures (part-goes (λ name. DefineMacro name c.in-MacroName.kind) (stage.MacroName c.in-MacroName.kind) c.args.scans.now c.in_ok-feed-in-MacroName.field-0 c.in-MacroName.is tt c.in_ok-feed-in-MacroName.ensures.nothing)

pub returns-in_ok-feed-in-FutureName-clause-fed : goal.returns-in_ok-feed-in-FutureName-clause-fed
returns-in_ok-feed-in-FutureName-clause-fed c =
    rw c.future_defined.ensures
    (part-fed name_rest held_none DefineFuture stage.FutureName c.args.mode c.args.head.now c.new-in-FutureName.result c.feed-in-FutureName.new.self c.args.scans.now _ c.args.token.now c.in_ok-feed-in-FutureName.field-0 c.in-FutureName.is c.in-FutureName.is
    (λ behind item more. refl) refl (λ behind item more. refl) refl
    (fed-part name_rest held_none c.new-in-FutureName.result c.feed-in-FutureName.new.self 0 c.args.token.now c.in_ok-feed-in-FutureName.field-0 (lit≤ tt) c.in_ok-feed-in-FutureName.ensures.fed))

pub returns-in_ok-feed-in-FutureName-clause-needs : goal.returns-in_ok-feed-in-FutureName-clause-needs
returns-in_ok-feed-in-FutureName-clause-needs c = part-needs c.args.scans.now c.args.scans.now c.future_defined.result (rw c.in-FutureName.is refl)

pub returns-in_ok-feed-in-FutureName-clause-on : goal.returns-in_ok-feed-in-FutureName-clause-on
returns-in_ok-feed-in-FutureName-clause-on c = rw c.future_defined.ensures (part-goes DefineFuture stage.FutureName c.args.scans.now c.in_ok-feed-in-FutureName.field-0 c.in-FutureName.is tt c.in_ok-feed-in-FutureName.ensures.nothing)

pub returns-in-SecondToken-clause-fed : goal.returns-in-SecondToken-clause-fed
returns-in-SecondToken-clause-fed c = second-fed c.args.mode c.args.head.now c.args.token.now c.args.scans.now c.args.scans.now c.feed_second.result c.in-SecondToken.is c.feed_second.ensures

pub returns-in-SecondToken-clause-needs : goal.returns-in-SecondToken-clause-needs
returns-in-SecondToken-clause-needs c = end-needs _ _ _ _ c.feed_second.result c.feed_second.ensures

pub returns-in-SecondToken-clause-on : goal.returns-in-SecondToken-clause-on
returns-in-SecondToken-clause-on c = end-goes c.args.scans.now _ _ c.feed_second.result c.feed_second.ensures

pub returns-in-KeptToken-clause-fed : goal.returns-in-KeptToken-clause-fed
returns-in-KeptToken-clause-fed c = kept-fed c.args.mode c.args.head.now c.in-KeptToken.kind c.args.token.now c.args.scans.now c.args.scans.now c.feed_kept.result c.in-KeptToken.is c.feed_kept.ensures

pub returns-in-KeptToken-clause-needs : goal.returns-in-KeptToken-clause-needs
returns-in-KeptToken-clause-needs c = end-needs _ _ _ _ c.feed_kept.result c.feed_kept.ensures

pub returns-in-KeptToken-clause-on : goal.returns-in-KeptToken-clause-on
returns-in-KeptToken-clause-on c = end-goes c.args.scans.now _ _ c.feed_kept.result c.feed_kept.ensures

pub returns-in_ok-feed-in-FontName-clause-fed : goal.returns-in_ok-feed-in-FontName-clause-fed
returns-in_ok-feed-in-FontName-clause-fed c =
    rw c.font_defined.ensures
    (part-fed name_rest held_none DefineFont stage.FontName c.args.mode c.args.head.now c.new-in-FontName.result c.feed-in-FontName.new.self c.args.scans.now _ c.args.token.now c.in_ok-feed-in-FontName.field-0 c.in-FontName.is c.in-FontName.is
    (λ behind item more. refl) refl (λ behind item more. refl) refl
    (fed-part name_rest held_none c.new-in-FontName.result c.feed-in-FontName.new.self 0 c.args.token.now c.in_ok-feed-in-FontName.field-0 (lit≤ tt) c.in_ok-feed-in-FontName.ensures.fed))

pub returns-in_ok-feed-in-FontName-clause-needs : goal.returns-in_ok-feed-in-FontName-clause-needs
returns-in_ok-feed-in-FontName-clause-needs c = part-needs c.args.scans.now c.args.scans.now c.font_defined.result (rw c.in-FontName.is refl)

pub returns-in_ok-feed-in-FontName-clause-on : goal.returns-in_ok-feed-in-FontName-clause-on
returns-in_ok-feed-in-FontName-clause-on c = rw c.font_defined.ensures (part-goes DefineFont stage.FontName c.args.scans.now c.in_ok-feed-in-FontName.field-0 c.in-FontName.is tt c.in_ok-feed-in-FontName.ensures.nothing)

pub returns-in_ok-feed-in-Loading-clause-fed : goal.returns-in_ok-feed-in-Loading-clause-fed
returns-in_ok-feed-in-Loading-clause-fed c =
    rw c.loaded.ensures
    (part-fed load_rest load_held load_of stage.Loading c.args.mode c.args.head.now c.args.scans.now.loading c.feed-in-Loading.new.self c.args.scans.now _ c.args.token.now c.in_ok-feed-in-Loading.field-0 c.in-Loading.is c.in-Loading.is
    (λ behind item more. refl) refl (λ behind item more. refl) refl c.in_ok-feed-in-Loading.ensures.fed)

pub returns-in_ok-feed-in-Loading-clause-needs : goal.returns-in_ok-feed-in-Loading-clause-needs
returns-in_ok-feed-in-Loading-clause-needs c = rw c.loaded.ensures (load-needs c.args.scans.now _ c.in_ok-feed-in-Loading.field-0 c.in-Loading.is c.in-Loading.is c.in_ok-feed-in-Loading.ensures.needs)

pub returns-in_ok-feed-in-Loading-clause-on : goal.returns-in_ok-feed-in-Loading-clause-on
returns-in_ok-feed-in-Loading-clause-on c = rw c.loaded.ensures (load-goes _ c.in_ok-feed-in-Loading.field-0 c.in-Loading.is c.in_ok-feed-in-Loading.ensures.waits)
