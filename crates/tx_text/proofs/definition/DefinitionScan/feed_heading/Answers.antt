use Rattle.std.proofs.Common.{◌≡◌, sym, ap, ◌∙◌}
use Rattle.tx_text.proofs.Kept.{token-sound}
use Rattle.tx_text.specs.declared.stages.Stage.TheVariants.{Heading}
use Rattle.tx_text.specs.Definitions.{Defining, is_heading}
use Rattle.tx_text.proofs.definition.DefinitionScan.feed_heading.Goals as goal

pub invariant_of-self-in-None-1 : goal.invariant_of-self-in-None-1
invariant_of-self-in-None-1 c =
    let e : c.self.inside.stage ≡ Heading = ap (λ (d : Defining). d.stage) c.self.view_is ∙ c.requires in
    token-sound c.self.inside.parameters c.push_token.new.self c.self.inside.signs c.self.inside.body c.self.inside.stage c.args.seen.token c.self.invariant
    (ap is_heading e) (sym c.begins_group.ensures ∙ c.if-begins_group.false) (sym c.ends_group.ensures ∙ c.if-ends_group.false) c.in_ok-push_token-in-None.ensures.ok
