use Rattle.std.proofs.Common.{◌≡◌, sym, ap, ◌∙◌}
use Rattle.tx_text.proofs.Kept.{begin-sound}
use Rattle.tx_text.specs.declared.stages.Stage.TheVariants.{Numbering}
use Rattle.tx_text.specs.Definitions.{Defining, is_heading}
use Rattle.tx_text.proofs.definition.DefinitionScan.feed_numbering.Goals as goal

pub invariant_of-self-then-begins_group : goal.invariant_of-self-then-begins_group
invariant_of-self-then-begins_group c =
    let e : c.self.inside.stage ≡ Numbering c.args.code = ap (λ (d : Defining). d.stage) c.self.view_is ∙ c.requires in
    begin-sound c.self.inside.parameters c.push_token.new.self c.self.inside.signs c.self.inside.body c.self.inside.stage c.args.seen.token c.self.invariant
    (ap is_heading e) (sym c.begins_group.ensures ∙ c.if-begins_group.true) c.in_ok-push_token.ensures.ok
