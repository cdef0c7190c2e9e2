use Rattle.std.proofs.Common.{rules, ◌≡◌, ◌∙◌, Bool, ℤ, to_z, of_z, w64, refl, ap}
use Rattle.std.specs.Ordering.{int_eq}
use Rattle.std.proofs.lemmas.Bool.Decides.{same_from_decides, Decides-int_eq}
use Rattle.tx_expand.specs.Turns.{entry_end}
use Rattle.tx_state.specs.Meanings.{state_of}
use Rattle.tx_state.proofs.Outcomes.{outcome-by}
use Rattle.tx_aligning.specs.Preambles.{feeding, in_preamble, is_outside, item_by, templating}
use Rattle.tx_aligning.proofs.preambles.feed_template.Goals as goal

pub returns : goal.returns
returns c =
    let level : to_z w64 (of_z w64 c.level-level.result) ≡ c.args.s.now.input.level = search rules in
    let outside : c.is_outside-outside.result ≡ is_outside (state_of c.args.s.now) =
    same_from_decides c.is_outside-outside.result (int_eq (to_z w64 (of_z w64 c.level-level.result)) in_preamble) c.is_outside-outside.ensures (Decides-int_eq (to_z w64 (of_z w64 c.level-level.result)) in_preamble)
    ∙ ap (λ (z : ℤ). int_eq z in_preamble) level in
    outcome-by (feeding (state_of c.args.s.now) c.item_of.result) (templating (state_of c.args.s.now) c.args.token) c.args.s.now c.args.s.now c.feed.new.s c.feed.result
    (ap (feeding (state_of c.args.s.now)) (c.item_of.ensures ∙ ap (λ (out : Bool). item_by out c.args.token (entry_end c.args.token.meaning)) outside))
    refl c.feed.ensures
