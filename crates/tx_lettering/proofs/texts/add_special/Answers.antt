use Rattle.std.proofs.Common.{◌≡◌, ℕ, List, refl, ap, ◌∙◌}
use Rattle.tx_convert.specs.Messages.{printed}
use Rattle.tx_expand.specs.Expanding.{escape_of}
use Rattle.tx_node.specs.declared.plain.Shared.TheVariants.{Special}
use Rattle.tx_node.specs.Items.{Item, shared}
use Rattle.tx_node.specs.Nodes.{item_of}
use Rattle.tx_state.proofs.Outcomes.{outcome-by}
use Rattle.tx_state.specs.Ended.{adding}
use Rattle.tx_state.specs.Meanings.{state_of}
use Rattle.tx_lettering.specs.Texts.{marking}
use Rattle.tx_lettering.proofs.texts.add_special.Goals as goal

pub returns : goal.returns
returns c =
    let text : c.in_ok-text.text ≡ printed (escape_of c.args.s.now.table) c.args.s.now.table.table.categories c.args.s.now.words.fonts c.args.tokens.now = cc (c.in_ok-text.ensures) in
    let item : item_of c.in_ok-node.node ≡ shared (Special (printed (escape_of c.args.s.now.table) c.args.s.now.table.table.categories c.args.s.now.words.fonts c.args.tokens.now)) =
    c.in_ok-node.ensures ∙ ap (λ (bytes : List ℕ). shared (Special bytes)) text in
    outcome-by (adding (state_of c.args.s.now) (item_of c.in_ok-node.node)) (marking (state_of c.args.s.now) c.args.tokens.now) c.args.s.now c.args.s.now c.add.new.s c.add.result
    (ap (λ (it : Item). adding (state_of c.args.s.now) it) item) refl c.add.ensures
