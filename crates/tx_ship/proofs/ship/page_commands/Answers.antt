use Rattle.std.proofs.Common.{ℕ, List, ◌∙◌, sym, ap}
use Rattle.tx_node.specs.Items.{items_of}
use Rattle.tx_node.specs.Setting.{begun}
use Rattle.tx_ship.specs.Commands.{Pen, page_pen}
use Rattle.tx_ship.specs.Standing.{page_frame}
use Rattle.tx_ship.proofs.Steps.{not-entered}
use Rattle.tx_ship.proofs.ship.page_commands.Goals as goal

pub returns-then-not-is_entered-clause-commands : goal.returns-then-not-is_entered-clause-commands
returns-then-not-is_entered-clause-commands c =
    c.in_ok-output.ensures.body
    ∙ ap (λ (w : List ℕ × Pen). w.0) (sym (not-entered c.args.fonts.now (page_frame c.args.node.now c.args.params.now.hoffset c.args.params.now.voffset) begun (page_pen c.args.params.now.defined) (items_of c.args.node.now.list) c.if-not-is_entered.ensures))

pub returns-then-not-is_entered-clause-fonts : goal.returns-then-not-is_entered-clause-fonts
returns-then-not-is_entered-clause-fonts c =
    c.in_ok-output.ensures.fonts
    ∙ ap (λ (w : List ℕ × Pen). w.1.fonts) (sym (not-entered c.args.fonts.now (page_frame c.args.node.now c.args.params.now.hoffset c.args.params.now.voffset) begun (page_pen c.args.params.now.defined) (items_of c.args.node.now.list) c.if-not-is_entered.ensures))
