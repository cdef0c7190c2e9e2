use Rattle.std.proofs.Common.{◌≡◌, List, OnOk, subst}
use Rattle.tx_node.specs.Items.{Item}
use Rattle.tx_par.specs.LineLists.{with_items}
use Rattle.tx_par.proofs.Between.{between-held}
use Rattle.tx_par.proofs.task.Paragraph.add_between.Goals as goal

pub returns : goal.returns
returns c =
    subst (λ (items : List Item). OnOk c.share_between.result (c.share_between.new.self ≡ with_items c.args.line.now items))
    (between-held c.args.self.now.first_pass c.args.self.now.items.now c.args.self.now.pieces.now c.args.from c.args.place _ _ c.min-end.ensures c.first_place-first.ensures)
    c.share_between.ensures
