use Rattle.std.proofs.Common.{◌≡◌, ◌-◌, ◌+◌, ◌≤◌, ◌⊎◌, min, length, sym, subst, arith}
use Rattle.tx_linebreak.proofs.Shapes.{shape_place, width_at}
use Rattle.tx_par.proofs.Shapes.{indent_at}
use Rattle.tx_par.proofs.setting.shape_of.Goals as goal

pub returns-clause-width : goal.returns-clause-width
returns-clause-width c =
    let at : c.min.result ≡ min c.args.lines (length c.args.shape.now - 1) = c.min.ensures in
    sym (width_at c.args.shape.now c.min.result c.args.lines _ (omega arith)
    (subst (λ k. (k ≡ c.args.lines) ⊎ ((k + 1 ≡ length c.args.shape.now) × (k ≤ c.args.lines))) (sym at) (shape_place (length c.args.shape.now) c.args.lines c.requires)))

pub returns-clause-indent : goal.returns-clause-indent
returns-clause-indent c =
    let at : c.min.result ≡ min c.args.lines (length c.args.shape.now - 1) = c.min.ensures in
    sym (indent_at c.args.shape.now c.min.result c.args.lines _ (omega arith)
    (subst (λ k. (k ≡ c.args.lines) ⊎ ((k + 1 ≡ length c.args.shape.now) × (k ≤ c.args.lines))) (sym at) (shape_place (length c.args.shape.now) c.args.lines c.requires)))
