-- A list is set by its shape and parameters, whatever they are called.
use Rattle.std.proofs.Common.{◌≡◌, ℕ, ℤ, List, subst, sym, refl}
use Rattle.tx_eqtb.specs.declared.table.Table.{Table}
use Rattle.tx_linebreak.specs.declared.params.LineShape.{LineShape}
use Rattle.tx_node.specs.Items.{Item}
use Rattle.tx_par.specs.declared.params.ParParams.{ParParams}
use Rattle.tx_par.specs.Paragraphs.{first_lines, paragraph}
use Rattle.tx_paragraph.specs.declared.last_line.LastLine.{LastLine}
use Rattle.tx_paragraph.specs.Ending.{first_of, later_of}
use Rattle.tx_paragraph.specs.Parameters.{later_params, params_of}
use Rattle.tx_paragraph.specs.Shapes.{shape_of}

pub first-so : (last : LastLine) (table : Table) (depth : ℤ) (passed : ℕ) (list : List Item) (shape : List LineShape) (params : ParParams) → shape ≡ shape_of table passed list → params ≡ params_of last table depth → first_of last table depth passed list ≡ first_lines list shape params
unfolding first_of
first-so last table depth passed list shape params shaped given =
    subst (λ (s : List LineShape). first_lines list (shape_of table passed list) (params_of last table depth) ≡ first_lines list s params) (sym shaped)
    (subst (λ (p : ParParams). first_lines list (shape_of table passed list) (params_of last table depth) ≡ first_lines list (shape_of table passed list) p) (sym given) refl)

pub later-so : (last : LastLine) (table : Table) (depth : ℤ) (passed : ℕ) (list : List Item) (shape : List LineShape) (params : ParParams) → shape ≡ shape_of table passed list → params ≡ later_params (params_of last table depth) → later_of last table depth passed list ≡ paragraph list shape params
unfolding later_of
later-so last table depth passed list shape params shaped given =
    subst (λ (s : List LineShape). paragraph list (shape_of table passed list) (later_params (params_of last table depth)) ≡ paragraph list s params) (sym shaped)
    (subst (λ (p : ParParams). paragraph list (shape_of table passed list) (later_params (params_of last table depth)) ≡ paragraph list (shape_of table passed list) p) (sym given) refl)
