-- What leaves a box follows it.
use Rattle.std.proofs.Common.{◌≡◌, ◌∙◌, ℤ, List, sym, ap}
use Rattle.std.specs.Prelude.{Result, Ok, Err, IfOk}
use Rattle.tx_eqtb.specs.declared.eqtb.Eqtb.{Eqtb}
use Rattle.tx_nest.specs.declared.list.ModeList.{ModeList}
use Rattle.tx_node.specs.Items.{Item}
use Rattle.tx_par.specs.declared.line.Line.{Line}
use Rattle.tx_box.specs.declared.parts.Lists.{Lists}
use Rattle.tx_box.specs.declared.parts.OpenBox.{OpenBox}
use Rattle.tx_box.specs.Building.{Ended, boxing, boxing_line, followed, goal_of, line_in, most_in, packed_if}

-- another value in the place of an equal one
pub replaced : {A E X : Type 0} (result : Result A E) (P : A → X) (x y : X) → y ≡ x → IfOk result (λ made. x ≡ P made) → IfOk result (λ made. y ≡ P made)
replaced (Ok made) P x y same told = same ∙ told
replaced (Err error) P x y same told = told

-- a box is made of what stands in it, and what leaves it follows it
pub boxed_line : (box : OpenBox) (most : ℤ) (lists : Lists) (table : Eqtb) (list : List Item) (around : ModeList) (line : Line) (deepest : ℤ) (made : Ended)
    → around ≡ lists.nest.innermost
    → line ≡ line_in box.kind box.target.context around.state list
    → deepest ≡ most_in box.target.context most
    → boxing box.target lists table (packed_if box.kind (goal_of box.goal) deepest table.table line.own) ≡ made
    → boxing_line box most lists table (line_in box.kind box.target.context lists.nest.innermost.state list) ≡ followed line.behind made
boxed_line box most lists table list around line deepest made around_is line_is deepest_is boxed =
    ap (λ (l : ModeList). boxing_line box most lists table (line_in box.kind box.target.context l.state list)) (sym around_is)
    ∙ ap (λ (l : Line). boxing_line box most lists table l) (sym line_is)
    ∙ ap (λ m. followed line.behind (boxing box.target lists table (packed_if box.kind (goal_of box.goal) m table.table line.own))) (sym deepest_is)
    ∙ ap (λ m. followed line.behind m) boxed
