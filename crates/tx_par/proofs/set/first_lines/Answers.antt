use Rattle.std.proofs.Common.{◌≡◌, ◌≢◌, ◌↔◌, Bool, true, false, List, Option, Some, Result, Ok, Err, IfErr, IsErrAnd, refl, sym, ap, subst, ◌∙◌}
use Rattle.std.specs.Prelude.{IfSome}
use Rattle.tx_linebreak.specs.declared.answer.Chosen.{Chosen}
use Rattle.tx_linebreak.specs.declared.error.BreakError.{BreakError}
use Rattle.tx_linebreak.specs.declared.error.BreakError.TheVariants.{InfiniteShrink}
use Rattle.tx_linebreak.specs.declared.params.LineShape.{LineShape}
use Rattle.tx_linebreak.specs.declared.piece.Piece.{Piece}
use Rattle.tx_linebreak.specs.Chosen.{IsAnswer, IsEnded, first_succeeds, has_endless_shrink}
use Rattle.tx_node.specs.Items.{Item}
use Rattle.tx_node.specs.Nodes.{list_of}
use Rattle.tx_par.specs.declared.error.ParError.{ParError}
use Rattle.tx_par.specs.declared.error.ParError.TheVariants.{OutOfMemory}
use Rattle.tx_par.specs.declared.lines.Lines.{Lines}
use Rattle.tx_par.specs.declared.params.ParParams.{ParParams}
use Rattle.tx_par.specs.Ended.{ended}
use Rattle.tx_par.specs.Paragraphs.{first_lines, lines_of}
use Rattle.tx_par.specs.Pieces.{pieces_of}
use Rattle.tx_par.proofs.Causes.{first-from}
use Rattle.tx_par.proofs.Ends.{pieces-ended}
use Rattle.tx_par.proofs.set.first_lines.Goals as goal

-- where the first pass is made, no glue shrinks infinitely
finite-first : (b : Bool) (r : Result (Option Chosen) BreakError) (found : Option Chosen) → r ≡ Ok found → (r ≡ Err InfiniteShrink) ↔ (b ≡ true) → b ≡ false
finite-first false r found is endless = refl
finite-first true r found is endless = cc (is, endless.1 refl)

-- the lines of the chain that it finds are those of the list that was ended
set-first : (list : List Item) (shape : List LineShape) (params : ParParams) (items : List Item) (pieces : List Piece) (r : Result (Option Chosen) BreakError) (found : Option Chosen) (chosen : Chosen)
    → items ≡ ended params.par_fill_skip list → pieces ≡ pieces_of items
    → r ≡ Ok found → (r ≡ Err InfiniteShrink) ↔ (has_endless_shrink pieces params.breaking ≡ true)
    → found ≡ Some chosen
    → IfSome found (λ (answer : Chosen). (first_succeeds pieces shape params.breaking ≡ true) × IsAnswer pieces shape params.breaking answer)
    → Some (lines_of items shape params chosen) ≡ first_lines list shape params
set-first list shape params items pieces r found chosen items_is pieces_is made endless is some =
    let both = subst (λ (o : Option Chosen). IfSome o (λ (answer : Chosen). (first_succeeds pieces shape params.breaking ≡ true) × IsAnswer pieces shape params.breaking answer)) is some in
    first-from list shape params items pieces chosen items_is pieces_is (finite-first _ r found made endless) both.0 both.1

-- what is so of an error is so of the result that has it
on-err : {T E : Type 0} (r : Result T E) (e : E) (IsSo : Result T E → Type 0) → IsErrAnd r (λ x. x ≡ e) → IsSo (Err e) → IsSo r
on-err (Ok value) e IsSo same so = absurd same
on-err (Err x) e IsSo same so = subst (λ y. IsSo (Err y)) (sym same) so

pub first_breaks-requires-clause-ended : goal.first_breaks-requires-clause-ended
first_breaks-requires-clause-ended c = subst IsEnded (sym c.in_ok-pieces.ensures) (pieces-ended (list_of c.as_slice.result.now))

pub returns-in_err-lines-clause-error : goal.returns-in_err-lines-clause-error
returns-in_err-lines-clause-error c =
    let items_are = c.in_ok-end.ensures ∙ ap (ended c.args.params.now.par_fill_skip) c.in_ok-items.ensures.cases in
    let pieces_are = c.in_ok-pieces.ensures ∙ ap pieces_of c.as_slice.ensures in
    let lines = set-first c.args.list.now c.args.shape.now c.args.params.now _ _ (Ok c.in_ok-chosen.field-0) c.in_ok-chosen.field-0 c.in-Some.chosen items_are pieces_are refl c.in_ok-chosen.ensures.endless c.in-Some.is c.in_ok-chosen.ensures.some in
    on-err c.from_residual-in_err-lines.result c.in_err-lines.field-0.0 (λ r. IfErr r (λ e. e ≢ OutOfMemory → first_lines c.args.list.now c.args.shape.now c.args.params.now ≡ Some (Err e))) c.from_residual-in_err-lines.ensures.1
    (λ not_memory. sym lines ∙ ap (λ (outcome : Result Lines ParError). Some outcome) (c.in_err-lines.ensures.error not_memory))

pub returns-clause-some : goal.returns-clause-some
returns-clause-some c =
    let items_are = c.in_ok-end.ensures ∙ ap (ended c.args.params.now.par_fill_skip) c.in_ok-items.ensures.cases in
    let pieces_are = c.in_ok-pieces.ensures ∙ ap pieces_of c.as_slice.ensures in
    let lines = set-first c.args.list.now c.args.shape.now c.args.params.now _ _ (Ok c.in_ok-chosen.field-0) c.in_ok-chosen.field-0 c.in-Some.chosen items_are pieces_are refl c.in_ok-chosen.ensures.endless c.in-Some.is c.in_ok-chosen.ensures.some in
    sym lines ∙ ap (λ (outcome : Result Lines ParError). Some outcome) c.in_ok-lines.ensures.set
