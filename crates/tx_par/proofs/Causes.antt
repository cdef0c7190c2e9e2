-- What comes of a paragraph.
use Rattle.std.proofs.Common.{◌≡◌, ◌≢◌, ◌↔◌, Bool, true, false, cond, List, None, Some, Result, Ok, Err, IfOk, IfErr, refl, sym, ap, subst, ◌∙◌, true≢false}
use Rattle.tx_linebreak.specs.declared.answer.Chosen.{Chosen}
use Rattle.tx_linebreak.specs.declared.error.BreakError.{BreakError}
use Rattle.tx_linebreak.specs.declared.error.BreakError.TheVariants as breaking
use Rattle.tx_linebreak.specs.declared.params.LineShape.{LineShape}
use Rattle.tx_linebreak.specs.declared.piece.Piece.{Piece}
use Rattle.tx_linebreak.specs.Chosen.{IsAnswer, first_succeeds, has_endless_shrink}
use Rattle.tx_linebreak.proofs.Unique.{answer-found}
use Rattle.tx_node.specs.Items.{Item}
use Rattle.tx_par.specs.declared.error.ParError.{ParError}
use Rattle.tx_par.specs.declared.error.ParError.TheVariants.{SizeOutOfRange, TooDeep, EndlessShrink, OutOfMemory}
use Rattle.tx_par.specs.declared.lines.Lines.{Lines}
use Rattle.tx_par.specs.declared.params.ParParams.{ParParams}
use Rattle.tx_par.specs.Ended.{ended}
use Rattle.tx_par.specs.Paragraphs.{IsOutcome, first_lines, if_first, lines_by, lines_by_trial, lines_of, paragraph, shrinks_endlessly}
use Rattle.tx_par.specs.Pieces.{pieces_of}
use Rattle.tx_par.specs.Setting.{IsOfLines}

-- where breaks are found, no glue shrinks infinitely
is_ok_break : Result Chosen BreakError → Bool
is_ok_break (Ok chosen) = true
is_ok_break (Err e) = false

finite-by : (b : Bool) (r : Result Chosen BreakError) (chosen : Chosen) → r ≡ Ok chosen → (b ≡ true → r ≡ Err breaking.InfiniteShrink) → b ≡ false
unfolding is_ok_break
finite-by false r chosen found endless = refl
finite-by true r chosen found endless = ap is_ok_break (sym found ∙ endless refl)

pub finite : (b : Bool) (r : Result Chosen BreakError) (chosen : Chosen) → r ≡ Ok chosen → (r ≡ Err breaking.InfiniteShrink) ↔ (b ≡ true) → b ≡ false
finite b r chosen found endless = finite-by b r chosen found endless.1

is_memory : ParError → Bool
is_memory SizeOutOfRange = false
is_memory TooDeep = false
is_memory EndlessShrink = false
is_memory OutOfMemory = true

size-memory : SizeOutOfRange ≡ OutOfMemory → ⊥
unfolding is_memory
size-memory e = true≢false (sym (ap is_memory e))

deep-memory : TooDeep ≡ OutOfMemory → ⊥
unfolding is_memory
deep-memory e = true≢false (sym (ap is_memory e))

-- what comes of lines that are set
pub outcome-of : (list : List Item) (shape : List LineShape) (params : ParParams) (chosen : Chosen) (r : Result Lines ParError) → shrinks_endlessly list params ≡ false
    → IsAnswer (pieces_of (ended params.par_fill_skip list)) shape params.breaking chosen
    → IfOk r (λ (lines : Lines). lines_of (ended params.par_fill_skip list) shape params chosen ≡ Ok lines)
    → IfErr r (λ (e : ParError). e ≢ OutOfMemory → lines_of (ended params.par_fill_skip list) shape params chosen ≡ Err e)
    → IfErr r IsOfLines → IsOutcome list shape params r
outcome-of list shape params chosen (Ok lines) fin answer set fails cause = record { finite = fin; chosen = chosen; is_answer = answer; lines_are = set }
outcome-of list shape params chosen (Err SizeOutOfRange) fin answer set fails cause = record { finite = fin; chosen = chosen; is_answer = answer; lines_are = fails size-memory }
outcome-of list shape params chosen (Err TooDeep) fin answer set fails cause = record { finite = fin; chosen = chosen; is_answer = answer; lines_are = fails deep-memory }
outcome-of list shape params chosen (Err EndlessShrink) fin answer set fails cause = absurd cause
outcome-of list shape params chosen (Err OutOfMemory) fin answer set fails cause = tt

-- the same by the list that was ended, and its pieces
pub outcome-from : (list : List Item) (shape : List LineShape) (params : ParParams) (items : List Item) (pieces : List Piece) (chosen : Chosen) (r : Result Lines ParError)
    → items ≡ ended params.par_fill_skip list → pieces ≡ pieces_of items → has_endless_shrink pieces params.breaking ≡ false → IsAnswer pieces shape params.breaking chosen
    → IfOk r (λ (lines : Lines). lines_of items shape params chosen ≡ Ok lines)
    → IfErr r (λ (e : ParError). e ≢ OutOfMemory → lines_of items shape params chosen ≡ Err e)
    → IfErr r IsOfLines → IsOutcome list shape params r
outcome-from list shape params items pieces chosen r items_is pieces_is fin answer set fails cause =
    let is : pieces ≡ pieces_of (ended params.par_fill_skip list) = pieces_is ∙ ap pieces_of items_is in
    outcome-of list shape params chosen r (subst (λ (ps : List Piece). has_endless_shrink ps params.breaking ≡ false) is fin)
    (subst (λ (ps : List Piece). IsAnswer ps shape params.breaking chosen) is answer)
    (subst (λ (its : List Item). IfOk r (λ (lines : Lines). lines_of its shape params chosen ≡ Ok lines)) items_is set)
    (subst (λ (its : List Item). IfErr r (λ (e : ParError). e ≢ OutOfMemory → lines_of its shape params chosen ≡ Err e)) items_is fails)
    cause

-- the lines by the chain that is chosen are those by the chain that is found by looking at every one
by-chosen : (items : List Item) (shape : List LineShape) (params : ParParams) (chosen : Chosen) → IsAnswer (pieces_of items) shape params.breaking chosen → lines_of items shape params chosen ≡ lines_by_trial items shape params
unfolding lines_by_trial
by-chosen items shape params chosen answer = sym (ap (lines_by items shape params) (answer-found (pieces_of items) shape params.breaking chosen answer))

-- and so they are what comes of the list that was ended
pub paragraph-from : (list : List Item) (shape : List LineShape) (params : ParParams) (items : List Item) (pieces : List Piece) (chosen : Chosen)
    → items ≡ ended params.par_fill_skip list → pieces ≡ pieces_of items → has_endless_shrink pieces params.breaking ≡ false → IsAnswer pieces shape params.breaking chosen
    → lines_of items shape params chosen ≡ paragraph list shape params
paragraph-from list shape params items pieces chosen items_is pieces_is fin answer =
    let last : List Item = ended params.par_fill_skip list in
    by-chosen items shape params chosen (subst (λ (ps : List Piece). IsAnswer ps shape params.breaking chosen) pieces_is answer)
    ∙ ap (λ (its : List Item). lines_by_trial its shape params) items_is
    ∙ sym (ap (λ (b : Bool). cond b (Err EndlessShrink) (lines_by_trial last shape params)) (subst (λ (ps : List Piece). has_endless_shrink ps params.breaking ≡ false) (pieces_is ∙ ap pieces_of items_is) fin))

-- the first pass gives the answer: its lines are those of the list that was ended
pub first-from : (list : List Item) (shape : List LineShape) (params : ParParams) (items : List Item) (pieces : List Piece) (chosen : Chosen)
    → items ≡ ended params.par_fill_skip list → pieces ≡ pieces_of items → has_endless_shrink pieces params.breaking ≡ false
    → first_succeeds pieces shape params.breaking ≡ true → IsAnswer pieces shape params.breaking chosen
    → Some (lines_of items shape params chosen) ≡ first_lines list shape params
first-from list shape params items pieces chosen items_is pieces_is fin succeeds answer =
    let last : List Item = ended params.par_fill_skip list in
    let is : pieces ≡ pieces_of last = pieces_is ∙ ap pieces_of items_is in
    let finite : has_endless_shrink (pieces_of last) params.breaking ≡ false = subst (λ (ps : List Piece). has_endless_shrink ps params.breaking ≡ false) is fin in
    let first : first_succeeds (pieces_of last) shape params.breaking ≡ true = subst (λ (ps : List Piece). first_succeeds ps shape params.breaking ≡ true) is succeeds in
    ap (λ (outcome : Result Lines ParError). Some outcome)
    (by-chosen items shape params chosen (subst (λ (ps : List Piece). IsAnswer ps shape params.breaking chosen) pieces_is answer)
    ∙ ap (λ (its : List Item). lines_by_trial its shape params) items_is)
    ∙ sym
    (ap (λ (b : Bool). cond b (Some (Err EndlessShrink)) (if_first (first_succeeds (pieces_of last) shape params.breaking) (lines_by_trial last shape params))) finite
    ∙ ap (λ (b : Bool). if_first b (lines_by_trial last shape params)) first)

-- it doesn't
pub not-first : (list : List Item) (shape : List LineShape) (params : ParParams) (items : List Item) (pieces : List Piece)
    → items ≡ ended params.par_fill_skip list → pieces ≡ pieces_of items → has_endless_shrink pieces params.breaking ≡ false
    → first_succeeds pieces shape params.breaking ≡ false → first_lines list shape params ≡ None
not-first list shape params items pieces items_is pieces_is fin fails =
    let last : List Item = ended params.par_fill_skip list in
    let is : pieces ≡ pieces_of last = pieces_is ∙ ap pieces_of items_is in
    let finite : has_endless_shrink (pieces_of last) params.breaking ≡ false = subst (λ (ps : List Piece). has_endless_shrink ps params.breaking ≡ false) is fin in
    let not : first_succeeds (pieces_of last) shape params.breaking ≡ false = subst (λ (ps : List Piece). first_succeeds ps shape params.breaking ≡ false) is fails in
    ap (λ (b : Bool). cond b (Some (Err EndlessShrink)) (if_first (first_succeeds (pieces_of last) shape params.breaking) (lines_by_trial last shape params))) finite
    ∙ ap (λ (b : Bool). if_first b (lines_by_trial last shape params)) not
