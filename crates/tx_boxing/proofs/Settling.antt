-- What comes of a box that is to go somewhere, behind \setbox or not.
use Rattle.std.proofs.Common.{◌≡◌, ℕ, List, Option, Some, None, Result, IfOk, refl, ap, sym, ◌∙◌}
use Rattle.tx_box.specs.Building.{Ended, reported}
use Rattle.tx_box.specs.declared.parts.Done.{Done}
use Rattle.tx_box.specs.declared.parts.Lists.{Lists}
use Rattle.tx_box.specs.declared.parts.Target.{Target}
use Rattle.tx_box.specs.Effects.{Effect, told}
use Rattle.tx_boxing.specs.Boxes.{settled, target_of, with_every_in}
use Rattle.tx_building.proofs.Carried.{boxes, carries, with_parts}
use Rattle.tx_building.specs.Carrying.{boxed, carried}
use Rattle.tx_char.specs.declared.tokens.Token.{Token}
use Rattle.tx_eqtb.specs.declared.eqtb.Eqtb.{Eqtb}
use Rattle.tx_event.specs.declared.types.Event.{Event}
use Rattle.tx_prim.specs.declared.family.BoxKind.{BoxKind}
use Rattle.tx_shape.specs.declared.types.BoxContext.{BoxContext}
use Rattle.tx_shape.specs.declared.types.BoxContext.TheVariants.{Adjust, Append, Center, Lead, Register, Ship}
use Rattle.tx_state.specs.declared.state.State.{State}
use Rattle.tx_state.specs.Ended.{with_after}
use Rattle.tx_state.specs.Meanings.{IsStepped, state_of}
use Rattle.tx_state.specs.State.{TexState}

-- \setbox, which is done when its box begins, changes neither the lists nor the table
after-lists : (s : TexState) (kept : Option Token) → (with_after s kept).lists ≡ s.lists
after-lists s None = refl
after-lists s (Some t) = refl

after-table : (s : TexState) (kept : Option Token) → (with_after s kept).table ≡ s.table
after-table s None = refl
after-table s (Some t) = refl

settled-lists : (context : BoxContext) (s : TexState) → (settled context s).lists ≡ s.lists
settled-lists (Append shift) s = refl
settled-lists (Register n) s = after-lists _ s.after_assignment
settled-lists Ship s = refl
settled-lists Adjust s = refl
settled-lists Center s = refl
settled-lists (Lead kind) s = refl

settled-table : (context : BoxContext) (s : TexState) → (settled context s).table ≡ s.table
settled-table (Append shift) s = refl
settled-table (Register n) s = after-table _ s.after_assignment
settled-table Ship s = refl
settled-table Adjust s = refl
settled-table Center s = refl
settled-table (Lead kind) s = refl

-- what is read first in a box changes neither the lists nor the table
pub every-lists : (context : BoxContext) (box : BoxKind) (s : TexState) → (with_every_in context box s).lists ≡ s.lists
every-lists (Append shift) box s = refl
every-lists (Register n) box s = refl
every-lists Ship box s = refl
every-lists Adjust box s = refl
every-lists Center box s = refl
every-lists (Lead kind) box s = refl

pub every-table : (context : BoxContext) (box : BoxKind) (s : TexState) → (with_every_in context box s).table ≡ s.table
every-table (Append shift) box s = refl
every-table (Register n) box s = refl
every-table Ship box s = refl
every-table Adjust box s = refl
every-table Center box s = refl
every-table (Lead kind) box s = refl

-- a box that is to go somewhere: `of` is what comes of it by where it goes, the lists and the table
pub settles : {E : Type 0} (of : Target → Lists → Eqtb → Effect) (context : BoxContext) (base : TexState) (before between new : State) (target : Target) (lists : Lists) (table : Eqtb) (done : Done) (answer : Result Event E) → base.lists ≡ before.lists → base.table ≡ before.table → target ≡ target_of (state_of before) context → state_of between ≡ settled context base → between.said ≡ before.said → of target between.lists between.table ≡ told done lists table → IfOk answer (λ event. IsStepped (carried (state_of (with_parts between lists table)) (told done lists table)) (with_parts between lists table) event new) → IfOk answer (λ event. IsStepped (carried (settled context base) (of (target_of (state_of before) context) before.lists before.table)) before event new)
settles of context base before between new target lists table done answer own_lists own_table to same said is did =
    let same_lists : between.lists ≡ before.lists = ap (λ (s : TexState). s.lists) same ∙ settled-lists context base ∙ own_lists in
    let same_table : between.table ≡ before.table = ap (λ (s : TexState). s.table) same ∙ settled-table context base ∙ own_table in
    carries (settled context base) before between new lists table (of (target_of (state_of before) context) before.lists before.table) done answer same said
    ((λ i. of (sym to i) (sym same_lists i) (sym same_table i)) ∙ is)
    did

-- so it is with what is reported of a box
pub settles-boxed : {E : Type 0} (of : Target → Lists → Eqtb → Ended) (context : BoxContext) (base : TexState) (before between new : State) (target : Target) (lists : Lists) (table : Eqtb) (report : List ℕ) (done : Done) (answer : Result Event E) → base.lists ≡ before.lists → base.table ≡ before.table → target ≡ target_of (state_of before) context → state_of between ≡ settled context base → between.said ≡ before.said → of target between.lists between.table ≡ reported report (told done lists table) → IfOk answer (λ event. IsStepped (boxed (state_of (with_parts between lists table)) (reported report (told done lists table))) (with_parts between lists table) event new) → IfOk answer (λ event. IsStepped (boxed (settled context base) (of (target_of (state_of before) context) before.lists before.table)) before event new)
settles-boxed of context base before between new target lists table report done answer own_lists own_table to same said is did =
    let same_lists : between.lists ≡ before.lists = ap (λ (s : TexState). s.lists) same ∙ settled-lists context base ∙ own_lists in
    let same_table : between.table ≡ before.table = ap (λ (s : TexState). s.table) same ∙ settled-table context base ∙ own_table in
    boxes (settled context base) before between new lists table (of (target_of (state_of before) context) before.lists before.table) report done answer same said
    ((λ i. of (sym to i) (sym same_lists i) (sym same_table i)) ∙ is)
    did
