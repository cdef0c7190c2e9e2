-- What comes of the list of a group behind the group's end.
use Rattle.std.proofs.Common.{◌≡◌, ℕ, ℤ, List, Result, IfOk, ap, sym, ◌∙◌}
use Rattle.tx_box.specs.Building.{ending, greatest_depth, reported}
use Rattle.tx_box.specs.declared.inserts.InsertParams.{InsertParams}
use Rattle.tx_box.specs.declared.parts.Done.{Done}
use Rattle.tx_box.specs.declared.parts.Lists.{Lists}
use Rattle.tx_box.specs.Effects.{told}
use Rattle.tx_box.specs.Inserts.{ending_insert as insert_ended, insert_params}
use Rattle.tx_building.proofs.Carried.{boxes, carries, with_parts}
use Rattle.tx_building.specs.Carrying.{boxed, carried}
use Rattle.tx_eqtb.specs.declared.eqtb.Eqtb.{Eqtb}
use Rattle.tx_eqtb.specs.Stack.{closed}
use Rattle.tx_event.specs.declared.types.Event.{Event}
use Rattle.tx_grouping.specs.ListEnds.{packing_box, packing_insert}
use Rattle.tx_state.specs.declared.state.State.{State}
use Rattle.tx_state.specs.Groups.{closing}
use Rattle.tx_state.specs.Meanings.{IsStepped, state_of}
use Rattle.tx_state.specs.State.{TexState}

-- the end of a box, behind the end of its group
pub ends : {E : Type 0} (before between new : State) (most : ℤ) (lists : Lists) (table : Eqtb) (report : List ℕ) (done : Done) (answer : Result Event E) → most ≡ greatest_depth before.table.table → state_of between ≡ closing (state_of before) → between.said ≡ before.said → ending most between.lists between.table ≡ reported report (told done lists table) → IfOk answer (λ event. IsStepped (boxed (state_of (with_parts between lists table)) (reported report (told done lists table))) (with_parts between lists table) event new) → IfOk answer (λ event. IsStepped (packing_box (state_of before)) before event new)
ends before between new most lists table report done answer deep same said is did =
    let same_lists : between.lists ≡ before.lists = ap (λ (s : TexState). s.lists) same in
    let same_table : between.table ≡ closed before.table = ap (λ (s : TexState). s.table) same in
    boxes (closing (state_of before)) before between new lists table (ending (greatest_depth before.table.table) before.lists (closed before.table)) report done answer same said
    ((λ i. ending (sym deep i) (sym same_lists i) (sym same_table i)) ∙ is)
    did

-- the end of an insertion, behind the end of its group
pub inserts : {E : Type 0} (class : ℕ) (before between new : State) (params : InsertParams) (lists : Lists) (done : Done) (answer : Result Event E) → params ≡ insert_params before.table.table → state_of between ≡ closing (state_of before) → between.said ≡ before.said → insert_ended class params between.lists between.table ≡ told done lists between.table → IfOk answer (λ event. IsStepped (carried (state_of (with_parts between lists between.table)) (told done lists between.table)) (with_parts between lists between.table) event new) → IfOk answer (λ event. IsStepped (packing_insert (state_of before) class) before event new)
inserts class before between new params lists done answer read same said is did =
    let same_lists : between.lists ≡ before.lists = ap (λ (s : TexState). s.lists) same in
    let same_table : between.table ≡ closed before.table = ap (λ (s : TexState). s.table) same in
    carries (closing (state_of before)) before between new lists between.table (insert_ended class (insert_params before.table.table) before.lists (closed before.table)) done answer same said
    ((λ i. insert_ended class (sym read i) (sym same_lists i) (sym same_table i)) ∙ is)
    did
