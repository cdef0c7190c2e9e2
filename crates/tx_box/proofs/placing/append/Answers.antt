use Rattle.std.proofs.Common.{◌≡◌, ◌∙◌, ℤ, false, IfOk, refl, sym, ap, subst, rules, to_z, of_z, w32}
use Rattle.std.specs.Prelude.{Option}
use Rattle.std.proofs.lemmas.Bool.{true≢false}
use Rattle.tx_eqtb.specs.declared.eqtb.Eqtb.{Eqtb}
use Rattle.tx_nest.specs.declared.list.ModeList.{ModeList}
use Rattle.tx_nest.specs.declared.state.ModeState.{ModeState}
use Rattle.tx_nest.specs.declared.state.ModeState.TheVariants.{Vertical, InternalVertical, Horizontal, RestrictedHorizontal, Math, DisplayMath}
use Rattle.tx_nest.specs.Appended.{box_appended}
use Rattle.tx_nest.specs.States.{mode_of}
use Rattle.tx_node.specs.Items.{PackedBox}
use Rattle.tx_prim.specs.declared.modes.ModeTest.TheVariants as test
use Rattle.tx_prim.specs.Modes.{holds}
use Rattle.tx_box.specs.declared.parts.Lists.{Lists}
use Rattle.tx_box.specs.Effects.{told}
use Rattle.tx_shape.specs.declared.types.BoxContext.TheVariants.{Append}
use Rattle.tx_box.specs.Placing.{appending, appending_in, leading_of, placed_in}
use Rattle.tx_box.proofs.Boxing.{replaced}
use Rattle.tx_box.proofs.placing.append.Goals as goal

-- outside of formulas
elsewhere : (state : ModeState) (shift : ℤ) (lists : Lists) (table : Eqtb) (b : PackedBox) → holds test.Math (mode_of state) ≡ false
    → appending_in state shift lists table b ≡ appending lists table (box_appended (leading_of table.table) lists.nest.innermost shift b)
elsewhere (Vertical depth) shift lists table b is = refl
elsewhere (InternalVertical depth) shift lists table b is = refl
elsewhere (Horizontal factor) shift lists table b is = refl
elsewhere (RestrictedHorizontal factor) shift lists table b is = refl
elsewhere Math shift lists table b is = absurd (true≢false is)
elsewhere DisplayMath shift lists table b is = absurd (true≢false is)

pub returns-in-Vertical : goal.returns-in-Vertical
returns-in-Vertical c global =
    let there : holds test.Math (mode_of c.innermost.result.now.state) ≡ false = search rules in
    let other : holds test.Math (mode_of c.args.lists.now.nest.innermost.state) ≡ false =
    ap (λ (list : ModeList). holds test.Math (mode_of list.state)) (sym c.innermost.ensures) ∙ there in
    let shift_is : to_z w32 (of_z w32 c.args.shift) ≡ c.args.shift = search rules in
    replaced c.append_there.result (λ done. told done c.append_there.new.lists c.args.table.now) _ _
    (ap (λ (found : Option PackedBox). placed_in (Append c.args.shift) global c.args.lists.now c.args.table.now found) c.in-Some.is
    ∙ elsewhere c.args.lists.now.nest.innermost.state c.args.shift c.args.lists.now c.args.table.now c.in-Some.packed other)
    (subst (λ (shift : ℤ). IfOk c.append_there.result (λ done. appending c.args.lists.now c.args.table.now (box_appended (leading_of c.args.table.now.table) c.args.lists.now.nest.innermost shift c.in-Some.packed) ≡ told done c.append_there.new.lists c.args.table.now)) shift_is c.append_there.ensures)
