use Rattle.std.proofs.Common.{◌≡◌, ◌≢◌, ◌∙◌, ℤ, Bool, List, Result, Ok, Err, IfErr, sym, ap, rules, to_z, of_z, w32, w64}
use Rattle.tx_node.specs.Items.{Item}
use Rattle.tx_pack.specs.declared.types.Packed.{Packed}
use Rattle.tx_display.specs.declared.error.DisplayError.{DisplayError}
use Rattle.tx_display.specs.declared.error.DisplayError.TheVariants.{OutOfMemory}
use Rattle.tx_display.specs.declared.fitted.Fitted.{Fitted}
use Rattle.tx_display.specs.declared.types.DisplayParams.{DisplayParams}
use Rattle.tx_display.specs.Fitting.{room_of, squeezed, squeezed_by, yields}
use Rattle.tx_display.proofs.fitting.squeeze.Goals as goal

-- what is so refused with this room is so refused
refused-so : (r : Result Fitted DisplayError) (params : DisplayParams) (made : Packed) (beside b room again : ℤ) (list : List Item) (narrows : Bool)
    → b ≡ beside → room ≡ room_of params b → again ≡ room → narrows ≡ yields b again list → list ≡ made.node.list
    → IfErr r (λ (e : DisplayError). e ≢ OutOfMemory → squeezed_by params b again narrows made ≡ Err e)
    → IfErr r (λ (e : DisplayError). e ≢ OutOfMemory → squeezed params beside made ≡ Err e)
unfolding squeezed
refused-so (Ok made_so) params made beside b room again list narrows b_is room_is again_is narrows_is list_is said = tt
refused-so (Err e) params made beside b room again list narrows b_is room_is again_is narrows_is list_is said =
    let left : again ≡ room_of params beside = again_is ∙ room_is ∙ ap (room_of params) b_is in
    let so : narrows ≡ yields beside (room_of params beside) made.node.list = narrows_is ∙ (λ i. yields (b_is i) (left i) (list_is i)) in
    let whole : squeezed_by params b again narrows made ≡ squeezed_by params beside (room_of params beside) (yields beside (room_of params beside) made.node.list) made =
    λ i. squeezed_by params (b_is i) (left i) (so i) made in
    λ fails. sym whole ∙ said fails

pub returns-clause-error : goal.returns-clause-error
returns-clause-error c =
    let same : to_z w32 (of_z w32 c.args.beside) ≡ c.args.beside = search rules in
    let back : to_z w64 (of_z w64 c.room_of-room.result) ≡ c.room_of-room.result = search rules in
    refused-so c.squeeze_by.result c.args.params.now c.args.made _ _ _ _ _ _ same c.room_of-room.ensures back c.yields-narrows.ensures c.list.ensures c.squeeze_by.ensures.error
