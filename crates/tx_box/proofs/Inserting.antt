-- An insertion follows from what is known of its list.
use Rattle.std.proofs.Common.{◌≡◌, ◌∙◌, ℕ, ℤ, List, sym, ap}
use Rattle.tx_eqtb.specs.declared.eqtb.Eqtb.{Eqtb}
use Rattle.tx_node.specs.Items.{Item}
use Rattle.tx_pack.specs.declared.types.Packed.{Packed}
use Rattle.tx_box.specs.declared.inserts.InsertParams.{InsertParams}
use Rattle.tx_box.specs.declared.parts.Lists.{Lists}
use Rattle.tx_box.specs.Inserts.{inserting, inserting_sized, whole_size}

pub sized-so : (class : ℕ) (params : InsertParams) (lists : Lists) (table : Eqtb) (packed : Packed) (badness : ℤ) (list : List Item) (size : ℤ)
    → badness ≡ packed.badness → list ≡ packed.node.list → size ≡ whole_size packed.node.head
    → inserting class params lists table packed ≡ inserting_sized class params (record lists { badness = badness }) table list size
sized-so class params lists table packed badness list size badness_is list_is size_is =
    ap (λ (b : ℤ). inserting_sized class params (record lists { badness = b }) table packed.node.list (whole_size packed.node.head)) (sym badness_is)
    ∙ ap (λ (l : List Item). inserting_sized class params (record lists { badness = badness }) table l (whole_size packed.node.head)) (sym list_is)
    ∙ ap (λ (s : ℤ). inserting_sized class params (record lists { badness = badness }) table list s) (sym size_is)
