-- Commands of one token.
use Rattle.std.proofs.Common.{◌≡◌, false, List, [], ◌∷◌, Option, Some, None, IfSome, refl, ap, ◌∙◌}
use Rattle.tx_prim.specs.declared.modes.Mode.{Mode}
use Rattle.tx_seen.specs.declared.item.Item.{Item}
use Rattle.tx_seen.specs.declared.item.Item.TheVariants.{Took}
use Rattle.tx_seen.specs.declared.seen.Seen.{Seen}
use Rattle.tx_reading.specs.declared.single.AtOnce.{AtOnce}
use Rattle.tx_command.specs.declared.types.Head.TheVariants.{Fresh}
use Rattle.tx_reading.specs.AtOnce.{IsAloneIn, IsWhole}
use Rattle.tx_command.specs.Begun.{Begun}
use Rattle.tx_command.specs.Commands.{command, is_begun, standing_command}

none-taken : (taken : List Item) → is_begun taken ≡ false → taken ≡ []
none-taken [] e = refl
none-taken (item ∷ taken) e = cc

whole-by : (before : Begun) (t : Seen) (found : AtOnce) → is_begun before.taken ≡ false → before.head ≡ Fresh → IsAloneIn before.mode t.meaning found → IsWhole before t found
whole-by before t found none fresh alone = record {
  between = none-taken before.taken none;
  is = ap (λ head. command before.mode head (Took t ∷ [])) fresh
      ∙ (ap (λ standing. standing_command standing t []) alone.stands
      ∙ alone.is);
}

pub at-once : (before : Begun) (mode : Mode) (t : Seen) (found : Option AtOnce) → is_begun before.taken ≡ false → before.head ≡ Fresh → mode ≡ before.mode → IfSome found (λ f. IsAloneIn mode t.meaning f) → IfSome found (λ f. IsWhole before t f)
at-once before mode t None none fresh same alone = tt
at-once before mode t (Some found) none fresh same alone = whole-by before t found none fresh (rw same at alone)
