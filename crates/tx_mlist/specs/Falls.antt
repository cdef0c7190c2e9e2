-- A list holds more than each list in it.
use Rattle.std.specs.Prelude.{◌≤◌, suc, max, List, [], ◌∷◌}
use Rattle.std.proofs.Common.{arith}
use denote.Param.Weighed.{most}
use Rattle.tx_mlist.specs.declared.noad.Field.{Field}
use Rattle.tx_mlist.specs.declared.noad.Field.TheVariants.{Empty, Character, Packed, Formula}
use Rattle.tx_mlist.specs.declared.noad.Noad.{Noad}
use Rattle.tx_mlist.specs.declared.noad.Noad.TheVariants.{Atom, Fraction, Choice, Plain, Node}
use Rattle.tx_mlist.specs.declared.noad.InnerList.TheDeep.{deep-Field, deep-Noad}
use Rattle.tx_mlist.specs.Items.{gathered}
use Rattle.tx_mlist.specs.Counts.{count_of, part_count}
use Rattle.tx_mlist.specs.Noads.{mlist_of, part_of}

part_falls : (f : Field) → deep-Field f ≤ suc (part_count (part_of f))
part_falls Empty = omega arith
part_falls (Character c) = omega arith
part_falls (Packed shift b) = omega arith
part_falls (Formula list) = omega arith

pub falls : (noads : List Noad) → max (most deep-Noad noads) 0 ≤ suc (count_of (gathered (mlist_of noads)))
falls [] = omega arith
falls (Atom a ∷ rest) =
    omega (arith, falls rest, part_falls a.value.nucleus, part_falls a.value.superscript, part_falls a.value.subscript)
falls (Fraction f ∷ rest) = omega (arith, falls rest)
falls (Choice c ∷ rest) = omega (arith, falls rest)
falls (Plain p ∷ rest) = omega (arith, falls rest)
falls (Node n ∷ rest) = omega (arith, falls rest)
