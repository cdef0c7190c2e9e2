-- On which lines a display's formula and its number stand (TeX: The Program, sections 1203 to 1205).
use Rattle.std.specs.Prelude.{Bool, ℤ, pos, ◌+ℤ◌, ◌-ℤ◌, List, [], ◌∷◌, Option, Some, None, Result, Ok, if◌then◌else◌}
use Rattle.tx_node.specs.declared.plain.KernKind.TheVariants.{Implicit}
use Rattle.tx_node.specs.declared.plain.Plain.TheVariants.{Kern}
use Rattle.tx_node.specs.Items.{Item, PackedBox, plain, box_item}
use Rattle.tx_pack.specs.declared.types.Goal.TheVariants.{Natural}
use Rattle.tx_pack.specs.declared.types.PackParams.{PackParams}
use Rattle.tx_pack.specs.Packing.{hpacked}
use Rattle.tx_pack.specs.Stretching.{is_nothing}
use Rattle.tx_prim.specs.declared.family.NumberSide.{NumberSide}
use Rattle.tx_prim.specs.declared.family.NumberSide.TheVariants.{Right, Left}
use Rattle.tx_display.specs.declared.arranged.Arranged.{Arranged}
use Rattle.tx_display.specs.declared.arranged.Stand.{Stand}
use Rattle.tx_display.specs.declared.error.DisplayError.{DisplayError}
use Rattle.tx_display.specs.declared.types.DisplayParams.{DisplayParams}
use Rattle.tx_display.specs.declared.types.EquationNumber.{EquationNumber}
use Rattle.tx_display.specs.Errors.{packed, passed}
use Rattle.tx_display.specs.Fitting.{is_close, left_of}
use Rattle.tx_display.specs.Sizes.{stored}

-- how a formula's box stands that fits its line with so much beside it, and is so bad
unfoldable pub stand_of : DisplayParams → Bool → ℤ → PackedBox → ℤ → Stand
stand_of params at_left beside b badness = record {
  left = left_of params beside b;
  close = is_close params at_left (left_of params beside b);
  beside = beside;
  inner = b;
  badness = badness;
}

-- a formula stands by itself, with its number above it or below it, or none
abbrev pub by_itself : DisplayParams → Stand → Option PackedBox → Option PackedBox → Arranged
by_itself params s above below = record {
  above = above;
  line = s.inner;
  shift = params.place.indent +ℤ s.left;
  below = below;
  close = s.close;
  badness = s.badness;
}

abbrev pub apart : DisplayParams → Stand → NumberSide → PackedBox → Arranged
apart params s Right number = by_itself params s None (Some number)
apart params s Left number = by_itself params s (Some number) None

-- or in one box with its number, with a kern between them that fills the line
unfoldable pub gap_of : DisplayParams → Stand → ℤ
gap_of params s = params.place.width -ℤ s.inner.head.width -ℤ s.beside -ℤ s.left

abbrev pub kern : ℤ → Item
kern size = plain (Kern Implicit size)

abbrev pub row_of : NumberSide → PackedBox → ℤ → PackedBox → List Item
row_of Right inner gap number = box_item (pos 0) inner ∷ kern gap ∷ box_item (pos 0) number ∷ []
row_of Left inner gap number = box_item (pos 0) number ∷ kern gap ∷ box_item (pos 0) inner ∷ []

abbrev pub row_shift : DisplayParams → Stand → NumberSide → ℤ
row_shift params s Right = params.place.indent +ℤ s.left
row_shift params s Left = params.place.indent

unfoldable pub joint : PackParams → Bool → ℤ → List Item → Result Arranged DisplayError
joint params close shift row =
    passed (packed (hpacked row Natural params)) (λ made.
    Ok (record { above = None; line = made.node; shift = shift; below = None; close = close; badness = made.badness }))

unfoldable pub joined_by : DisplayParams → Stand → NumberSide → ℤ → PackedBox → Result Arranged DisplayError
joined_by params s side gap number = joint params.packing s.close (row_shift params s side) (row_of side s.inner gap number)

unfoldable pub joined : DisplayParams → Stand → NumberSide → PackedBox → Result Arranged DisplayError
joined params s side number = passed (stored (gap_of params s)) (λ gap. joined_by params s side gap number)

unfoldable pub numbered : DisplayParams → Stand → NumberSide → PackedBox → Result Arranged DisplayError
numbered params s side number = if is_nothing s.beside then Ok (apart params s side number) else joined params s side number

unfoldable pub arranged : DisplayParams → Option EquationNumber → Stand → Result Arranged DisplayError
arranged params None s = Ok (by_itself params s None None)
arranged params (Some number) s = numbered params s number.side number.packed
