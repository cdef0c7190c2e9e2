-- The definitions at lines and displays that were worked by hand: a line of 90pt with a rule of 40pt, and a formula that is 5pt wide
-- below it.
use Rattle.std.proofs.Common.{◌≡◌, ℕ, ◌*◌, List, [], ◌∷◌, refl}
use Rattle.std.specs.Prelude.{ℤ, pos, true, false, Some}
use Rattle.tx_num.specs.Glue.{glue_of}
use Rattle.tx_node.specs.declared.head.Change.TheVariants.{Stretch}
use Rattle.tx_node.specs.declared.head.Direction.TheVariants.{Horizontal}
use Rattle.tx_node.specs.declared.head.Setting.TheVariants.{Set}
use Rattle.tx_node.specs.declared.plain.Plain.TheVariants.{Glue, Penalty}
use Rattle.tx_node.specs.declared.plain.Shared.TheVariants.{Rule}
use Rattle.tx_node.specs.Items.{Item, PackedBox, plain, shared}
use Rattle.tx_display.specs.Edges.{free_edge, greatest_size, least_size, size_by, size_of_line, size_of_part}
use Rattle.tx_display.specs.Fitting.{centred, is_near, left_before, middle}
use Rattle.tx_display.specs.Sizes.{half}

-- so many points
abbrev pt : ℕ → ℤ
pt n = pos (n * 65536)

abbrev fil : Item
fil = plain (Glue (glue_of (pos 0) (pt 1) 1 (pos 0) 0))

abbrev bar : Item
bar = shared (Rule (record { width = Some (pt 40); height = Some (pt 5); depth = Some (pos 0) }))

-- a line that stretches by its glue
abbrev line : List Item → PackedBox
line list = record {
  head = record {
    direction = Horizontal;
    width = pt 90;
    height = pt 5;
    depth = pos 0;
    setting = Set (record { change = Stretch; order = 1; total = pt 1; excess = pt 50 });
  };
  list = list;
}

-- the rule stands before all glue that is set; with a quad of 10pt the edge is 20pt further, and 3pt where the line is shifted by so much
behind-rule : size_of_line (pt 3) (line (bar ∷ plain (Penalty (pos 10000)) ∷ fil ∷ [])) (pt 10) ≡ Some (pt 63)
unfolding free_edge size_by size_of_part
behind-rule = refl

-- glue that is set stands before it
behind-glue : size_of_line (pos 0) (line (fil ∷ bar ∷ [])) (pt 10) ≡ Some greatest_size
unfolding free_edge size_by size_of_part
behind-glue = refl

-- nothing shows
behind-nothing : size_of_line (pos 0) (line (fil ∷ [])) (pt 10) ≡ Some least_size
unfolding free_edge size_by size_of_part
behind-nothing = refl

-- the formula stands in the middle; with a number of 10pt too; with one of 30pt that would be nearer than 60pt, so that it stands in
-- the middle of what this leaves, or at the left where it begins with glue
alone : middle (pt 90) (pt 5) (pos 0) false ≡ half (pt 85)
unfolding centred is_near left_before middle
alone = refl

far : middle (pt 90) (pt 5) (pt 10) false ≡ half (pt 85)
unfolding centred is_near left_before middle
far = refl

near : middle (pt 90) (pt 5) (pt 30) false ≡ half (pt 55)
unfolding centred is_near left_before middle
near = refl

near-glue : middle (pt 90) (pt 5) (pt 30) true ≡ pos 0
unfolding centred is_near left_before middle
near-glue = refl
