-- How tall the delimiters of \left and \right are (The TeXbook, appendix G, rule 19; TeX: The Program, sections 727, 730 and 762).
use Rattle.std.specs.Prelude.{ℕ, is_some, ℤ, pos, ◌+ℤ◌, ◌-ℤ◌, ◌*ℤ◌, int_div, List, [], ◌∷◌, if◌then◌else◌}
use Rattle.std.specs.Int.{int_max}
use Rattle.tx_node.specs.Items.{Item}
use Rattle.tx_node.specs.Sizes.{glue_of_item}
use Rattle.tx_pack.specs.Sums.{depth_asked, height_asked}
use Rattle.tx_math.specs.declared.piece.Fences.{Fences}
use Rattle.tx_math.specs.declared.piece.Reach.{Reach}
use Rattle.tx_math.specs.Parameters.{Math, axis}
use Rattle.tx_math.specs.Spacing.{Piece, noad, fence, restyled, lone}

-- how high and how deep an item is: as a horizontal list's box is asked for; glue isn't, also where it is filled with a rule
abbrev pub no_reach : Reach
no_reach = record { height = pos 0; depth = pos 0 }

abbrev pub item_reach : Item → Reach
item_reach item = if is_some (glue_of_item item) then no_reach else record { height = height_asked item; depth = depth_asked item }

-- the greatest height and depth with one item more, with those of a list, and with those of pieces; other delimiters don't count
abbrev pub with_item : Reach → Item → Reach
with_item r item = record { height = int_max r.height (item_reach item).height; depth = int_max r.depth (item_reach item).depth }

abbrev pub with_items : Reach → List Item → Reach
with_items r [] = r
with_items r (item ∷ rest) = with_items (with_item r item) rest

abbrev pub with_piece : Reach → Piece → Reach
with_piece r (noad kind items) = with_items r items
with_piece r (fence kind d) = r
with_piece r (restyled style) = r
with_piece r (lone item) = with_item r item

abbrev pub with_pieces : Reach → List Piece → Reach
with_pieces r [] = r
with_pieces r (piece ∷ rest) = with_pieces (with_piece r piece) rest

-- how far from the axis they reach at most
abbrev pub farthest : Math → ℕ → Reach → ℤ
farthest m style r = int_max (r.height -ℤ axis m style) (r.depth +ℤ axis m style)

-- a delimiter is as tall as so many thousandths of twice that, and falls short of twice that by so much at most
unfoldable pub fence_size : Math → ℤ → ℤ
fence_size m far = int_max (int_div far (pos 500) *ℤ m.params.delimiter_factor) (far +ℤ far -ℤ m.params.delimiter_shortfall)

-- those of a list that is set in a style, the one in which it begins
unfoldable pub fences_of : Math → ℕ → List Piece → Fences
fences_of m style pieces = record { style = style; size = fence_size m (farthest m style (with_pieces no_reach pieces)) }
