-- What line breaking sees of a paragraph's list (TeX: The Program, sections 148, 837 to 842 and 866 to 871).
use Rattle.std.specs.Prelude.{ℕ, ℤ, pos, negsuc, ◌+ℤ◌, min, List, [], ◌∷◌, fold, length, Option, None, Some}
use Rattle.std.specs.Int.{int_max, int_min}
use Rattle.tx_linebreak.specs.declared.piece.Piece.{Piece}
use Rattle.tx_linebreak.specs.declared.piece.Piece.TheVariants as piece
use Rattle.tx_node.specs.declared.plain.KernKind.{KernKind}
use Rattle.tx_node.specs.declared.plain.KernKind.TheVariants.{Accent, Implicit, Explicit, MathOn, MathOff}
use Rattle.tx_node.specs.declared.plain.Plain.{Plain}
use Rattle.tx_node.specs.declared.plain.Plain.TheVariants.{Kern, Glue, Penalty, Character}
use Rattle.tx_node.specs.declared.plain.Shared.{Shared}
use Rattle.tx_node.specs.declared.plain.Shared.TheVariants.{Rule, Leaders, Special, Ligature, Mark}
use Rattle.tx_node.specs.declared.head.BreakHead.{BreakHead}
use Rattle.tx_node.specs.declared.head.Direction.TheVariants.{Horizontal}
use Rattle.tx_node.specs.Items.{Item, plain, shared, boxed, discretionary, adjustment, insertion, box_leaders}
use Rattle.tx_node.specs.Sizes.{advance, side}
use Rattle.tx_nest.specs.Lasts.{list_from}

-- a kern is discardable only where it is explicit, or at one end of a formula
abbrev pub kern_piece : KernKind → ℤ → Piece
kern_piece Implicit size = piece.Solid size
kern_piece Accent size = piece.Solid size
kern_piece Explicit size = piece.Kern size
kern_piece MathOn size = piece.MathOn size
kern_piece MathOff size = piece.MathOff size

abbrev pub plain_piece : Plain → Piece
plain_piece (Kern kind size) = kern_piece kind size
plain_piece (Glue g) = piece.Glue g
plain_piece (Penalty n) = piece.Penalty n
plain_piece (Character c) = piece.Solid c.width

abbrev pub shared_piece : Shared → Piece
shared_piece (Rule r) = piece.Solid (side r.width)
shared_piece (Leaders l) = piece.Glue l.glue
shared_piece (Special text) = piece.Solid (pos 0)
shared_piece (Ligature l) = piece.Solid l.character.width
shared_piece (Mark text) = piece.Solid (pos 0)

-- how far a text reaches; where that is no dimension it counts as the greatest, since no line with such a text can be packed
abbrev pub held : ℤ → ℤ
held size = int_max (int_min size (pos 1073741823)) (negsuc 1073741822)

abbrev pub further : ℤ → Item → ℤ
further width item = held (width +ℤ advance Horizontal item)

abbrev pub text_width : List Item → ℤ
text_width text = fold further (pos 0) text

abbrev pub width_unless_empty : List Item → Option ℤ
width_unless_empty [] = None
width_unless_empty (item ∷ rest) = Some (text_width (item ∷ rest))

-- a no-break text that would reach beyond the list ends with it
abbrev pub discretionary_piece : ℕ → BreakHead → List Item → List Item → Piece
discretionary_piece left head before behind =
    piece.Discretionary
    (record {
      before = width_unless_empty before;
      behind = width_unless_empty behind;
      replaced = min head.replaced left;
      hyphenated = head.hyphenated;
    })

-- the piece of an item that has so many behind it
abbrev pub piece_of : ℕ → Item → Piece
piece_of left (plain p) = plain_piece p
piece_of left (shared s) = shared_piece s
piece_of left (boxed shift head inner) = piece.Solid head.width
piece_of left (discretionary head before behind) = discretionary_piece left head (list_from before) (list_from behind)
piece_of left (adjustment inner) = piece.Solid (pos 0)
piece_of left (insertion head inner) = piece.Solid (pos 0)
piece_of left (box_leaders head repeated inner) = piece.Glue head.glue

-- the pieces of an ended list, one for each item, and the penalty that forces the last break, which leaves nothing in the list
abbrev pub pieces_of : List Item → List Piece
pieces_of [] = piece.Penalty (negsuc 9999) ∷ []
pieces_of (item ∷ rest) = piece_of (length rest) item ∷ pieces_of rest
