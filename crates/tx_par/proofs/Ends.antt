-- The pieces of an ended list end as line breaking asks.
use Rattle.std.proofs.Common.{◌≡◌, ℕ, ℤ, zero, suc, ◌-◌, ◌≤◌, List, [], ◌∷◌, length, Some, refl, sym, ap, ◌∙◌, arith, negsuc}
use Rattle.std.specs.Prelude.{slice_get}
use Rattle.std.proofs.lemmas.List.{length-map}
use Rattle.tx_linebreak.specs.declared.piece.Piece.{Piece}
use Rattle.tx_linebreak.specs.declared.piece.Piece.TheVariants.{Solid, Kern, Glue, Penalty, Discretionary as Disc, MathOn, MathOff}
use Rattle.tx_linebreak.specs.Breaks.{behind, behind_piece, context_from, outset}
use Rattle.tx_linebreak.specs.Chosen.{IsEnded}
use Rattle.tx_node.specs.declared.node.Node.{Node}
use Rattle.tx_node.specs.declared.plain.KernKind.{KernKind}
use Rattle.tx_node.specs.declared.plain.KernKind.TheVariants as kerns
use Rattle.tx_node.specs.declared.plain.Plain.TheVariants as plains
use Rattle.tx_node.specs.declared.plain.Shared.TheVariants as larges
use Rattle.tx_node.specs.Items.{Item, plain, shared, boxed, discretionary, adjustment, insertion, box_leaders}
use Rattle.tx_node.specs.Nodes.{item_of, list_of}
use Rattle.tx_par.specs.Pieces.{kern_piece, piece_of, pieces_of}

-- what is said of a place
abbrev type_of : {A : Type 0} → A → Type 0
type_of {A = A} a = A

abbrev Context : Type 0
Context = type_of outset

-- one piece for each item, and one more
pub pieces-length : (items : List Item) → length (pieces_of items) ≡ suc (length items)
pieces-length [] = refl
pieces-length (item ∷ rest) = ap suc (pieces-length rest)

-- how many pieces a piece replaces
replaces : Piece → ℕ
replaces (Solid w) = 0
replaces (Kern w) = 0
replaces (Glue g) = 0
replaces (Penalty n) = 0
replaces (Disc d) = d.replaced
replaces (MathOn w) = 0
replaces (MathOff w) = 0

-- no more than so many are behind it
few-kern : (left : ℕ) (kind : KernKind) (size : ℤ) → replaces (kern_piece kind size) ≤ left
unfolding replaces
few-kern left kerns.Implicit size = omega arith
few-kern left kerns.Accent size = omega arith
few-kern left kerns.Explicit size = omega arith
few-kern left kerns.MathOn size = omega arith
few-kern left kerns.MathOff size = omega arith

few : (left : ℕ) (item : Item) → replaces (piece_of left item) ≤ left
unfolding replaces
few left (plain (plains.Kern kind size)) = few-kern left kind size
few left (plain (plains.Glue g)) = omega arith
few left (plain (plains.Penalty n)) = omega arith
few left (plain (plains.Character c)) = omega arith
few left (shared (larges.Rule r)) = omega arith
few left (shared (larges.Leaders l)) = omega arith
few left (shared (larges.Special text)) = omega arith
few left (shared (larges.Ligature l)) = omega arith
few left (shared (larges.Mark text)) = omega arith
few left (boxed shift head inner) = omega arith
few left (discretionary head before behind) = omega arith
few left (adjustment inner) = omega arith
few left (insertion head inner) = omega arith
few left (box_leaders head repeated inner) = omega arith

fewer-by : (n : ℕ) (context : Context) (piece : Piece) (left : ℕ) → n ≡ context.replaced → n ≤ suc left → replaces piece ≤ left → (behind_piece n context piece).replaced ≤ left
unfolding replaces
fewer-by (suc n) context piece left is within of_piece = omega (arith, within)
fewer-by zero context (Solid w) left is within of_piece = omega (arith, is)
fewer-by zero context (Kern w) left is within of_piece = omega (arith, is)
fewer-by zero context (Glue g) left is within of_piece = omega (arith, is)
fewer-by zero context (Penalty n) left is within of_piece = omega (arith, is)
fewer-by zero context (Disc d) left is within of_piece = of_piece
fewer-by zero context (MathOn w) left is within of_piece = omega (arith, is)
fewer-by zero context (MathOff w) left is within of_piece = omega (arith, is)

-- at the list's end no no-break text goes on
at-end : (items : List Item) (context : Context) → context.replaced ≤ length items → (context_from context (pieces_of items) (length items)).replaced ≡ 0
at-end [] context within = omega (arith, within)
at-end (item ∷ rest) context within =
    at-end rest (behind context (piece_of (length rest) item))
    (fewer-by context.replaced context (piece_of (length rest) item) (length rest) refl within (few (length rest) item))

last-piece : (items : List Item) → slice_get (pieces_of items) (length items) ≡ Some (Penalty (negsuc 9999))
last-piece [] = refl
last-piece (item ∷ rest) = last-piece rest

one-less : (items : List Item) → length items ≡ length (pieces_of items) - 1
one-less items = omega (arith, pieces-length items)

pub pieces-ended : (items : List Item) → IsEnded (pieces_of items)
pieces-ended items = record {
  penalty = negsuc 9999;
  last_is = ap (λ (k : ℕ). slice_get (pieces_of items) k) (sym (one-less items)) ∙ last-piece items;
  forces = refl;
  taken = ap (λ (k : ℕ). (context_from outset (pieces_of items) k).replaced) (sym (one-less items)) ∙ at-end items outset (omega arith);
}

-- there is a piece for each node
pub pieces-enough : (nodes : List Node) (items : List Item) (pieces lent : List Piece) → list_of nodes ≡ items → lent ≡ pieces → pieces ≡ pieces_of items → length nodes ≤ length lent
pieces-enough nodes items pieces lent nodes_are lent_are pieces_are =
    omega (arith, ap (λ (ps : List Piece). length ps) (lent_are ∙ pieces_are), pieces-length items, ap (λ (its : List Item). length its) nodes_are, length-map nodes item_of)
