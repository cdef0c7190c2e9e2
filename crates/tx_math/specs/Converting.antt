-- What of a list that is being set is in code. No public clause speaks of it.
use Rattle.std.specs.Prelude.{◌≡◌, List, map, ◌++◌}
use Rattle.tx_node.specs.Nodes.{item_of}
use Rattle.tx_mlist.specs.declared.kinds.AtomKind.{AtomKind}
use Rattle.tx_mlist.specs.Noads.{math_of}
use Rattle.tx_math.specs.declared.entry.Entry.{Entry as EntryFields}
use Rattle.tx_math.specs.declared.piece.Piece.{Piece as PieceFields}
use Rattle.tx_math.specs.declared.piece.Piece.TheVariants.{Noad, Fence, Restyled, Lone}
use Rattle.tx_math.specs.Composing.{Stepped}
use Rattle.tx_math.specs.Entries.{Entry}
use Rattle.tx_math.specs.Spacing.{Piece, noad, fence, restyled, lone}

-- the entry that is kept with its noad
abbrev pub entry_of : EntryFields → Entry
entry_of e = record { style = e.style; kind = e.kind; joined = e.joined; item = math_of e.noad }

abbrev pub entries_in : List EntryFields → List Entry
entries_in entries = map entry_of entries

-- the piece that is kept with its nodes
abbrev pub piece_in : PieceFields → Piece
piece_in (Noad kind list) = noad kind list
piece_in (Fence kind d) = fence kind d
piece_in (Restyled style) = restyled style
piece_in (Lone node) = lone (item_of node)

abbrev pub pieces_in : List PieceFields → List Piece
pieces_in pieces = map piece_in pieces

-- a step was made: the kind of the atom before the cursor now, what is done with and what is still to be looked at
pub record IsStep (s : Stepped) (before : AtomKind) (done done' rest : List Entry) : Type 0 where
  pub before_is : before ≡ s.before
  pub done_is : done' ≡ done ++ s.done
  pub rest_is : rest ≡ s.rest
