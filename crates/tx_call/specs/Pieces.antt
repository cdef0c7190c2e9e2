-- What is put out of a run, and of a document that was made.
use Rattle.std.specs.Prelude.{ℕ, List, [], ◌∷◌, ◌++◌, codes}
use Rattle.tx_io.specs.Output.{Piece, Save}
use Rattle.tx_dvi.specs.Page.{Page}
use Rattle.tx_dvi.specs.Dvi.{dvi}
use Rattle.tx_machine.specs.declared.types.Ran.{Ran}
use Rattle.tx_session.specs.Held.{transcript}
use Rattle.tx_gen.specs.declared.made.Made.{Made}

-- the pages as a DVI file, if there is one
abbrev pub dvi_pieces : List ℕ → List Page → List Piece
dvi_pieces name [] = []
dvi_pieces name (first ∷ others) = Save (name ++ codes ".dvi") (dvi (first ∷ others)) ∷ []

-- the whole transcript
abbrev pub log_pieces : List ℕ → Ran → List Piece
log_pieces name ran = Save (name ++ codes ".log") (transcript ran) ∷ []

-- what is saved of a run under a name
abbrev pub saved_pieces : List ℕ → Ran → List Piece
saved_pieces name ran = dvi_pieces name ran.pages ++ log_pieces name ran

-- the files of a document that was made
abbrev pub made_files : Made → List Piece
made_files made = Save (codes "book.tex") made.book ∷ Save (codes "gen.tfm") made.font ∷ Save (codes "gen.vtx") made.script ∷ []
