-- Words and spaces as a list (TeX: The Program, sections 1030 to 1045).
use Rattle.std.specs.Prelude.{◌≡◌, List, [], ◌∷◌, ◌++◌}
use Rattle.tx_node.specs.declared.plain.Plain.TheVariants.{Glue}
use Rattle.tx_node.specs.Items.{Item, plain}
use Rattle.tx_num.specs.Glue.{IsGlue}
use Rattle.tx_tfm.specs.declared.state.FontState.{FontState}
use Rattle.tx_word.specs.declared.piece.Piece.{Piece}
use Rattle.tx_word.specs.declared.piece.Piece.TheVariants.{Word, Space}
use Rattle.tx_word.specs.declared.piece.WordParams.{WordParams}
use Rattle.tx_word.specs.Divisions.{IsDivided, IsPlaced}
use Rattle.tx_word.specs.Factors.{IsFactor}
use Rattle.tx_word.specs.Spaces.{interword_glue}

-- what a piece has to be: a word that can have its places, or a space at a space factor
abbrev pub IsPiece : List FontState → Piece → Type 0
IsPiece fonts (Word font chars left right places hyphen) = IsPlaced fonts font chars places
IsPiece fonts (Space font factor) = IsFactor factor

-- a list is what a piece becomes
abbrev pub Makes : List FontState → WordParams → Piece → List Item → Type 0
Makes fonts params (Word font chars left right places hyphen) list = IsDivided fonts font chars left right places hyphen list
Makes fonts params (Space font factor) list = list ≡ plain (Glue (interword_glue fonts params font factor)) ∷ []

-- a list is what pieces become, one behind the other
pub data AreMade (fonts : List FontState) (params : WordParams) : List Piece → List Item → Type 0 where
  Nothing : AreMade fonts params [] []
  Behind : (piece : Piece) (pieces : List Piece) (first behind : List Item)
      → Makes fonts params piece first → AreMade fonts params pieces behind
      → AreMade fonts params (piece ∷ pieces) (first ++ behind)

-- the sizes of a space's glue are dimensions
abbrev pub HasGlue : List FontState → WordParams → Piece → Type 0
HasGlue fonts params (Word font chars left right places hyphen) = Unit {0}
HasGlue fonts params (Space font factor) = IsGlue (interword_glue fonts params font factor)

-- a list with what a piece becomes at its end
pub record WithPiece (fonts : List FontState) (params : WordParams) (piece : Piece) (before after : List Item) : Type 0 where
  pub made : List Item
  pub makes : Makes fonts params piece made
  pub after_is : after ≡ before ++ made
