-- What the DVI file is told of one page.
use Rattle.std.specs.Prelude.{◌≡◌, ℕ, ◌≤◌, ℤ, List, length}
use Rattle.std.specs.List.{All}
use Rattle.tx_dvi.specs.declared.font.FontDefinition.{FontDefinition}
use Rattle.tx_dvi.specs.declared.page.DateParameters.{DateParameters}

pub record Page : Type 0 where
  -- the commands between bop and eop
  pub body : List ℕ
  -- the fonts that these define, in their order
  pub fonts : List FontDefinition
  -- \count0 to \count9
  pub counts : List ℤ
  -- its height plus its depth plus \voffset, and its width plus \hoffset, in sp
  pub height : ℤ
  pub width : ℤ
  -- the greatest nesting of boxes below the page box
  pub nesting : ℕ
  -- \mag, and the date, as they stood at the \shipout
  pub mag : ℕ
  pub date : DateParameters

-- the length of the name of a font fits one byte
abbrev pub IsNamed : FontDefinition → Type 0
IsNamed font = length font.name ≤ 255

-- the bounds that a page keeps, so that places in the file fit 31 bits, the nesting two bytes, and the lengths of the names of
-- its fonts one
pub record InRange (size : ℕ) (fonts : List FontDefinition) (counts nesting mag : ℕ) : Type 0 where
  pub body : size ≤ 200000
  pub names : All IsNamed fonts
  pub ten : counts ≡ 10
  pub nested : nesting ≤ 500
  pub mag_least : 1 ≤ mag
  pub mag_most : mag ≤ 32768
