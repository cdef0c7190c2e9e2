-- How wide pieces are together, and how far they stretch and shrink (TeX: The Program, sections 822 to 827).
use Rattle.std.specs.Prelude.{ℕ, zero, suc, ◌≤◌, ℤ, pos, ◌+ℤ◌, ◌-ℤ◌, unsigned_abs, List, [], ◌∷◌}
use Rattle.tx_num.specs.Glue.{GlueSpec}
use Rattle.tx_linebreak.specs.declared.piece.Piece.{Piece}
use Rattle.tx_linebreak.specs.declared.piece.Piece.TheVariants.{Solid, Kern, Glue, Penalty, Discretionary as Disc, MathOn, MathOff}
use Rattle.tx_linebreak.specs.declared.totals.Totals.{Totals}

-- a width that can't move
abbrev pub rigid : ℤ → Totals
rigid width = record { width = width; stretch = pos 0; fil = pos 0; fill = pos 0; filll = pos 0; shrink = pos 0 }

-- a width that stretches in an order, from normal to filll, and shrinks
abbrev pub elastic : ℤ → ℤ → ℕ → ℤ → Totals
elastic width stretch zero shrink = record (rigid width) { stretch = stretch; shrink = shrink }
elastic width stretch (suc zero) shrink = record (rigid width) { fil = stretch; shrink = shrink }
elastic width stretch (suc (suc zero)) shrink = record (rigid width) { fill = stretch; shrink = shrink }
elastic width stretch (suc (suc (suc order))) shrink = record (rigid width) { filll = stretch; shrink = shrink }

abbrev pub glue_totals : GlueSpec → Totals
glue_totals glue = elastic glue.width glue.stretch glue.stretch_order glue.shrink

-- what one piece has, where it isn't a break
abbrev pub piece_totals : Piece → Totals
piece_totals (Solid width) = rigid width
piece_totals (Kern width) = rigid width
piece_totals (Glue glue) = glue_totals glue
piece_totals (Penalty penalty) = rigid (pos 0)
piece_totals (Disc d) = rigid (pos 0)
piece_totals (MathOn width) = rigid width
piece_totals (MathOff width) = rigid width

-- two totals together
abbrev pub both : Totals → Totals → Totals
both a b = record {
  width = a.width +ℤ b.width;
  stretch = a.stretch +ℤ b.stretch;
  fil = a.fil +ℤ b.fil;
  fill = a.fill +ℤ b.fill;
  filll = a.filll +ℤ b.filll;
  shrink = a.shrink +ℤ b.shrink;
}

-- the first without the second
abbrev pub less : Totals → Totals → Totals
less a b = record {
  width = a.width -ℤ b.width;
  stretch = a.stretch -ℤ b.stretch;
  fil = a.fil -ℤ b.fil;
  fill = a.fill -ℤ b.fill;
  filll = a.filll -ℤ b.filll;
  shrink = a.shrink -ℤ b.shrink;
}

-- each of these is at most so much, either way
pub record IsWithin (bound : ℕ) (t : Totals) : Type 0 where
  pub width_in : unsigned_abs t.width ≤ bound
  pub stretch_in : unsigned_abs t.stretch ≤ bound
  pub fil_in : unsigned_abs t.fil ≤ bound
  pub fill_in : unsigned_abs t.fill ≤ bound
  pub filll_in : unsigned_abs t.filll ≤ bound
  pub shrink_in : unsigned_abs t.shrink ≤ bound

-- what the pieces of a list have together
abbrev pub totals_of : List Piece → Totals
totals_of [] = rigid (pos 0)
totals_of (piece ∷ pieces) = both (piece_totals piece) (totals_of pieces)
