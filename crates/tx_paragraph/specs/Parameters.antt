-- What a paragraph takes from the table where it ends (TeX: The Program, part 39; The TeXbook, chapter 14).
use Rattle.std.specs.Prelude.{ℤ, negsuc}
use Rattle.tx_eqtb.specs.declared.table.Table.{Table}
use Rattle.tx_eqtb.specs.Table.{glue_at, number_at}
use Rattle.tx_linebreak.specs.declared.params.BreakParams.{BreakParams}
use Rattle.tx_par.specs.declared.params.ParParams.{ParParams}
use Rattle.tx_prim.specs.declared.dimension.DimensionParameter.TheVariants.{Emergencystretch}
use Rattle.tx_prim.specs.declared.glue.GlueParameter.TheVariants.{Leftskip, Parfillskip, Rightskip}
use Rattle.tx_prim.specs.declared.integer.IntegerParameter.{IntegerParameter}
use Rattle.tx_prim.specs.declared.integer.IntegerParameter.TheVariants.{Adjdemerits, Brokenpenalty, Clubpenalty, Displaywidowpenalty, Doublehyphendemerits, Exhyphenpenalty, Finalhyphendemerits, Hyphenpenalty, Interlinepenalty, Linepenalty, Looseness, Pretolerance, Tolerance, Widowpenalty}
use Rattle.tx_seen.specs.declared.place.Place.TheVariants.{Dimension, Glue, Integer}
use Rattle.tx_box.specs.Building.{across}
use Rattle.tx_box.specs.Placing.{leading_of}
use Rattle.tx_paragraph.specs.declared.last_line.LastLine.{LastLine}
use Rattle.tx_paragraph.specs.declared.last_line.LastLine.TheVariants.{OfParagraph, BeforeDisplay}

-- how its lines are broken
abbrev pub breaking_of : Table → BreakParams
breaking_of table = record {
  pretolerance = number_at table (Integer Pretolerance);
  tolerance = number_at table (Integer Tolerance);
  emergency_stretch = number_at table (Dimension Emergencystretch);
  line_penalty = number_at table (Integer Linepenalty);
  hyphen_penalty = number_at table (Integer Hyphenpenalty);
  ex_hyphen_penalty = number_at table (Integer Exhyphenpenalty);
  adj_demerits = number_at table (Integer Adjdemerits);
  double_hyphen_demerits = number_at table (Integer Doublehyphendemerits);
  final_hyphen_demerits = number_at table (Integer Finalhyphendemerits);
  looseness = number_at table (Integer Looseness);
  left_skip = glue_at table (Glue Leftskip);
  right_skip = glue_at table (Glue Rightskip);
}

-- the same for the passes behind the first
abbrev pub later_breaking : BreakParams → BreakParams
later_breaking params = record params { pretolerance = negsuc 0 }

abbrev pub later_params : ParParams → ParParams
later_params params = record params { breaking = later_breaking params.breaking }

-- the penalty before the last line of a paragraph, or before the last one that a displayed formula follows (section 890)
abbrev pub widow_of : LastLine → IntegerParameter
widow_of OfParagraph = Widowpenalty
widow_of BeforeDisplay = Displaywidowpenalty

-- all of it, behind so much \prevdepth
abbrev pub params_of : LastLine → Table → ℤ → ParParams
params_of last table prev_depth = record {
  breaking = breaking_of table;
  packing = across table;
  leading = leading_of table;
  par_fill_skip = glue_at table (Glue Parfillskip);
  inter_line_penalty = number_at table (Integer Interlinepenalty);
  club_penalty = number_at table (Integer Clubpenalty);
  widow_penalty = number_at table (Integer (widow_of last));
  broken_penalty = number_at table (Integer Brokenpenalty);
  prev_depth = prev_depth;
}
