-- What a formula is set by, as the table has it (TeX: The Program, sections 230 and 1195 to 1197).
use Rattle.std.specs.Prelude.{ℕ, List, [], ◌∷◌, unwrap_or}
use Rattle.tx_box.specs.Building.{across}
use Rattle.tx_eqtb.specs.declared.table.Table.{Table}
use Rattle.tx_eqtb.specs.Table.{glue_at, number_at}
use Rattle.tx_math.specs.declared.params.FamilyFonts.{FamilyFonts}
use Rattle.tx_math.specs.declared.params.MathParams.{MathParams}
use Rattle.tx_prim.specs.declared.dimension.DimensionParameter.TheVariants.{Delimitershortfall, Nulldelimiterspace, Scriptspace}
use Rattle.tx_prim.specs.declared.family.MathSize.{MathSize}
use Rattle.tx_prim.specs.declared.family.MathSize.TheVariants.{Text, Script, ScriptScript}
use Rattle.tx_prim.specs.declared.glue.GlueParameter.TheVariants.{Medmuskip, Thickmuskip, Thinmuskip}
use Rattle.tx_prim.specs.declared.integer.IntegerParameter.TheVariants.{Binoppenalty, Delimiterfactor, Relpenalty}
use Rattle.tx_scan.specs.Integers.{byte_of}
use Rattle.tx_seen.specs.declared.place.Place.TheVariants.{Dimension, Family, Glue, Integer}

-- the number of the font of a family at a size
abbrev pub font_at : Table → MathSize → ℕ → ℕ
font_at table size family = unwrap_or (byte_of (number_at table (Family size family))) 0

abbrev pub fonts_of : Table → MathSize → List ℕ
fonts_of table size =
    font_at table size 0 ∷ font_at table size 1 ∷ font_at table size 2 ∷ font_at table size 3 ∷
    font_at table size 4 ∷ font_at table size 5 ∷ font_at table size 6 ∷ font_at table size 7 ∷
    font_at table size 8 ∷ font_at table size 9 ∷ font_at table size 10 ∷ font_at table size 11 ∷
    font_at table size 12 ∷ font_at table size 13 ∷ font_at table size 14 ∷ font_at table size 15 ∷ []

abbrev pub families_of : Table → FamilyFonts
families_of table = record { text = fonts_of table Text; script = fonts_of table Script; script_script = fonts_of table ScriptScript }

abbrev pub math_params : Table → MathParams
math_params table = record {
  families = families_of table;
  thin_mu_skip = glue_at table (Glue Thinmuskip);
  med_mu_skip = glue_at table (Glue Medmuskip);
  thick_mu_skip = glue_at table (Glue Thickmuskip);
  null_delimiter_space = number_at table (Dimension Nulldelimiterspace);
  delimiter_factor = number_at table (Integer Delimiterfactor);
  delimiter_shortfall = number_at table (Dimension Delimitershortfall);
  script_space = number_at table (Dimension Scriptspace);
  bin_op_penalty = number_at table (Integer Binoppenalty);
  rel_penalty = number_at table (Integer Relpenalty);
  packing = across table;
}
