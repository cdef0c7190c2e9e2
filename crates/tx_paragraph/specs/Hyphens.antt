-- What a paragraph takes from the table where its words are hyphenated (TeX: The Program, sections 891 to 897).
use Rattle.std.specs.Prelude.{ℕ, List, map, unwrap_or}
use Rattle.tx_char.specs.Category.{numbers_below}
use Rattle.tx_eqtb.specs.declared.table.Table.{Table}
use Rattle.tx_eqtb.specs.Table.{number_at}
use Rattle.tx_hyphenate.specs.declared.known.Hyphenation.{Hyphenation}
use Rattle.tx_hyphenate.specs.declared.params.HyphenParams.{HyphenParams}
use Rattle.tx_hyphenate.specs.Hyphenated.{Ways, ways}
use Rattle.tx_prim.specs.declared.family.CharacterCode.TheVariants.{LowerCase}
use Rattle.tx_prim.specs.declared.integer.IntegerParameter.TheVariants.{Lefthyphenmin, Righthyphenmin, Uchyph}
use Rattle.tx_scan.specs.Integers.{byte_of}
use Rattle.tx_seen.specs.declared.place.Place.TheVariants.{Code, Integer}
use Rattle.tx_tfm.specs.declared.state.FontState.{FontState}

-- the \lccodes of all characters
abbrev pub lower_code : Table → ℕ → ℕ
lower_code table code = unwrap_or (byte_of (number_at table (Code LowerCase code))) 0

abbrev pub lower_codes : Table → List ℕ
lower_codes table = map (lower_code table) (numbers_below 256)

-- \lefthyphenmin, \righthyphenmin and \uchyph
abbrev pub hyphen_params : Table → HyphenParams
hyphen_params table = record {
  left = number_at table (Integer Lefthyphenmin);
  right = number_at table (Integer Righthyphenmin);
  uc_hyph = number_at table (Integer Uchyph);
}

-- the fonts, and what is known of hyphenation
pub record Hyphenating : Type 0 where
  pub fonts : List FontState
  pub known : Hyphenation

-- what hyphenation goes by
abbrev pub ways_of : Hyphenating → Table → Ways
ways_of h table = ways h.fonts h.known.hyphens (lower_codes table) (hyphen_params table)
