-- The table with which INITEX begins.
use Rattle.std.specs.Prelude.{Bool, ℕ, ℤ, pos, negsuc, ◌+◌, ◌-◌, ◌==◌, ◌&&◌, nat_le, if◌then◌else◌, List, [], ◌++◌, map, replicate}
use Rattle.std.specs.Char.{is_ascii_digit}
use Rattle.std.specs.FinMap.{from_entries}
use Rattle.tx_char.specs.Category.{initial_codes, is_ascii_letter, numbers_below}
use Rattle.tx_name.specs.Names.{Names}
use Rattle.tx_prim.specs.declared.integer.Moment.{Moment}
use Rattle.tx_prim.specs.Integers.{initial_integer, all_integers}
use Rattle.tx_prim.specs.Expandables as expandable
use Rattle.tx_prim.specs.Table.{all, name_of}
use Rattle.tx_prim.specs.declared.family.CharacterCode.{CharacterCode}
use Rattle.tx_prim.specs.declared.family.CharacterCode.TheVariants.{LowerCase, UpperCase, SpaceFactor, Math, Delimiter}
use Rattle.tx_seen.specs.declared.meaning.Meaning.{Meaning}
use Rattle.tx_seen.specs.declared.meaning.Meaning.TheVariants.{Undefined, Command, Expandable}
use Rattle.tx_eqtb.specs.declared.table.Table.{Table}
use Rattle.tx_eqtb.specs.Boxes.{void}
use Rattle.tx_num.specs.Glue.{zero_glue}

-- whether a code is that of A to Z, and of a to z
abbrev pub is_capital : ℕ → Bool
is_capital code = nat_le 65 code && nat_le code 90

abbrev pub is_small : ℕ → Bool
is_small code = nat_le 97 code && nat_le code 122

-- a character's codes (TeX: The Program, sections 230, 232 and 240): \lccode and \uccode pair the letters, \sfcode is 999
-- for capitals, \mathcode is "7000 more for digits and "7100 more for letters, \delcode is 0 for the period
abbrev pub initial_code : CharacterCode → ℕ → ℤ
initial_code LowerCase code = pos (if is_capital code then code + 32 else if is_small code then code else 0)
initial_code UpperCase code = pos (if is_capital code then code else if is_small code then code - 32 else 0)
initial_code SpaceFactor code = pos (if is_capital code then 999 else 1000)
initial_code Math code = pos (if is_ascii_digit code then code + 28672 else if is_ascii_letter code then code + 28928 else code)
initial_code Delimiter code = if code == 46 then pos 0 else negsuc 0

-- the codes of all characters
abbrev pub codes_of : CharacterCode → List ℤ
codes_of kind = map (initial_code kind) (numbers_below 256)

-- the names of the primitives that are expanded
abbrev pub expandable_entries : List (List ℕ × Meaning)
expandable_entries = map (λ e. (expandable.name_of e, Expandable e)) expandable.all

-- each primitive has its name, and every other name is undefined
abbrev pub initial_names : Names Meaning
initial_names = from_entries (map (λ p. (name_of p, Command p)) all ++ expandable_entries)

-- no active character has a meaning, registers are 0 or zero glue, lists of tokens empty, boxes void, \parshape has no lines, \nullfont is the current font and that of each family, and the parameters begin as their table says
unfoldable pub initial_table : Moment → Table
initial_table begun = record {
  names = initial_names;
  active = replicate 256 Undefined;
  categories = initial_codes;
  counts = replicate 256 (pos 0);
  dimens = replicate 256 (pos 0);
  lower_case = codes_of LowerCase;
  upper_case = codes_of UpperCase;
  space_factors = codes_of SpaceFactor;
  math = codes_of Math;
  delimiters = codes_of Delimiter;
  integers = map (initial_integer begun) all_integers;
  dimensions = replicate 21 (pos 0);
  skips = replicate 256 zero_glue;
  muskips = replicate 256 zero_glue;
  glue_parameters = replicate 18 zero_glue;
  token_registers = replicate 256 [];
  token_parameters = replicate 9 [];
  boxes = replicate 256 void;
  families = replicate 48 (pos 0);
  par_shape = [];
  font = 0;
}
