-- What groups change seldom: how a character gets a code, and what is compared.
use Rattle.std.specs.Prelude.{◌≡◌, ℕ, ℤ, slice_set}
use Rattle.tx_prim.specs.declared.family.CharacterCode.{CharacterCode}
use Rattle.tx_prim.specs.declared.family.CharacterCode.TheVariants.{LowerCase, UpperCase, SpaceFactor, Math, Delimiter}
use Rattle.tx_eqtb.specs.declared.seldom.Seldom.{Seldom}

-- a character with another code of a kind
abbrev pub with_code : Seldom → CharacterCode → ℕ → ℤ → Seldom
with_code seldom LowerCase code value = record seldom { lower_case = slice_set seldom.lower_case code value }
with_code seldom UpperCase code value = record seldom { upper_case = slice_set seldom.upper_case code value }
with_code seldom SpaceFactor code value = record seldom { space_factors = slice_set seldom.space_factors code value }
with_code seldom Math code value = record seldom { math = slice_set seldom.math code value }
with_code seldom Delimiter code value = record seldom { delimiters = slice_set seldom.delimiters code value }

-- all characters have the same codes in both
pub record HasSameCodes (some other : Seldom) : Type 0 where
  pub lower_case : some.lower_case ≡ other.lower_case
  pub upper_case : some.upper_case ≡ other.upper_case
  pub space_factors : some.space_factors ≡ other.space_factors
  pub math : some.math ≡ other.math
  pub delimiters : some.delimiters ≡ other.delimiters

-- all registers and parameters of glue hold the same in both
pub record HasSameGlue (some other : Seldom) : Type 0 where
  pub skips : some.skips ≡ other.skips
  pub muskips : some.muskips ≡ other.muskips
  pub glue_parameters : some.glue_parameters ≡ other.glue_parameters
