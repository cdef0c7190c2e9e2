-- Texts with other letters (TeX: The Program, section 1289).
use Rattle.std.specs.Prelude.{ℕ, zero, suc, Option, None, Some}
use Rattle.tx_char.specs.declared.tokens.Token.{Token}
use Rattle.tx_char.specs.declared.tokens.Token.TheVariants as token
use Rattle.tx_eqtb.specs.declared.table.Table.{Table}
use Rattle.tx_eqtb.specs.Table.{number_at}
use Rattle.tx_prim.specs.declared.family.CharacterCode.{CharacterCode}
use Rattle.tx_scan.specs.Integers.{byte_of}
use Rattle.tx_seen.specs.declared.place.Place.TheVariants.{Code}

-- \uppercase and \lowercase put another character for each whose \uccode or \lccode isn't 0, in its category
abbrev pub letter_for : Table → CharacterCode → ℕ → ℕ
letter_for table kind code = by (byte_of (number_at table (Code kind code)))
  where
    by : Option ℕ → ℕ
    by None = code
    by (Some zero) = code
    by (Some (suc n)) = suc n

abbrev pub token_for : Table → CharacterCode → Token → Token
token_for table kind (token.Character code category) = token.Character (letter_for table kind code) category
token_for table kind (token.Name name) = token.Name name
token_for table kind token.FrozenRelax = token.FrozenRelax
token_for table kind (token.FontIdentifier font) = token.FontIdentifier font
