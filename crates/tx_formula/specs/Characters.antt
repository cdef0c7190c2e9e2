-- Characters of formulas (TeX: The Program, sections 1151 to 1155).
use Rattle.std.specs.Prelude.{ℕ, ◌/◌, nat_le, ℤ, pos, negsuc, [], ◌∷◌, Option, Some, None, if◌then◌else◌}
use Rattle.std.specs.Ordering.{int_eq}
use Rattle.tx_char.specs.declared.category.Cat.TheVariants.{Active}
use Rattle.tx_char.specs.declared.tokens.Token.TheVariants as token
use Rattle.tx_command.specs.declared.types.Head.TheVariants.{Fresh}
use Rattle.tx_command.specs.Commands.{part_before}
use Rattle.tx_eqtb.specs.declared.table.Table.{Table}
use Rattle.tx_eqtb.specs.Table.{number_at}
use Rattle.tx_expand.specs.Turns.{put_back}
use Rattle.tx_mlist.specs.declared.kinds.MathCharacter.{MathCharacter}
use Rattle.tx_mlist.specs.Building.{filled, kind_of, letter_of}
use Rattle.tx_mlist.specs.Items.{Part, atom, empty, letter}
use Rattle.tx_prim.specs.declared.family.AtomPart.{AtomPart}
use Rattle.tx_prim.specs.declared.family.CharacterCode.TheVariants.{Math}
use Rattle.tx_prim.specs.declared.integer.IntegerParameter.TheVariants.{Fam}
use Rattle.tx_seen.specs.declared.error.TexError.TheVariants.{NumberOutOfRange}
use Rattle.tx_seen.specs.declared.place.Place.TheVariants.{Code}
use Rattle.tx_state.specs.Ended.{integer}
use Rattle.tx_state.specs.State.{TexState}
use Rattle.tx_state.specs.Outcomes.{Outcome, fails, leaves}
use Rattle.tx_formula.specs.Kinds.{place_of}
use Rattle.tx_formula.specs.Noads.{adding_noad, changed}

-- a number as 4096 times a class, 256 times a family and a character
abbrev pub code_of : ℤ → Option ℕ
code_of (pos n) = if nat_le n 32767 then Some n else None
code_of (negsuc n) = None

-- the character that it tells, for the family that \fam is
abbrev pub letter_in : Table → ℕ → MathCharacter
letter_in table code = letter_of (integer table Fam) code

abbrev pub letter_now : TexState → ℕ → MathCharacter
letter_now s code = letter_in s.table.table code

-- a part of the last atom is there
abbrev pub part_set : TexState → AtomPart → Part → TexState
part_set s p part = record s { head = Fresh; lists = changed (filled (place_of p) part) s.lists }

-- a character is the part that is awaited, or else the nucleus of an atom of its class (section 1155)
abbrev pub lettering : TexState → Option AtomPart → ℕ → Outcome
lettering s (Some p) code = leaves (part_set s p (letter (letter_now s code)))
lettering s None code = adding_noad s (atom (kind_of (code / 4096)) (letter (letter_now s code)) empty empty)

abbrev pub lettering_if : TexState → Option ℕ → Outcome
lettering_if s None = fails NumberOutOfRange
lettering_if s (Some code) = lettering s (part_before s.head) code

-- \mathchar, and what stands for it
abbrev pub setting_number : TexState → ℤ → Outcome
setting_number s n = lettering_if s (code_of n)

-- a character goes by its \mathcode; for 32768 the active character is read in its place (section 1152)
abbrev pub read_active : TexState → ℕ → TexState
read_active s code = record s { reader = put_back (token.Character code Active ∷ []) s.reader }

abbrev pub setting_by : TexState → ℕ → ℤ → Outcome
setting_by s code n = if int_eq n (pos 32768) then leaves (read_active s code) else setting_number s n

abbrev pub setting_character : TexState → ℕ → Outcome
setting_character s code = setting_by s code (number_at s.table.table (Code Math code))
