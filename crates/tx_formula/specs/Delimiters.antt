-- Delimiters, radicals, accents, and fractions between delimiters (TeX: The Program, sections 1160 to 1165, 1181 to 1183, 1191 and
-- 1192).
use Rattle.std.specs.Prelude.{ℕ, ◌/◌, nat_le, ℤ, pos, negsuc, List, [], Option, Some, None, Result, Ok, Err, if◌then◌else◌}
use Rattle.tx_box.specs.declared.parts.Lists.{Lists}
use Rattle.tx_box.specs.Formulas.{with_noad}
use Rattle.tx_command.specs.declared.types.Delimiting.{Delimiting}
use Rattle.tx_command.specs.declared.types.Delimiting.TheVariants.{First, Second}
use Rattle.tx_command.specs.declared.types.Head.TheVariants.{Delimiting as Delimiting_head, Fresh, Thickness}
use Rattle.tx_command.specs.Commands.{delimiting_before, part_before}
use Rattle.tx_eqtb.specs.declared.groups.GroupKind.{GroupKind}
use Rattle.tx_eqtb.specs.declared.groups.GroupKind.TheVariants.{MathLeft}
use Rattle.tx_eqtb.specs.Stack.{kind_of}
use Rattle.tx_eqtb.specs.Table.{number_at}
use Rattle.tx_mlist.specs.declared.kinds.AtomKind.TheVariants.{Accent, Radical}
use Rattle.tx_mlist.specs.declared.kinds.FractionHead.{FractionHead}
use Rattle.tx_mlist.specs.Building.{delimited, delimiter_of, plain_head}
use Rattle.tx_mlist.specs.Items.{MathItem}
use Rattle.tx_prim.specs.declared.family.CharacterCode.TheVariants.{Delimiter as Delimiter_code}
use Rattle.tx_prim.specs.declared.family.CodedKind.{CodedKind}
use Rattle.tx_prim.specs.declared.family.CodedKind.TheVariants as coded
use Rattle.tx_prim.specs.declared.family.DelimitedKind.{DelimitedKind}
use Rattle.tx_prim.specs.declared.family.DelimitedKind.TheVariants as between
use Rattle.tx_prim.specs.declared.family.DelimiterUse.{DelimiterUse}
use Rattle.tx_prim.specs.declared.family.DelimiterUse.TheVariants.{Fraction, Left, Right}
use Rattle.tx_seen.specs.declared.error.TexError.{TexError}
use Rattle.tx_seen.specs.declared.error.TexError.TheVariants.{ExtraGroupEnd, MissingDelimiter, NumberOutOfRange}
use Rattle.tx_seen.specs.declared.place.Place.TheVariants.{Code}
use Rattle.tx_state.specs.State.{TexState}
use Rattle.tx_state.specs.Outcomes.{Outcome, fails, leaves}
use Rattle.tx_formula.specs.Atoms.{atom_begun, dividing}
use Rattle.tx_formula.specs.Characters.{code_of, letter_now, lettering}
use Rattle.tx_formula.specs.Groups.{behind_formula, opening_formula}
use Rattle.tx_formula.specs.Lists.{beside, ended_list, given}

-- \left and its kin: a delimiter is to follow
abbrev pub awaiting : TexState → DelimiterUse → Outcome
awaiting s what = leaves (record s { head = Delimiting_head (First what) })

-- the number of a delimiter has 27 bits: \delcode has 24 of them, and is negative where the character is none (section 1160)
abbrev pub wide_code : ℤ → Option ℕ
wide_code (pos n) = if nat_le n 134217727 then Some n else None
wide_code (negsuc n) = None

-- a fraction between delimiters, whose numbers are these
abbrev pub delimited_head : Option ℤ → ℕ → ℕ → FractionHead
delimited_head thickness left right = record { thickness = thickness; left = delimiter_of left; right = delimiter_of right }

-- nothing stands before the next command
abbrev pub freshened : TexState → TexState
freshened s = record s { head = Fresh; taken = [] }

-- a fraction that is whole but for its denominator, or nothing
abbrev pub divided_if : TexState → Option FractionHead → Outcome
divided_if s None = leaves s
divided_if s (Some head) = dividing s head

abbrev pub divided_between : TexState → DelimitedKind → ℕ → ℕ → Outcome
divided_between s between.Over left right = dividing (freshened s) (delimited_head None left right)
divided_between s between.Atop left right = dividing (freshened s) (delimited_head (Some (pos 0)) left right)
divided_between s between.Above left right = leaves (record s { head = Thickness left right })

-- a fraction whose line is so thick: that of \above, or of \abovewithdelims where its delimiters stand before the size
abbrev pub lining : TexState → ℤ → Option (ℕ × ℕ) → Outcome
lining s size None = dividing s (plain_head (Some size))
lining s size (Some (left, right)) = dividing (freshened s) (delimited_head (Some size) left right)

-- the list between \left and \right, with these delimiters, is an Inner (section 1191), which joins the list around
abbrev pub delimited_by : ℕ → ℕ → Result (List MathItem × Lists) TexError → Result (MathItem × Lists) TexError
delimited_by left right (Err error) = Err error
delimited_by left right (Ok ended) = beside ended.1 (given (delimited (delimiter_of left) (delimiter_of right) ended.0))

abbrev pub inner_joined : Result (MathItem × Lists) TexError → Result Lists TexError
inner_joined (Err error) = Err error
inner_joined (Ok made) = Ok (with_noad made.0 made.1)

abbrev pub ended_between : ℕ → ℕ → Lists → Result Lists TexError
ended_between left right lists = inner_joined (delimited_by left right (ended_list lists))

-- and its group ends
abbrev pub inner_put : TexState → Lists → TexState
inner_put s lists = record (behind_formula s lists) { head = Fresh }

abbrev pub inner_given : TexState → Result Lists TexError → Outcome
inner_given s (Err error) = fails error
inner_given s (Ok lists) = leaves (inner_put s lists)

-- \right ends the list that \left began, if its group is the innermost one (section 1192)
abbrev pub ending_left : TexState → ℕ → Option GroupKind → Outcome
ending_left s right (Some (MathLeft left)) = inner_given s (ended_between left right s.lists)
ending_left s right other = fails ExtraGroupEnd

-- a delimiter of this number is there: behind \left it begins a list in a group of its own, which keeps the number
abbrev pub delimiting_first : TexState → ℕ → DelimiterUse → Outcome
delimiting_first s n Left = opening_formula s (MathLeft n)
delimiting_first s n Right = ending_left s n (kind_of s.table)
delimiting_first s n (Fraction kind) = leaves (record s { head = Delimiting_head (Second kind n) })

abbrev pub delimiting : TexState → ℕ → Delimiting → Outcome
delimiting s n (First what) = delimiting_first s n what
delimiting s n (Second kind left) = divided_between s kind left n

-- a character is the delimiter of its \delcode
abbrev pub delimiter_found : TexState → Delimiting → Option ℕ → Outcome
delimiter_found s what None = fails MissingDelimiter
delimiter_found s what (Some n) = delimiting s n what

abbrev pub delimiting_character : TexState → ℕ → Delimiting → Outcome
delimiting_character s code what = delimiter_found s what (wide_code (number_at s.table.table (Code Delimiter_code code)))

-- \delimiter is the delimiter that is awaited, or else the character of its first 15 bits (section 1154)
abbrev pub delimiter_or_letter : TexState → ℕ → Option Delimiting → Outcome
delimiter_or_letter s n None = lettering s (part_before s.head) (n / 4096)
delimiter_or_letter s n (Some what) = delimiting s n what

abbrev pub delimiter_by : TexState → Option ℕ → Outcome
delimiter_by s None = fails NumberOutOfRange
delimiter_by s (Some n) = delimiter_or_letter s n (delimiting_before s.head)

-- \radical and \mathaccent: an atom with a sign or an accent, whose nucleus is to follow (sections 1163 and 1165)
abbrev pub radical_by : TexState → Option ℕ → Outcome
radical_by s None = fails NumberOutOfRange
radical_by s (Some n) = atom_begun s (Radical (delimiter_of n))

abbrev pub accent_by : TexState → Option ℕ → Outcome
accent_by s None = fails NumberOutOfRange
accent_by s (Some code) = atom_begun s (Accent (letter_now s code))

abbrev pub coding : TexState → CodedKind → ℤ → Outcome
coding s coded.Delimiter n = delimiter_by s (wide_code n)
coding s coded.Radical n = radical_by s (wide_code n)
coding s coded.Accent n = accent_by s (code_of n)
