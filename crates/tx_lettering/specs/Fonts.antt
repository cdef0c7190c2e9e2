-- Fonts that are named, loaded and changed (TeX: The Program, sections 1253 and 1256 to 1260).
use Rattle.std.specs.Prelude.{ℕ, pos, Bool, ◌&&◌, nat_lt, nat_le, List, [], ◌∷◌, ◌++◌, length, Option, Some, None, codes, if◌then◌else◌}
use Rattle.tx_eqtb.specs.declared.entry.Entry.TheVariants.{Means, Number as A_number}
use Rattle.tx_prim.specs.declared.family.MathSize.{MathSize}
use Rattle.tx_prim.specs.declared.integer.IntegerParameter.TheVariants.{Defaulthyphenchar, Defaultskewchar}
use Rattle.tx_prim.specs.declared.primitive.Primitive.TheVariants.{NullFont}
use Rattle.tx_seen.specs.declared.error.TexError.TheVariants.{BadFont}
use Rattle.tx_seen.specs.declared.place.FontName.{FontName}
use Rattle.tx_seen.specs.declared.place.FontName.TheVariants.{Current, Number}
use Rattle.tx_seen.specs.declared.meaning.Meaning.{Meaning}
use Rattle.tx_seen.specs.declared.meaning.Meaning.TheVariants.{Font, Command as Command_meaning}
use Rattle.tx_seen.specs.declared.place.Place.{Place}
use Rattle.tx_seen.specs.declared.place.Place.TheVariants.{Active, Family, Name}
use Rattle.tx_assign.specs.declared.types.Assignment.{Assignment}
use Rattle.tx_assign.specs.declared.types.Change.TheVariants.{Set}
use Rattle.tx_assign.specs.Changes.{carried_out}
use Rattle.tx_tfm.specs.declared.named.NamedFont.{NamedFont}
use Rattle.tx_tfm.specs.declared.state.FontState.{FontState}
use Rattle.tx_tfm.specs.Fonts.{found, loaded_state, with_font_identifier}
use Rattle.tx_tfm.specs.Metrics.{metrics_of}
use Rattle.tx_tfm.specs.Rules.{first_broken}
use Rattle.tx_event.specs.declared.types.Ask.TheVariants.{Whole}
use Rattle.tx_shape.specs.Loading.{size_asked}
use Rattle.tx_shape.specs.declared.types.AskedSize.{AskedSize}
use Rattle.tx_command.specs.declared.types.Head.TheVariants.{Loading}
use Rattle.tx_command.specs.Commands.{prefixes_of}
use Rattle.tx_parts.specs.declared.parts.Due.TheVariants.{LoadFont as LoadFont_due}
use Rattle.tx_parts.specs.declared.parts.FontRequest.{FontRequest}
use Rattle.tx_state.specs.Ended.{assigned, assigning, integer, naming}
use Rattle.tx_state.specs.State.{TexState}
use Rattle.tx_state.specs.Outcomes.{Outcome, Asks, fails, leaves}
use Rattle.tx_lettering.specs.Words.{current_font}

-- \fontdimen, \hyphenchar and \skewchar change the fonts, in all groups (section 1253)
abbrev pub setting_fonts : TexState → List FontState → Outcome
setting_fonts s fonts = leaves (assigned (record s { words = record s.words { fonts = fonts } }))

abbrev pub number_of : TexState → FontName → ℕ
number_of s Current = current_font s.table.table
number_of s (Number n) = n

-- the font of a family at a size (section 1234)
abbrev pub in_family : MathSize → ℕ → ℕ → Assignment
in_family size family font = record { place = Family size family; change = Set (A_number (pos font)) }

abbrev pub setting_family : TexState → MathSize → ℕ → FontName → Outcome
setting_family s size family font = assigning s (carried_out s.table (in_family size family (number_of s font)) (prefixes_of s.head).global)

-- a name has a meaning from now on
abbrev pub meant : Meaning → Place → Assignment
meant meaning place = record { place = place; change = Set (Means meaning) }

-- how the identifier of a font is printed that \font gives this name: as the name, but `FONT` where that has no letters, and
-- before an active character (section 1257)
abbrev pub identifier_of : Place → List ℕ
identifier_of (Name []) = codes "FONT"
identifier_of (Name (code ∷ name)) = code ∷ name
identifier_of (Active code) = codes "FONT" ++ code ∷ []
identifier_of other = []

-- the name of a \font is the identifier of the font of a number from now on, in all groups (section 1257)
abbrev pub identifying : TexState → Place → ℕ → TexState
identifying s defined n = record s { words = record s.words { fonts = with_font_identifier s.words.fonts n (identifier_of defined) } }

-- it means that font too
abbrev pub naming_font : TexState → Place → Bool → ℕ → Outcome
naming_font s defined global n = assigning (identifying s defined n) (carried_out s.table (meant (Font n) defined) global)

-- the file of a font
abbrev pub font_file : List ℕ → List ℕ
font_file name = name ++ codes ".tfm"

-- \font gives the font that has the name and the size, or else asks for its file (sections 1257 to 1260)
abbrev pub finding : TexState → FontRequest → Option ℕ → Outcome
finding s request (Some n) = naming_font s request.defined request.global n
finding s request None = Asks (Whole (font_file request.name)) (record s { due = LoadFont_due request ∷ s.due })

-- a font more, with the hyphen and the skew character of the table (section 576)
abbrev pub font_of_file : FontRequest → List ℕ → NamedFont
font_of_file request bytes = record { name = request.name; font = metrics_of bytes request.size }

abbrev pub with_font : TexState → NamedFont → TexState
with_font s f = record s {
  words = record s.words { fonts = s.words.fonts ++ loaded_state f (integer s.table.table Defaulthyphenchar) (integer s.table.table Defaultskewchar) ∷ [] };
}

-- whether one more can be loaded: 255 at most, and a name has 255 bytes at most
abbrev pub can_load : TexState → List ℕ → Bool
can_load s name = nat_lt (length s.words.fonts) 256 && nat_le (length name) 255

-- the font of a file, if its bytes are those of one (section 560)
abbrev pub loading_as : TexState → FontRequest → List ℕ → Option ℕ → Outcome
loading_as s request bytes (Some rule) = fails BadFont
loading_as s request bytes None = naming_font (with_font s (font_of_file request bytes)) request.defined request.global (length s.words.fonts)

abbrev pub loading_from : TexState → FontRequest → List ℕ → Outcome
loading_from s request bytes = if can_load s request.name then loading_as s request bytes (first_broken bytes request.size) else fails BadFont

-- what comes of the reply, which may be that there is no such file
abbrev pub loading : TexState → FontRequest → Option (List ℕ) → Outcome
loading s request None = fails BadFont
loading s request (Some bytes) = loading_from s request bytes

-- \font and the name that it defines, which means \nullfont until the font is found (section 1257)
abbrev pub defining_font : TexState → Place → Outcome
defining_font s defined =
    naming s (Loading (prefixes_of s.head) defined) (carried_out s.table (meant (Command_meaning NullFont) defined) (prefixes_of s.head).global)

-- \font with all that belongs to it
abbrev pub asking_font : TexState → Place → List ℕ → AskedSize → Outcome
asking_font s defined name asked =
    finding s (record { defined = defined; global = (prefixes_of s.head).global; name = name; size = size_asked asked; file = None })
    (found s.words.fonts name (size_asked asked))
