-- Meanings as \meaning prints them (TeX: The Program, sections 262, 292 to 296, 298 and the like, and 472).
use Rattle.std.specs.Prelude.{ℕ, ◌+◌, ◌-◌, ◌||◌, Bool, true, List, [], ◌∷◌, ◌++◌, Option, codes, decimal, flat_map, length, slice_index_or, take, drop, if◌then◌else◌}
use Rattle.std.specs.Fmt.{digits}
use Rattle.tx_char.specs.Character.{character}
use Rattle.tx_char.specs.declared.category.Cat.{Cat}
use Rattle.tx_char.specs.declared.category.Cat.TheVariants as cat
use Rattle.tx_char.specs.declared.tokens.Token.{Token}
use Rattle.tx_char.specs.declared.tokens.Token.TheVariants.{Character, Name, FrozenRelax, FontIdentifier}
use Rattle.tx_prim.specs.Table as primitive
use Rattle.tx_prim.specs.Expandables as expandable
use Rattle.tx_toklist.specs.Macros.{Definition}
use Rattle.tx_toklist.specs.declared.body.Slot.{Slot}
use Rattle.tx_seen.specs.declared.meaning.Meaning.{Meaning}
use Rattle.tx_seen.specs.declared.meaning.Meaning.TheVariants as meaning
use Rattle.tx_prim.specs.declared.expandable.Expandable.TheVariants.{Mark}
use Rattle.tx_prim.specs.declared.expandable.MarkKind.{MarkKind}
use Rattle.tx_prim.specs.declared.primitive.Primitive.TheVariants.{NullFont}
use Rattle.tx_tfm.specs.declared.state.FontState.{FontState}
use Rattle.tx_tfm.specs.Fonts.{font_identifier}
use Rattle.tx_convert.specs.Fonts.{font_text}
use Rattle.tx_convert.specs.Messages.{identifier_text, is_letter_code}
use Rattle.tx_convert.specs.Texts.{escaped, name_text}

-- whether a blank stands behind a name in the text of a macro: there is none behind one character that isn't a letter at this
-- moment
abbrev pub has_blank : List Cat → List ℕ → Bool
has_blank categories (code ∷ []) = is_letter_code categories code
has_blank categories name = true

abbrev pub shown_name : Option ℕ → List Cat → List ℕ → List ℕ
shown_name escape categories name = name_text escape name ++ (if has_blank categories name then character " " ∷ [] else [])

-- a token in the text of a macro: a parameter character is doubled
abbrev pub shown : Option ℕ → List Cat → List FontState → Token → List ℕ
shown escape categories fonts (Character code cat.Parameter) = code ∷ code ∷ []
shown escape categories fonts (Character code _) = code ∷ []
shown escape categories fonts (Name name) = shown_name escape categories name
shown escape categories fonts FrozenRelax = shown_name escape categories (codes "relax")
shown escape categories fonts (FontIdentifier font) = identifier_text escape (font_identifier fonts font)

abbrev pub all_shown : Option ℕ → List Cat → List FontState → List Token → List ℕ
all_shown escape categories fonts tokens = flat_map (shown escape categories fonts) tokens

-- the parameter with this number, and the character that stands for # before it
abbrev pub parameter : ℕ → ℕ → List ℕ
parameter sign number = sign ∷ decimal number

-- the parameters from this number on, each with the tokens behind it
abbrev pub parameters : Option ℕ → List Cat → List FontState → ℕ → List ℕ → List (List Token) → List ℕ
parameters escape categories fonts number (sign ∷ signs) (delimiter ∷ delimiters) =
    parameter sign number ++ all_shown escape categories fonts delimiter ++ parameters escape categories fonts (number + 1) signs delimiters
parameters escape categories fonts number _ _ = []

-- the character that stands for # in the body: that of the last parameter
abbrev pub last_sign : List ℕ → ℕ
last_sign signs = slice_index_or signs (length signs - 1) (character "#")

-- the tokens of a body from this place on, with its parameters where they stand
abbrev pub body_from : Option ℕ → List Cat → List FontState → ℕ → List Token → ℕ → List Slot → List ℕ
body_from escape categories fonts sign tokens from [] = all_shown escape categories fonts (drop from tokens)
body_from escape categories fonts sign tokens from (slot ∷ slots) =
    all_shown escape categories fonts (take (slot.before - from) (drop from tokens))
    ++ parameter sign slot.number
    ++ body_from escape categories fonts sign tokens slot.before slots

-- the prefixes with which a macro was defined
abbrev pub prefixes : Option ℕ → Bool → Bool → List ℕ
prefixes escape long outer =
    (if long then escaped escape (codes "long") else [])
    ++ (if outer then escaped escape (codes "outer") else [])
    ++ (if long || outer then character " " ∷ [] else [])

abbrev pub macro_text : Option ℕ → List Cat → List FontState → Definition → List ℕ
macro_text escape categories fonts m =
    prefixes escape m.long m.outer ++ codes "macro:"
    ++ all_shown escape categories fonts m.parameters.before
    ++ parameters escape categories fonts 1 m.signs m.parameters.delimiters
    ++ codes "->"
    ++ body_from escape categories fonts (last_sign m.signs) m.body.tokens 0 m.body.slots

-- what a character is for TeX, by its category; of the last ones no token is made, and nothing means them
abbrev pub kind_text : Cat → List ℕ
kind_text cat.BeginGroup = codes "begin-group character "
kind_text cat.EndGroup = codes "end-group character "
kind_text cat.MathShift = codes "math shift character "
kind_text cat.AlignmentTab = codes "alignment tab character "
kind_text cat.Parameter = codes "macro parameter character "
kind_text cat.Superscript = codes "superscript character "
kind_text cat.Subscript = codes "subscript character "
kind_text cat.Space = codes "blank space "
kind_text cat.Letter = codes "the letter "
kind_text cat.Other = codes "the character "
kind_text cat.Escape = []
kind_text cat.EndOfLine = []
kind_text cat.Ignored = []
kind_text cat.Active = []
kind_text cat.Comment = []
kind_text cat.Invalid = []

-- a number with 16 as the base
abbrev pub hexadecimal : ℕ → List ℕ
hexadecimal n = character "\"" ∷ digits 16 true n

-- a register, by its number
abbrev pub register : ℕ → List ℕ
register n = decimal n

-- a character, and what it is
abbrev pub character_text : ℕ → Cat → List ℕ
character_text code category = kind_text category ++ code ∷ []

-- a name of a font, by its number
abbrev pub selection : List FontState → ℕ → List ℕ
selection fonts n = codes "select font " ++ font_text fonts n

-- what \meaning prints
abbrev pub meaning_text : Option ℕ → List Cat → List FontState → Meaning → List ℕ
meaning_text escape categories fonts meaning.Undefined = codes "undefined"
meaning_text escape categories fonts (meaning.Command NullFont) = selection fonts 0
meaning_text escape categories fonts (meaning.Command p) = escaped escape (primitive.name_of p)
meaning_text escape categories fonts (meaning.Character code category) = character_text code category
meaning_text escape categories fonts (meaning.CharacterNumber n) = escaped escape (codes "char") ++ hexadecimal n
meaning_text escape categories fonts (meaning.MathNumber n) = escaped escape (codes "mathchar") ++ hexadecimal n
meaning_text escape categories fonts (meaning.CountRegister n) = escaped escape (codes "count") ++ register n
meaning_text escape categories fonts (meaning.DimenRegister n) = escaped escape (codes "dimen") ++ register n
meaning_text escape categories fonts (meaning.SkipRegister n) = escaped escape (codes "skip") ++ register n
meaning_text escape categories fonts (meaning.MuskipRegister n) = escaped escape (codes "muskip") ++ register n
meaning_text escape categories fonts (meaning.ToksRegister n) = escaped escape (codes "toks") ++ register n
meaning_text escape categories fonts (meaning.Font n) = selection fonts n
meaning_text escape categories fonts (meaning.Expandable e) = escaped escape (expandable.name_of e)
meaning_text escape categories fonts (meaning.Macro m) = macro_text escape categories fonts m
meaning_text escape categories fonts meaning.Held = escaped escape (codes "relax")

-- what it prints of \topmark and its kin, with the tokens of the mark (section 296)
abbrev pub mark_text : Option ℕ → List Cat → List FontState → MarkKind → List Token → List ℕ
mark_text escape categories fonts kind tokens =
    escaped escape (expandable.name_of (Mark kind)) ++ character ":" ∷ [] ++ all_shown escape categories fonts tokens
