-- What becomes of texts that are read whole (TeX: The Program, sections 1218, 1226, 1279 and 1288).
use Rattle.std.specs.Prelude.{ℕ, true, false, ◌||◌, List, [], ◌∷◌, ◌++◌, map, Option, Some, None, codes, if◌then◌else◌}
use Rattle.tx_char.specs.declared.tokens.Token.{Token}
use Rattle.tx_node.specs.declared.plain.Shared.TheVariants as large
use Rattle.tx_node.specs.Items.{shared}
use Rattle.tx_eqtb.specs.declared.entry.Entry.TheVariants.{Means}
use Rattle.tx_eqtb.specs.Stack.{assigned as table_assigned}
use Rattle.tx_expand.specs.Expanding.{escape_of}
use Rattle.tx_expand.specs.Turns.{put}
use Rattle.tx_prim.specs.declared.family.CharacterCode.{CharacterCode}
use Rattle.tx_prim.specs.declared.family.CharacterCode.TheVariants.{UpperCase, LowerCase}
use Rattle.tx_prim.specs.declared.family.DefinitionKind.{DefinitionKind}
use Rattle.tx_prim.specs.declared.family.TextUse.{TextUse}
use Rattle.tx_prim.specs.declared.family.TextUse.TheVariants as purposes
use Rattle.tx_prim.specs.declared.primitive.Primitive.TheVariants.{Relax}
use Rattle.tx_seen.specs.declared.error.TexError.TheVariants.{BadHyphenation, ErrorMessage}
use Rattle.tx_seen.specs.declared.meaning.Meaning.TheVariants.{Macro, Command as Command_meaning}
use Rattle.tx_seen.specs.declared.place.Place.{Place}
use Rattle.tx_seen.specs.declared.place.Place.TheVariants.{Name}
use Rattle.tx_assign.specs.declared.types.Change.TheVariants.{Set}
use Rattle.tx_assign.specs.Changes.{carried_out, with_text}
use Rattle.tx_text.specs.Definitions.{Defining as Defined_text}
use Rattle.tx_toklist.specs.Macros.{Definition}
use Rattle.tx_convert.specs.Messages.{printed}
use Rattle.tx_command.specs.declared.types.Prefixes.{Prefixes}
use Rattle.tx_command.specs.Commands.{prefixes_of}
use Rattle.tx_parts.specs.declared.parts.OpenText.{OpenText}
use Rattle.tx_parts.specs.declared.parts.OpenText.TheVariants as texts
use Rattle.tx_state.specs.Ended.{adding, assigning}
use Rattle.tx_state.specs.State.{TexState}
use Rattle.tx_lettering.specs.Hyphens.{excepting, is_late, patterning, words_of}
use Rattle.tx_lettering.specs.Letters.{token_for}
use Rattle.tx_state.specs.Texts.{absorbed_text, is_global, list_text}
use Rattle.tx_state.specs.Outcomes.{Outcome, Leaves, fails, leaves}

-- the list of tokens that is to stand at a place is taken first
abbrev pub in_list : TexState → Place → TexState
in_list s place = record s { text = Some (list_text place) }

-- the macro of a definition that is whole
abbrev pub macro_of : Prefixes → Defined_text → Definition
macro_of prefixes d = record { parameters = d.parameters; signs = d.signs; body = d.body; long = prefixes.long; outer = prefixes.outer }

abbrev pub defining : TexState → Place → DefinitionKind → Defined_text → Outcome
defining s defined kind d =
    assigning s (carried_out s.table (record { place = defined; change = Set (Means (Macro (macro_of (prefixes_of s.head) d))) }) ((prefixes_of s.head).global || is_global kind))

-- a list of tokens that is whole stands at its place
abbrev pub listing : TexState → Place → List Token → Outcome
listing s place tokens = assigning s (carried_out s.table (with_text place tokens) (prefixes_of s.head).global)

-- the line of a message
unfoldable pub message : List ℕ → List ℕ
message text = codes "message " ++ (text ++ 10 ∷ [])

abbrev pub printing : TexState → List Token → Outcome
printing s tokens = Leaves s (message (printed (escape_of s.table) s.table.table.categories s.words.fonts tokens))

-- a text is read next, with the letters that these codes tell
abbrev pub lettering : TexState → CharacterCode → List Token → Outcome
lettering s kind tokens = leaves (record s { reader = put (map (token_for s.table.table kind) tokens) s.reader })

-- a \special has the bytes that its text has when it is read
abbrev pub marking : TexState → List Token → Outcome
marking s tokens = adding s (shared (large.Special (printed (escape_of s.table) s.table.table.categories s.words.fonts tokens)))

-- what becomes of a text in braces
abbrev pub using_text : TexState → TextUse → List Token → Outcome
using_text s purposes.Message tokens = printing s tokens
using_text s purposes.ErrorMessage tokens = fails ErrorMessage
using_text s purposes.UpperCase tokens = lettering s UpperCase tokens
using_text s purposes.LowerCase tokens = lettering s LowerCase tokens
using_text s purposes.Special tokens = marking s tokens
using_text s purposes.Patterns tokens = patterning s (words_of s.table.table false tokens)
using_text s purposes.Hyphenation tokens = excepting s (words_of s.table.table true tokens)
using_text s purposes.Mark tokens = adding s (shared (large.Mark tokens))

-- a text in braces begins, unless it comes too late
abbrev pub beginning_text : TexState → TextUse → Outcome
beginning_text s purpose =
    if is_late s.hyphenation purpose then fails BadHyphenation else leaves (record s { text = Some (absorbed_text purpose) })

-- what becomes of the text that is whole
abbrev pub ending_text : TexState → Option OpenText → Outcome
ending_text s None = leaves s
ending_text s (Some (texts.Definition defined kind d)) = defining (record s { text = None }) defined kind d
ending_text s (Some (texts.Absorbed purpose a)) = using_text (record s { text = None }) purpose a.tokens
ending_text s (Some (texts.List place a)) = listing (record s { text = None }) place a.tokens

-- the name that \csname has made means \relax from now on, in the innermost group (section 372)
abbrev pub relaxing : TexState → List ℕ → TexState
relaxing s name = record s { table = table_assigned s.table (Name name) (Means (Command_meaning Relax)) }
