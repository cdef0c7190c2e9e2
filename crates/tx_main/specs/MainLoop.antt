-- What the main loop of horizontal lists makes of characters and spaces (TeX: The Program, sections 1034 to 1041).
use Rattle.std.specs.Prelude.{◌≡◌, ℕ, true, [], ◌∷◌, Some}
use Rattle.tx_lex.specs.declared.types.PlainToken.TheVariants.{Set, Blank}
use Rattle.tx_node.specs.declared.plain.Plain.TheVariants.{Glue}
use Rattle.tx_node.specs.Items.{plain}
use Rattle.tx_num.specs.Glue.{GlueSpec}
use Rattle.tx_pending.specs.Plain.{IsNext}
use Rattle.tx_tfm.specs.Fonts.{has_character}
use Rattle.tx_word.specs.Collecting.{font_of, joined}
use Rattle.tx_word.specs.Factors.{factor_behind}
use Rattle.tx_word.specs.Spaces.{space_between}
use Rattle.tx_state.specs.State.{TexState}
use Rattle.tx_lettering.specs.Words.{space_code, with_list_factor, with_more, word_ended, word_params}
use Rattle.tx_turn.specs.MainLoop.{behind_plain}

-- a character that is set comes next, and the font of the word has it, where this font is current
pub record IsLetterNext (s : TexState) (font code : ℕ) : Type 0 where
  pub comes : IsNext s.table.table.categories s.reader.input (Set code)
  pub has : has_character s.words.fonts (font_of s.words.word font) code ≡ true

-- the character joins the word, and the space factor of the list is that behind it
abbrev pub lettered : TexState → ℕ → ℕ → ℕ → TexState
lettered s font factor code =
    record (with_list_factor (behind_plain s (Set code)) (factor_behind factor (space_code s.table.table code))) { words = record s.words { word = Some (joined s.words.word font code) } }

-- a space comes next, and is this glue in a list of this space factor
pub record IsSpaceNext (s : TexState) (font factor : ℕ) (glue : GlueSpec) : Type 0 where
  pub comes : IsNext s.table.table.categories s.reader.input Blank
  pub glue_is : space_between s.words.fonts (word_params s.table.table) font factor ≡ Some glue

-- the word ends before it
abbrev pub spaced : TexState → GlueSpec → TexState
spaced s glue = with_more (word_ended (behind_plain s Blank)) (plain (Glue glue) ∷ [])
