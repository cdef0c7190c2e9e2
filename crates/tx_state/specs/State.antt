-- What TeX's state means: plain data (TeX: The Program, parts 15, 19 and 22).
use Rattle.std.specs.Prelude.{ℕ, ℤ, List, Option}
use Rattle.tx_char.specs.declared.tokens.Token.{Token}
use Rattle.tx_eqtb.specs.declared.eqtb.Eqtb.{Eqtb}
use Rattle.tx_event.specs.declared.types.AskKind.{AskKind}
use Rattle.tx_event.specs.Turns.{Mode as Machine_mode, Ready, Awaits, Halted as Machine_halted}
use Rattle.tx_box.specs.declared.parts.Lists.{Lists}
use Rattle.tx_expand.specs.Reader.{Reader}
use Rattle.tx_prim.specs.declared.modes.Mode.{Mode}
use Rattle.tx_seen.specs.declared.item.Item.{Item}
use Rattle.tx_hyphenate.specs.declared.known.Hyphenation.{Hyphenation}
use Rattle.tx_word.specs.Collecting.{Collecting}
use Rattle.tx_parts.specs.declared.parts.Due.{Due}
use Rattle.tx_parts.specs.declared.parts.KeptToken.{KeptToken}
use Rattle.tx_parts.specs.declared.parts.OpenText.{OpenText}
use Rattle.tx_state.specs.declared.parts.Phase.{Phase}
use Rattle.tx_state.specs.declared.parts.Phase.TheVariants.{Running, Waiting, Halted}
use Rattle.tx_command.specs.declared.types.Head.{Head}
use Rattle.tx_tabular.specs.declared.alignment.Alignment.{Alignment}

-- all that the next turns can depend on
pub record TexState : Type 0 where
  -- the pieces of work that come first, the next one first
  pub due : List Due
  -- how many files are open
  pub files : ℕ
  -- what stands between the files and the commands: what is read before another line is asked for, the expansions that have
  -- begun, and the conditionals that are open
  pub reader : Reader
  -- the text that is being taken, if one is
  pub text : Option OpenText
  -- the mode in which the open command stands, which is that of the list that is being built; what stands before it, and the
  -- tokens and values that it has taken since
  pub mode : Mode
  pub head : Head
  pub taken : List Item
  -- the lists that are being built, one in another, and the boxes that they are to become
  pub lists : Lists
  -- the alignments that are being read, the innermost first
  pub alignments : List Alignment
  -- the fonts, and the word that is open at the end of the innermost list
  pub words : Collecting
  -- the patterns and exceptions of hyphenation, and whether a paragraph began its second pass
  pub hyphenation : Hyphenation
  -- meanings, codes, registers and parameters, with the open groups
  pub table : Eqtb
  -- the tokens that \aftergroup keeps, the last first, and the one that \afterassignment keeps
  pub after_groups : List KeptToken
  pub after_assignment : Option Token
  -- the magnification, once a page has it
  pub magnification : Option ℤ
  -- the numbers of the fonts that the pages define, as the DVI file has them
  pub defined : List ℕ

-- a state as the outside sees it: ready for a turn, waiting for a reply, or done for; of the last nothing else matters
pub data Meaning : Type 0 where
  Runs : TexState → Meaning
  Waits : AskKind → TexState → Meaning
  Stops : Meaning

abbrev pub meaning_in : Phase → TexState → Meaning
meaning_in Running s = Runs s
meaning_in (Waiting kind) s = Waits kind s
meaning_in Halted s = Stops

abbrev pub mode_of : Meaning → Machine_mode
mode_of (Runs s) = Ready
mode_of (Waits kind s) = Awaits kind
mode_of Stops = Machine_halted
