-- Where the main loop of horizontal lists goes on (TeX: The Program, sections 1034 to 1041): characters that are set follow one
-- another in a line and join the open word, and spaces between them end it, without anything in between. Formulas have none.
use Rattle.std.specs.Prelude.{◌≡◌, ℕ, true, false, [], None}
use Rattle.tx_lex.specs.declared.types.PlainToken.{PlainToken}
use Rattle.tx_lex.specs.Plain.{state_behind}
use Rattle.tx_command.specs.declared.types.Head.TheVariants.{Fresh}
use Rattle.tx_command.specs.Commands.{is_begun}
use Rattle.tx_pending.specs.Plain.{behind_first}
use Rattle.tx_prim.specs.declared.modes.ModeTest.TheVariants.{Horizontal}
use Rattle.tx_prim.specs.Modes.{holds}
use Rattle.tx_state.specs.declared.parts.Phase.TheVariants.{Running}
use Rattle.tx_state.specs.declared.state.State.{State}
use Rattle.tx_state.specs.Meanings.{state_of}
use Rattle.tx_state.specs.State.{TexState}

-- a token is read next, for a command of which nothing is taken, nothing stands before it and no expansion has begun; if it is a
-- character, it is to be set in a horizontal list
pub record AwaitsToken (s : TexState) : Type 0 where
  pub due : s.due ≡ []
  pub text : s.text ≡ None
  pub begun : s.reader.begun ≡ []
  pub head : s.head ≡ Fresh
  pub taken : is_begun s.taken ≡ false
  pub horizontal : holds Horizontal s.mode ≡ true

-- the character at the front is passed
abbrev pub behind_plain : TexState → PlainToken → TexState
behind_plain s first = record s { reader = record s.reader { input = behind_first (state_behind first) s.reader.input } }

-- the main loop may go on from here, where this font is current
pub record IsLooping (s : State) (font : ℕ) : Type 0 where
  pub running : s.phase ≡ Running
  pub awaits : AwaitsToken (state_of s)
  pub font_is : font ≡ s.table.table.font
