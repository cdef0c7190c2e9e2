-- Commands that are one token, behind which nothing is read (TeX: The Program, sections 1030, 1045, 1063 and 1090).
use Rattle.std.specs.Prelude.{◌≡◌, ℕ, pos, [], ◌∷◌}
use Rattle.tx_char.specs.declared.category.Cat.{Cat}
use Rattle.tx_prim.specs.declared.modes.Mode.{Mode}
use Rattle.tx_prim.specs.declared.modes.Standing.TheVariants.{Stands}
use Rattle.tx_prim.specs.declared.primitive.Primitive.{Primitive}
use Rattle.tx_seen.specs.declared.item.Item.TheVariants.{Took}
use Rattle.tx_seen.specs.declared.meaning.Meaning.{Meaning}
use Rattle.tx_seen.specs.declared.meaning.Meaning.TheVariants as meaning
use Rattle.tx_seen.specs.declared.seen.Seen.{Seen}
use Rattle.tx_seen.specs.Readings.{Done}
use Rattle.tx_reading.specs.declared.single.AtOnce.{AtOnce}
use Rattle.tx_reading.specs.declared.single.AtOnce.TheVariants as at_once
use Rattle.tx_command.specs.declared.types.Command.{Command}
use Rattle.tx_command.specs.declared.types.Command.TheVariants as command_of
use Rattle.tx_command.specs.Begun.{Begun}
use Rattle.tx_command.specs.Commands.{command, command_meant}
use Rattle.tx_command.specs.Standing.{standing_in}

-- the command that it is
abbrev pub whole : AtOnce → Command
whole (at_once.Character code) = command_of.Character code
whole at_once.Space = command_of.Space
whole at_once.BeginGroup = command_of.BeginGroup
whole at_once.EndGroup = command_of.EndGroup
whole at_once.BeginSemiSimple = command_of.BeginSemiSimple
whole at_once.EndSemiSimple = command_of.EndSemiSimple
whole at_once.MathShift = command_of.MathShift
whole (at_once.Script part) = command_of.Script part
whole (at_once.MathCharacter number) = command_of.MathCharacter (pos number)
whole at_once.Nothing = command_of.Nothing
whole (at_once.Prefix prefix) = command_of.Prefix prefix
whole at_once.EndParagraph = command_of.EndParagraph
whole (at_once.Indent how) = command_of.Indent how
whole at_once.ControlSpace = command_of.ControlSpace
whole at_once.ItalicCorrection = command_of.ItalicCorrection
whole at_once.DiscretionaryHyphen = command_of.DiscretionaryHyphen
whole (at_once.Remove kind) = command_of.Remove kind

-- the meanings of a character and of a primitive
abbrev pub character : ℕ → Cat → Meaning
character code category = meaning.Character code category

abbrev pub primitive_meaning : Primitive → Meaning
primitive_meaning primitive = meaning.Command primitive

-- a token that means this is that command, behind which nothing is read
pub record IsAlone (meant : Meaning) (found : AtOnce) : Type 0 where
  pub is : command_meant meant [] ≡ Done (whole found) []

-- the same in a mode, where it is carried out
pub record IsAloneIn (mode : Mode) (meant : Meaning) (found : AtOnce) : Type 0 where
  pub stands : standing_in mode meant ≡ Stands
  pub is : command_meant meant [] ≡ Done (whole found) []

-- where nothing is taken yet, a token is that command
pub record IsWhole (before : Begun) (t : Seen) (found : AtOnce) : Type 0 where
  pub between : before.taken ≡ []
  pub is : command before.mode before.head (Took t ∷ []) ≡ Done (whole found) []
