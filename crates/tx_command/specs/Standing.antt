-- Whether a command may stand in a mode, before anything of it is read (TeX: The Program, section 1045).
use Rattle.tx_char.specs.declared.category.Cat.{Cat}
use Rattle.tx_char.specs.declared.category.Cat.TheVariants as category
use Rattle.tx_prim.specs.declared.modes.Mode.{Mode}
use Rattle.tx_prim.specs.declared.modes.Modes.{Modes}
use Rattle.tx_prim.specs.declared.modes.Modes.TheVariants.{All, NotVertical, Math, Nowhere}
use Rattle.tx_prim.specs.declared.modes.Standing.{Standing}
use Rattle.tx_prim.specs.Modes.{standing}
use Rattle.tx_prim.specs.Table.{modes_of}
use Rattle.tx_seen.specs.declared.meaning.Meaning.{Meaning}
use Rattle.tx_seen.specs.declared.meaning.Meaning.TheVariants as meaning

-- in which modes a character may stand, by its category
abbrev pub modes_of_category : Cat → Modes
modes_of_category category.BeginGroup = All
modes_of_category category.EndGroup = All
modes_of_category category.AlignmentTab = All
modes_of_category category.Space = All
modes_of_category category.MathShift = NotVertical
modes_of_category category.Letter = NotVertical
modes_of_category category.Other = NotVertical
modes_of_category category.Superscript = Math
modes_of_category category.Subscript = Math
modes_of_category category.Parameter = Nowhere
modes_of_category category.Escape = Nowhere
modes_of_category category.EndOfLine = Nowhere
modes_of_category category.Ignored = Nowhere
modes_of_category category.Active = Nowhere
modes_of_category category.Comment = Nowhere
modes_of_category category.Invalid = Nowhere

-- in which modes a command may stand, by what its first token means
abbrev pub modes_of_meaning : Meaning → Modes
modes_of_meaning meaning.Undefined = All
modes_of_meaning (meaning.Command command) = modes_of command
modes_of_meaning (meaning.Character code category) = modes_of_category category
modes_of_meaning (meaning.CharacterNumber code) = NotVertical
modes_of_meaning (meaning.MathNumber number) = Math
modes_of_meaning (meaning.CountRegister number) = All
modes_of_meaning (meaning.DimenRegister number) = All
modes_of_meaning (meaning.SkipRegister number) = All
modes_of_meaning (meaning.MuskipRegister number) = All
modes_of_meaning (meaning.ToksRegister number) = All
modes_of_meaning (meaning.Font number) = All
modes_of_meaning (meaning.Expandable e) = All
modes_of_meaning (meaning.Macro m) = All
modes_of_meaning meaning.Held = All

-- what becomes in a mode of a command whose first token means this
abbrev pub standing_in : Mode → Meaning → Standing
standing_in mode meaning = standing (modes_of_meaning meaning) mode
