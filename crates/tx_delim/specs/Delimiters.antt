-- The box of a delimiter (TeX: The Program, sections 706 and 710).
use Rattle.std.specs.Prelude.{ℕ, ℤ, List, Option, Some, None, Result, Ok}
use Rattle.tx_node.specs.Items.{PackedBox}
use Rattle.tx_tfm.specs.declared.file.Word.{Word}
use Rattle.tx_tfm.specs.declared.state.FontState.{FontState}
use Rattle.tx_delim.specs.declared.error.DelimError.{DelimError}
use Rattle.tx_delim.specs.declared.search.FontCharacter.{FontCharacter}
use Rattle.tx_delim.specs.Boxes.{character_box, empty_box}
use Rattle.tx_delim.specs.Searching.{recipe_in}
use Rattle.tx_delim.specs.Stacking.{stack_box}

-- of a character, which is built by its recipe, if it has one, as tall as is asked
abbrev pub built_by : List FontState → ℤ → ℕ → ℕ → Option Word → Result PackedBox DelimError
built_by fonts asked font code None = character_box fonts font code
built_by fonts asked font code (Some recipe) = stack_box fonts font recipe asked

abbrev pub built : List FontState → ℤ → ℕ → ℕ → Result PackedBox DelimError
built fonts asked font code = built_by fonts asked font code (recipe_in fonts font code)

-- of the character that was found, or an empty box of this width where none was
abbrev pub delimiter_box : List FontState → ℤ → ℤ → Option FontCharacter → Result PackedBox DelimError
delimiter_box fonts asked null None = Ok (empty_box null)
delimiter_box fonts asked null (Some c) = built fonts asked c.font c.code
