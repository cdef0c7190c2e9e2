-- The use of a macro of which some tokens are taken.
use Rattle.std.specs.Prelude.{List, [], ◌∷◌, ◌++◌}
use Rattle.tx_char.specs.declared.tokens.Token.{Token}
use Rattle.tx_toklist.specs.Macros.{Definition}
use Rattle.tx_macro.specs.Matching as macro

-- the macro, and the tokens behind its name
pub record Use : Type 0 where
  pub definition : Definition
  pub taken : List Token

-- one more token
abbrev pub with_taken : Use → Token → Use
with_taken u t = record { definition = u.definition; taken = u.taken ++ t ∷ [] }

-- what the use comes to
abbrev pub comes_to : Use → macro.Use
comes_to u = macro.use_of u.definition u.taken
