-- What stands between pending input and the one who carries commands out (The TeXbook, chapter 20; TeX: The Program, parts 24, 25
-- and 28 to 30): the input, the expansions that have begun, and the conditionals that are open.
use Rattle.std.specs.Prelude.{ℕ, Option, List}
use Rattle.tx_char.specs.declared.category.Cat.{Cat}
use Rattle.tx_char.specs.declared.tokens.Token.{Token}
use Rattle.tx_pending.specs.Elements.{Input}
use Rattle.tx_prim.specs.declared.expandable.MarkKind.{MarkKind}
use Rattle.tx_prim.specs.declared.modes.Mode.{Mode}
use Rattle.tx_seen.specs.declared.error.TexError.{TexError}
use Rattle.tx_seen.specs.declared.fed.Value.{Value}
use Rattle.tx_seen.specs.declared.meaning.Meaning.{Meaning}
use Rattle.tx_seen.specs.declared.place.FontName.{FontName}
use Rattle.tx_seen.specs.declared.place.Place.{Place}
use Rattle.tx_tfm.specs.declared.state.FontState.{FontState}
use Rattle.tx_cond.specs.declared.types.Conditional.{Conditional}
use Rattle.tx_expand.specs.declared.begun.Begun.{Begun}
use Rattle.tx_expand.specs.declared.types.Expanded.{Expanded}

-- what is around: what tokens mean, what values and which lists of tokens stand at places, the marks that there are, the categories,
-- the escape character if there is one, the fonts and how they are told, the mode
pub record World : Type 0 where
  pub meaning : Token → Meaning
  pub value : Place → Value
  pub tokens : Place → List Token
  pub mark : MarkKind → Option (List Token)
  pub codes : List Cat
  pub escape : Option ℕ
  pub fonts : List FontState
  pub font : FontName → ℕ
  pub mode : Mode

-- the expansions and the conditionals, the innermost first each, and the main file's name
pub record Reader : Type 0 where
  pub input : Input
  pub begun : List Begun
  pub conditionals : List Conditional
  pub job : List ℕ

-- a turn's answer and what is left; or the error that comes
pub data Turn : Type 0 where
  Goes : Expanded → Reader → Turn
  Fails : TexError → Turn
