-- What the expander keeps beside the input, and what the table and the lists tell it.
use Rattle.std.specs.Prelude.{ℕ, Option, List}
use Rattle.tx_pending.specs.Elements.{Input}
use Rattle.tx_prim.specs.declared.integer.IntegerParameter.TheVariants.{Escapechar}
use Rattle.tx_prim.specs.declared.modes.Mode.{Mode}
use Rattle.tx_seen.specs.declared.place.Place.TheVariants.{Integer}
use Rattle.tx_scan.specs.Integers.{byte_of}
use Rattle.tx_eqtb.specs.declared.eqtb.Eqtb.{Eqtb}
use Rattle.tx_eqtb.specs.Table.{number_at, token_meaning, tokens_at}
use Rattle.tx_expand.specs.Values.{Lent, font_number, value_now}
use Rattle.tx_output.specs.Marks.{mark_of}
use Rattle.tx_cond.specs.declared.types.Conditional.{Conditional}
use Rattle.tx_expand.specs.declared.begun.Begun.{Begun}
use Rattle.tx_expand.specs.declared.state.Expander.{Expander}
use Rattle.tx_expand.specs.Reader.{World, Reader}

-- the input, and what is open beside it
abbrev pub reader : List Begun → Input → List Conditional → List ℕ → Reader
reader begun input conditionals job = record { input = input; begun = begun; conditionals = conditionals; job = job }

abbrev pub reader_of : Expander → Input → Reader
reader_of e input = reader e.begun input e.conditionals e.job

-- \escapechar is the escape character where it is a character's code (section 243)
abbrev pub escape_of : Eqtb → Option ℕ
escape_of e = byte_of (number_at e.table (Integer Escapechar))

abbrev pub world_of : Lent → Mode → World
world_of known mode = record {
  meaning = token_meaning known.table.table;
  value = value_now known;
  tokens = tokens_at known.table.table;
  mark = λ kind. mark_of kind known.pages.marks;
  codes = known.table.table.categories;
  escape = escape_of known.table;
  fonts = known.fonts;
  font = font_number known;
  mode = mode;
}
