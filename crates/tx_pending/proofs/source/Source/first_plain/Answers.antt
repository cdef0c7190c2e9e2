use Rattle.std.proofs.Common.{◌≡◌, Option, Some, None, IfSome, List, [], ap, refl, ◌∙◌, drop}
use Rattle.tx_char.specs.declared.category.Cat.{Cat}
use Rattle.tx_char.specs.declared.tokens.Token.{Token}
use Rattle.tx_lex.specs.declared.types.PlainToken.{PlainToken}
use Rattle.tx_lex.specs.Plain.{Begins, plain_token}
use Rattle.tx_pending.specs.declared.source.Source.{Source}
use Rattle.tx_pending.specs.declared.source.Source.TheVariants as source
use Rattle.tx_pending.specs.Elements.{Given, Unread, list_elements}
use Rattle.tx_pending.specs.Sources.{elements_of}
use Rattle.tx_pending.specs.Steps.{BeginsList, BeginsPlain}
use Rattle.tx_pending.specs.Tails.{LineTail, ListTail}
use Rattle.tx_pending.proofs.source.Source.first_plain.Goals as goal

-- a line is the only element of its source
line-begins : (codes : List Cat) (s : Source) (l : LineTail) (found : Option PlainToken) → s ≡ source.Line l → IfSome found (Begins codes l.state l.unread) → IfSome found (BeginsPlain codes (elements_of s))
line-begins codes s l None is begins = tt
line-begins codes s l (Some plain) is begins = record { element = Unread l.unread l.state; behind = []; is = ap elements_of is; first = begins }

-- a list begins with its first token
list-begins : (codes : List Cat) (s : Source) (l : ListTail) (found : Option PlainToken) → s ≡ source.List l → IfSome found (BeginsList codes l.left) → IfSome found (BeginsPlain codes (elements_of s))
list-begins codes s l None is begins = tt
list-begins codes s l (Some plain) is begins = record {
  element = Given (plain_token codes plain);
  behind = list_elements (drop 1 l.left) l.marked;
  is = ap elements_of is ∙ ap (λ (tokens : List Token). list_elements tokens l.marked) begins.1;
  first = (begins.0, refl);
}

pub returns-in-Line : goal.returns-in-Line
returns-in-Line c = line-begins c.args.codes.now c.args.self.now c.in-Line.line c.first_plain.result c.in-Line.is c.first_plain.ensures

pub returns-in-List : goal.returns-in-List
returns-in-List c = list-begins c.args.codes.now c.args.self.now c.in-List.list c.first_plain-in-List.result c.in-List.is c.first_plain-in-List.ensures
