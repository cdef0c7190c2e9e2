use Rattle.std.proofs.Common.{Bool, Result, Ok, Err, IfOk, List, ◌∷◌, ◌++◌, ◌≡◌, ap, sym, ◌∙◌}
use Rattle.tx_char.specs.declared.category.Cat.{Cat}
use Rattle.tx_pending.specs.declared.next.Next.{Next}
use Rattle.tx_pending.specs.declared.next.Next.TheVariants.{Token, Held, Marker, PartEnd, Used, E1}
use Rattle.tx_pending.specs.declared.source.Source.{Source}
use Rattle.tx_pending.specs.declared.source.Source.TheVariants as source
use Rattle.tx_pending.specs.Elements.{Unread, line_step, list_elements, step_of, stepped}
use Rattle.tx_pending.specs.Sources.{elements_of}
use Rattle.tx_pending.specs.Steps.{Gives, IsLineStep, IsListStep}
use Rattle.tx_pending.specs.Tails.{LineTail, ListTail}
use Rattle.tx_pending.proofs.source.Source.next.Goals as goal

-- what a list gives its source gives
list-gives : {E : Type 0} (codes : List Cat) (closing : Bool) (s : Source) (from to : ListTail) (given : Result Next E) → s ≡ source.List from → IfOk given (λ next. IsListStep from next to) → IfOk given (λ next. Gives codes closing (elements_of s) next (elements_of (source.List to)))
list-gives codes closing s from to (Ok (Token t)) is k = record {
  steps = λ level behind. ap (λ (x : Source). step_of codes closing level (elements_of x ++ behind)) is ∙ ap (λ (l : ListTail). step_of codes closing level (list_elements l.left l.marked ++ behind)) k;
}
list-gives codes closing s from to (Ok (Held t)) is k = absurd k
list-gives codes closing s from to (Ok Marker) is k = record {
  steps = λ level behind.
      ap (λ (x : Source). step_of codes closing level (elements_of x ++ behind)) is
      ∙ ap (λ (l : ListTail). step_of codes closing level (list_elements l.left l.marked ++ behind)) k.0
      ∙ ap (λ (l : ListTail). stepped closing level (list_elements l.left l.marked ++ behind) Marker) (sym k.1);
}
list-gives codes closing s from to (Ok (PartEnd part)) is k = absurd k
list-gives codes closing s from to (Ok (Used close)) is k = absurd k
list-gives codes closing s from to (Ok E1) is k = absurd k
list-gives codes closing s from to (Err e) is k = tt

-- and what a line gives
line-gives : {E : Type 0} (codes : List Cat) (closing : Bool) (s : Source) (from to : LineTail) (given : Result Next E) → s ≡ source.Line from → IfOk given (λ next. IsLineStep codes closing from next to) → IfOk given (λ next. Gives codes closing (elements_of s) next (elements_of (source.Line to)))
line-gives codes closing s from to (Ok (Token t)) is k = record {
  steps = λ level behind.
      ap (λ (x : Source). step_of codes closing level (elements_of x ++ behind)) is
      ∙ ap (line_step closing level (Unread from.unread from.state) behind) k;
}
line-gives codes closing s from to (Ok (Held t)) is k = absurd k
line-gives codes closing s from to (Ok Marker) is k = absurd k
line-gives codes closing s from to (Ok (PartEnd part)) is k = absurd k
line-gives codes closing s from to (Ok (Used close)) is k = record {
  steps = λ level behind.
      ap (λ (x : Source). step_of codes closing level (elements_of x ++ behind)) is
      ∙ ap (line_step closing level (Unread from.unread from.state) behind) k.0
      ∙ ap (λ (told : Bool). stepped closing level behind (Used told)) (sym k.1.0);
}
line-gives codes closing s from to (Ok E1) is k = record {
  steps = λ level behind.
      ap (λ (x : Source). step_of codes closing level (elements_of x ++ behind)) is
      ∙ ap (line_step closing level (Unread from.unread from.state) behind) k.0
      ∙ ap (λ (l : LineTail). stepped closing level (Unread l.unread l.state ∷ behind) E1) (sym k.1);
}
line-gives codes closing s from to (Err e) is k = tt

pub returns-in-List : goal.returns-in-List
returns-in-List g c = list-gives c.args.codes.now c.args.closing c.args.self.now c.in-List.list c.next.new.self c.next.result c.in-List.is c.next.ensures

pub returns-in-Line : goal.returns-in-Line
returns-in-Line g c = line-gives c.args.codes.now c.args.closing c.args.self.now c.in-Line.line c.next-in-Line.new.self c.next-in-Line.result c.in-Line.is c.next-in-Line.ensures
