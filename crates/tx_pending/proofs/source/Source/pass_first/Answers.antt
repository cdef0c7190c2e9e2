use Rattle.std.proofs.Common.{◌≡◌, Bool, true, false, Option, Some, None, List, [], ◌∷◌, drop, refl, ap, sym, ◌∙◌}
use Rattle.tx_char.specs.declared.tokens.Token.{Token}
use Rattle.tx_lex.specs.declared.types.ReadState.{ReadState}
use Rattle.tx_pending.specs.declared.next.ColumnPart.{ColumnPart}
use Rattle.tx_pending.specs.declared.source.Source.{Source}
use Rattle.tx_pending.specs.declared.source.Source.TheVariants as source
use Rattle.tx_pending.specs.Elements.{list_elements}
use Rattle.tx_pending.specs.Plain.{passed}
use Rattle.tx_pending.specs.Sources.{elements_of}
use Rattle.tx_pending.specs.Tails.{ListTail}
use Rattle.tx_pending.proofs.source.Source.pass_first.Goals as goal

-- a list goes on behind its first token, and a marker stays
passed-tokens : (now : ReadState) (left : List Token) (marked : Bool) → list_elements (drop 1 left) marked ≡ passed now (list_elements left marked)
passed-tokens now [] true = refl
passed-tokens now [] false = refl
passed-tokens now (t ∷ left) marked = refl

passed-list : (now : ReadState) (s : Source) (l new : ListTail) → s ≡ source.List l → new ≡ record { left = drop 1 l.left; marked = l.marked } → elements_of (source.List new) ≡ passed now (elements_of s)
passed-list now s l new is passes =
    ap (λ (t : ListTail). elements_of (source.List t)) passes ∙ passed-tokens now l.left l.marked ∙ ap (λ (t : Source). passed now (elements_of t)) (sym is)

-- nothing is left of a token that was given back
passed-given : (now : ReadState) (t : Option Token) → elements_of (source.Token None) ≡ passed now (elements_of (source.Token t))
passed-given now None = refl
passed-given now (Some t) = refl

passed-token : (now : ReadState) (s : Source) (t : Option Token) → s ≡ source.Token t → elements_of (source.Token None) ≡ passed now (elements_of s)
passed-token now s t is = passed-given now t ∙ ap (λ (u : Source). passed now (elements_of u)) (sym is)

-- one that is held stays
passed-kept : (now : ReadState) (t : Option Token) → elements_of (source.Held t) ≡ passed now (elements_of (source.Held t))
passed-kept now None = refl
passed-kept now (Some t) = refl

passed-held : (now : ReadState) (s : Source) (t : Option Token) → s ≡ source.Held t → elements_of s ≡ passed now (elements_of s)
passed-held now s t is = ap elements_of is ∙ passed-kept now t ∙ ap (λ (u : Source). passed now (elements_of u)) (sym is)

-- and so does the end of a part
passed-end : (now : ReadState) (part : Option ColumnPart) → elements_of (source.PartEnd part) ≡ passed now (elements_of (source.PartEnd part))
passed-end now None = refl
passed-end now (Some part) = refl

passed-part : (now : ReadState) (s : Source) (part : Option ColumnPart) → s ≡ source.PartEnd part → elements_of s ≡ passed now (elements_of s)
passed-part now s part is = ap elements_of is ∙ passed-end now part ∙ ap (λ (u : Source). passed now (elements_of u)) (sym is)

pub returns-in-List : goal.returns-in-List
returns-in-List c = passed-list c.args.state c.args.self.now c.in-List.list c.pass.new.self c.in-List.is c.pass.ensures

pub returns-in-Token : goal.returns-in-Token
returns-in-Token c = passed-token c.args.state c.args.self.now c.in-Token.token c.in-Token.is

pub returns-in-Held : goal.returns-in-Held
returns-in-Held c = passed-held c.args.state c.args.self.now c.in-Held.field-0 c.in-Held.is

pub returns-in-PartEnd : goal.returns-in-PartEnd
returns-in-PartEnd c = passed-part c.args.state c.args.self.now c.in-PartEnd.field-0 c.in-PartEnd.is
