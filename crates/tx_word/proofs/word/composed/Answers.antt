use Rattle.std.proofs.Common.{◌≡◌, Option, List, subst, ap, ◌∙◌, sym}
use Rattle.std.specs.Prelude.{IfOk}
use Rattle.tx_ligkern.specs.declared.item.LigItem.{LigItem}
use Rattle.tx_tfm.specs.declared.named.NamedFont.{NamedFont}
use Rattle.tx_word.specs.Composed.{composed_in}
use Rattle.tx_word.specs.Words.{Composed}
use Rattle.tx_word.proofs.Made.{there-in}
use Rattle.tx_word.proofs.word.composed.Goals as goal

pub compose-requires : goal.compose-requires
compose-requires c = there-in c.args.fonts.now c.args.font c.in-Some.named.now c.args.chars.now (sym c.in-Some.ensures.found) c.requires

pub returns-in-None-clause-made : goal.returns-in-None-clause-made
returns-in-None-clause-made c = subst (λ (o : Option NamedFont). Composed o c.args.chars.now c.args.left c.args.right c.new.result) c.in-None.ensures.found c.new.ensures

pub returns-in-None-clause-value : goal.returns-in-None-clause-value
returns-in-None-clause-value c = c.new.ensures ∙ ap (λ (o : Option NamedFont). composed_in o c.args.chars.now c.args.left c.args.right) c.in-None.ensures.found

pub returns-in-Some-clause-made : goal.returns-in-Some-clause-made
returns-in-Some-clause-made c = subst (λ (o : Option NamedFont). IfOk c.compose.result (Composed o c.args.chars.now c.args.left c.args.right)) c.in-Some.ensures.found c.compose.ensures.becomes

pub returns-in-Some-clause-value : goal.returns-in-Some-clause-value
returns-in-Some-clause-value c =
    subst (λ (o : Option NamedFont). IfOk c.compose.result (λ (items : List LigItem). items ≡ composed_in o c.args.chars.now c.args.left c.args.right)) c.in-Some.ensures.found c.compose.ensures.value
