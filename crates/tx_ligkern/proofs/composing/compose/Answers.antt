use Rattle.std.proofs.Common.{List, sym, subst}
use Rattle.tx_ligkern.specs.declared.item.LigItem.{LigItem}
use Rattle.tx_ligkern.specs.Composing.{Becomes}
use Rattle.tx_ligkern.specs.Pieces.{word_of}
use Rattle.tx_ligkern.specs.Composed.{composed}
use Rattle.tx_ligkern.proofs.Once.{once}
use Rattle.tx_ligkern.proofs.Within.{composed-is}
use Rattle.tx_ligkern.proofs.composing.compose.Goals as goal

pub returns-clause-becomes : goal.returns-clause-becomes
returns-clause-becomes c =
    subst (λ (d : List LigItem). Becomes c.args.font.now (word_of c.args.chars.now c.args.left c.args.right) d) (sym c.into_items.ensures) c.in_ok-made.ensures.becomes

pub returns-clause-only : goal.returns-clause-only
returns-clause-only c = once c.args.font.now (word_of c.args.chars.now c.args.left c.args.right) c.into_items.result (returns-clause-becomes c)

pub returns-clause-value : goal.returns-clause-value
returns-clause-value c =
    once c.args.font.now (word_of c.args.chars.now c.args.left c.args.right) c.into_items.result (returns-clause-becomes c) (composed c.args.font.now c.args.chars.now c.args.left c.args.right)
    (composed-is c.args.font.now c.args.chars.now c.args.left c.args.right c.is_sound.ensures c.requires)
