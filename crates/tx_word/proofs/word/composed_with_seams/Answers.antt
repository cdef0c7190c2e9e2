use Rattle.std.proofs.Common.{◌≡◌, Option, subst, ap, ◌∙◌, sym}
use Rattle.std.specs.Prelude.{IfOk}
use Rattle.std.specs.List.{All}
use Rattle.std.proofs.lemmas.List.Elements.{All-nil}
use Rattle.tx_ligkern.specs.Composed.{composed}
use Rattle.tx_ligkern.specs.Seams.{IsSeam}
use Rattle.tx_tfm.specs.declared.named.NamedFont.{NamedFont}
use Rattle.tx_word.specs.Composed.{composed_in}
use Rattle.tx_word.specs.Dividing.{IsNoted}
use Rattle.tx_word.specs.Words.{Composed}
use Rattle.tx_word.proofs.Divided.{ok-both, seams-noted}
use Rattle.tx_word.proofs.Made.{there-in}
use Rattle.tx_word.proofs.word.composed_with_seams.Goals as goal

pub compose_with_seams-requires : goal.compose_with_seams-requires
compose_with_seams-requires c = there-in c.args.fonts.now c.args.font c.in-Some.named.now c.args.chars.now (sym c.in-Some.ensures.found) c.requires

pub returns-in-None-clause-made : goal.returns-in-None-clause-made
returns-in-None-clause-made c = subst (λ (o : Option NamedFont). Composed o c.args.chars.now c.args.left c.args.right c.new.result) c.in-None.ensures.found c.new.ensures

pub returns-in-None-clause-value : goal.returns-in-None-clause-value
returns-in-None-clause-value c = c.new.ensures ∙ ap (λ (o : Option NamedFont). composed_in o c.args.chars.now c.args.left c.args.right) c.in-None.ensures.found

pub returns-in-None-clause-noted : goal.returns-in-None-clause-noted
returns-in-None-clause-noted c =
    subst (All (IsNoted c.args.fonts.now c.args.font c.args.chars.now c.args.left c.args.right c.new.result)) (sym c.new-in-None.ensures) (All-nil (IsNoted c.args.fonts.now c.args.font c.args.chars.now c.args.left c.args.right c.new.result))

pub returns-in-Some-clause-made : goal.returns-in-Some-clause-made
returns-in-Some-clause-made c = subst (λ (o : Option NamedFont). IfOk c.compose_with_seams.result (λ made. Composed o c.args.chars.now c.args.left c.args.right made.items)) c.in-Some.ensures.found c.compose_with_seams.ensures.becomes

pub returns-in-Some-clause-value : goal.returns-in-Some-clause-value
returns-in-Some-clause-value c =
    subst (λ (o : Option NamedFont). IfOk c.compose_with_seams.result (λ made. made.items ≡ composed_in o c.args.chars.now c.args.left c.args.right)) c.in-Some.ensures.found c.compose_with_seams.ensures.value

pub returns-in-Some-clause-noted : goal.returns-in-Some-clause-noted
returns-in-Some-clause-noted c =
    let f : NamedFont = c.in-Some.named.now in
    ok-both c.compose_with_seams.result (λ made. made.items ≡ composed f.font c.args.chars.now c.args.left c.args.right) (λ made. All (IsSeam f.font c.args.chars.now c.args.left c.args.right) made.seams) _
    (λ made value seams. seams-noted c.args.fonts.now c.args.font f c.args.chars.now c.args.left c.args.right (sym c.in-Some.ensures.found) made.items value made.seams seams)
    c.compose_with_seams.ensures.value c.compose_with_seams.ensures.seams
