use Rattle.std.proofs.Common.{◌≡◌, ◌≤◌, List, [], length, reverse, sym, subst, ◌∙◌, arith}
use Rattle.std.specs.Prelude.{All, IfOk}
use Rattle.std.proofs.lemmas.List.Elements.{All-nil}
use Rattle.tx_ligkern.specs.declared.item.LigItem.{LigItem}
use Rattle.tx_ligkern.specs.declared.piece.Piece.{Piece}
use Rattle.tx_ligkern.specs.Composing.{Becomes, Empty}
use Rattle.tx_ligkern.specs.Pieces.{word_of}
use Rattle.tx_ligkern.specs.Seams.{IsCut}
use Rattle.tx_ligkern.proofs.Steps.{first_taken, no_pieces, nothing_taken, word-ends}
use Rattle.tx_ligkern.proofs.composing.whole.Goals as goal

pub pass_through-requires-clause-ends : goal.pass_through-requires-clause-ends
pass_through-requires-clause-ends c =
    let e = sym c.in_ok-rest.ensures ∙ first_taken c.in_ok-rest.rest.items c.reverse.new.self.items c.pop.new.self.items c.in-Some.first c.reverse.ensures.items c.in-Some.ensures.items in
    word-ends c.args.font.now c.in-Some.first (reverse c.pop.new.self.items) c.args.chars.now c.args.left c.args.right c.is_sound.ensures c.requires e

pub pass_through-requires-clause-fresh : goal.pass_through-requires-clause-fresh
pass_through-requires-clause-fresh c = subst (λ (l : List Piece). c.fresh_count-fresh.result ≤ length l) c.as_slice.ensures.value c.fresh_count-fresh.ensures

pub returns-in-None-clause-becomes : goal.returns-in-None-clause-becomes
returns-in-None-clause-becomes c =
    let none : c.reverse.new.self.items ≡ [] = no_pieces c.reverse.new.self.items (omega (arith, c.reverse.new.self.ok.0, c.in-None.ensures.cases)) in
    let e = sym c.in_ok-rest.ensures ∙ nothing_taken c.in_ok-rest.rest.items c.reverse.new.self.items c.reverse.ensures.items none in
    subst (λ (d : List LigItem). Becomes c.args.font.now (word_of c.args.chars.now c.args.left c.args.right) d) (sym c.new.ensures)
    (subst (λ (w : List Piece). Becomes c.args.font.now w []) (sym e) Empty)

pub returns-in-None-clause-seams : goal.returns-in-None-clause-seams
returns-in-None-clause-seams c =
    subst (All (IsCut c.args.font.now c.args.left (word_of c.args.chars.now c.args.left c.args.right))) (sym c.new-in-None.ensures) (All-nil (IsCut c.args.font.now c.args.left (word_of c.args.chars.now c.args.left c.args.right)))

pub returns-in-Some-clause-becomes : goal.returns-in-Some-clause-becomes
returns-in-Some-clause-becomes c =
    let e = sym c.in_ok-rest.ensures ∙ first_taken c.in_ok-rest.rest.items c.reverse.new.self.items c.pop.new.self.items c.in-Some.first c.reverse.ensures.items c.in-Some.ensures.items in
    subst (λ (w : List Piece). IfOk c.pass_through.result (λ made. Becomes c.args.font.now w made.items)) (sym e) c.pass_through.ensures.items

pub returns-in-Some-clause-seams : goal.returns-in-Some-clause-seams
returns-in-Some-clause-seams c =
    let e = sym c.in_ok-rest.ensures ∙ first_taken c.in_ok-rest.rest.items c.reverse.new.self.items c.pop.new.self.items c.in-Some.first c.reverse.ensures.items c.in-Some.ensures.items in
    subst (λ (w : List Piece). IfOk c.pass_through.result (λ made. All (IsCut c.args.font.now c.args.left w) made.seams)) (sym e) c.pass_through.ensures.seams
