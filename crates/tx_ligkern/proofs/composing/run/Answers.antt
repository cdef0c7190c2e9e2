use Rattle.std.proofs.Common.{◌≡◌, ◌<◌, ◌+◌, ◌++◌, ℕ, suc, min, List, [], ◌∷◌, length, reverse, sym, ap, subst, ◌∙◌, arith}
use Rattle.std.proofs.lemmas.List.{length-reverse}
use Rattle.std.proofs.lemmas.Result.{on_ok_weaker}
use Rattle.tx_ligkern.specs.declared.item.LigItem.{LigItem}
use Rattle.tx_ligkern.specs.declared.piece.Piece.{Piece}
use Rattle.tx_ligkern.specs.declared.seam.Seam.{Seam}
use Rattle.tx_ligkern.specs.Composing.{Becomes}
use Rattle.tx_ligkern.specs.Seams.{boundary_count, seen}
use Rattle.tx_ligkern.specs.Steps.{most_commands}
use Rattle.tx_ligkern.proofs.Seaming.{Noting, noting-begun, noting-moved, noting-within}
use Rattle.tx_ligkern.proofs.Steps.{Going, going-begun, going-moved, going-over, measure, no_pieces, reverse-push}
use Rattle.tx_ligkern.proofs.composing.run.Goals as goal

-- the last place of pieces, by the list that they are taken from
size-of : (left end rest : ℕ) (first : Piece) (backwards : List Piece) → left + end ≡ suc rest → rest ≡ length backwards → left + end ≡ length (first ∷ reverse backwards)
size-of left end rest first backwards size same = let long = length-reverse backwards in omega (arith, long, size, same)

pub loop-next-init : goal.loop-next-init
loop-next-init c =
    let start : List Piece = c.args.first ∷ reverse c.args.rest.now.items in
    let long = length-reverse c.args.rest.now.items in (
      subst (λ (d : List LigItem). Going c.args.font.now start (most_commands start) c.args.first (reverse c.args.rest.now.items) d) (sym c.requires.items) (going-begun c.requires.ends),
      noting-begun c.args.font.now c.args.left c.args.first (reverse c.args.rest.now.items) c.args.made.now.items c.args.fresh c.args.made.now.seams (omega (arith, long, c.requires.fresh)) c.requires.items c.requires.seams,
    )

pub advance-requires : goal.advance-requires
advance-requires c =
    noting-within c.loop-next.invariant.1 c.end_place-end.result
    (size-of (boundary_count c.args.left) c.end_place-end.result (length c.as_slice.result.now) c.args.first c.args.rest.now.items c.end_place-end.ensures (ap length c.as_slice.ensures.value))

pub loop-next-smaller : goal.loop-next-smaller
loop-next-smaller c =
    let start : List Piece = c.args.first ∷ reverse c.args.rest.now.items in
    let popped = reverse-push c.loop-next.rest.items c.pop.new.self.items c.in-Some.next c.in-Some.ensures.items in
    let g : Going c.args.font.now start (most_commands start) c.loop-next.current (c.in-Some.next ∷ reverse c.pop.new.self.items) c.loop-next.made.items =
    subst (λ (r : List Piece). Going c.args.font.now start (most_commands start) c.loop-next.current r c.loop-next.made.items) popped c.loop-next.invariant.0 in
    subst (λ (r : List Piece). measure c.args.font.now (most_commands start) c.advance.new.cursor (reverse c.advance.new.rest.items) < measure c.args.font.now (most_commands start) c.loop-next.current r) (sym popped) (going-moved g c.in_ok-fresh.ensures.moved).1

pub loop-next-preserved : goal.loop-next-preserved
loop-next-preserved c =
    let start : List Piece = c.args.first ∷ reverse c.args.rest.now.items in
    let left : List Piece = reverse c.pop.new.self.items in
    let end : ℕ = c.end_place-end.result in
    let fresh : ℕ = c.loop-next.fresh in
    let popped = reverse-push c.loop-next.rest.items c.pop.new.self.items c.in-Some.next c.in-Some.ensures.items in
    let g : Going c.args.font.now start (most_commands start) c.loop-next.current (c.in-Some.next ∷ left) c.loop-next.made.items =
    subst (λ (r : List Piece). Going c.args.font.now start (most_commands start) c.loop-next.current r c.loop-next.made.items) popped c.loop-next.invariant.0 in
    let n : Noting c.args.font.now c.args.left start c.loop-next.current (c.in-Some.next ∷ left) c.loop-next.made.items fresh c.loop-next.made.seams =
    subst (λ (r : List Piece). Noting c.args.font.now c.args.left start c.loop-next.current r c.loop-next.made.items fresh c.loop-next.made.seams) popped c.loop-next.invariant.1 in
    let size = size-of (boundary_count c.args.left) end (length c.as_slice.result.now) c.args.first c.args.rest.now.items c.end_place-end.ensures (ap length c.as_slice.ensures.value) in
    let counted : length c.pop.new.self.items ≡ length left = sym (length-reverse c.pop.new.self.items) in
    let fresh_is : c.in_ok-fresh.fresh ≡ min fresh (length left) = c.in_ok-fresh.ensures.fresh ∙ ap (min fresh) counted in
    let seams_are : c.advance.new.made.seams ≡ c.loop-next.made.seams ++ seen c.args.font.now c.loop-next.current c.in-Some.next fresh (length left) end (length c.loop-next.made.items) =
    c.in_ok-fresh.ensures.seams ∙ ap (λ (k : ℕ). c.loop-next.made.seams ++ seen c.args.font.now c.loop-next.current c.in-Some.next fresh k end (length c.loop-next.made.items)) counted in (
      (going-moved g c.in_ok-fresh.ensures.moved).0,
      subst (λ (k : ℕ). Noting c.args.font.now c.args.left start c.advance.new.cursor (reverse c.advance.new.rest.items) c.advance.new.made.items k c.advance.new.made.seams) (sym fresh_is)
          (subst (λ (s : List Seam). Noting c.args.font.now c.args.left start c.advance.new.cursor (reverse c.advance.new.rest.items) c.advance.new.made.items (min fresh (length left)) s) (sym seams_are)
          (noting-moved n c.in_ok-fresh.ensures.moved end size)),
    )

pub returns-clause-items : goal.returns-clause-items
returns-clause-items c =
    let start : List Piece = c.args.first ∷ reverse c.args.rest.now.items in
    let none : c.loop-next.rest.items ≡ [] = no_pieces c.loop-next.rest.items (omega (arith, c.loop-next.rest.ok.0, c.in_default.ensures.cases)) in
    let g : Going c.args.font.now start (most_commands start) c.loop-next.current [] c.loop-next.made.items =
    subst (λ (r : List Piece). Going c.args.font.now start (most_commands start) c.loop-next.current (reverse r) c.loop-next.made.items) none c.loop-next.invariant.0 in
    on_ok_weaker c.put.result (λ e. subst (λ (d : List LigItem). Becomes c.args.font.now start d) (sym e) (going-over g)) c.put.ensures

pub returns-clause-seams : goal.returns-clause-seams
returns-clause-seams c = on_ok_weaker c.put.result (λ e. c.loop-next.invariant.1.cuts) c.put.ensures
