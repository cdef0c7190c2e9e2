use Rattle.std.proofs.Common.{◌≡◌, ◌&&◌, ◌∙◌, refl, sym, ap, arith, subst, to_z, of_z}
use Rattle.std.specs.Int.{w128}
use Rattle.std.proofs.lemmas.Int.{ints}
use Rattle.tx_tfm.specs.Fonts.{font_at}
use Rattle.tx_ship.specs.declared.places.Cursor.{Cursor}
use Rattle.tx_ship.specs.declared.places.Point.{Point}
use Rattle.tx_ship.specs.Standing.{reference, upright, character_sides}
use Rattle.tx_ship.specs.Commands.{pen_at, cursor_at, behind_character, character_item}
use Rattle.tx_ship.specs.Within.{IsReader, edges_lie, point_lies}
use Rattle.tx_ship.specs.Written.{IsWritten}
use Rattle.tx_ship.proofs.characters.put_character.Goals as goal

pub put_found-requires-clause-to : goal.put_found-requires-clause-to
put_found-requires-clause-to c = subst IsReader (sym c.cursor_at.ensures) (c.if-not-lies.ensures.point refl)

pub put_found-requires-clause-behind : goal.put_found-requires-clause-behind
put_found-requires-clause-behind c = subst (λ (k : Cursor). IsReader (behind_character k c.args.character)) (sym c.cursor_at.ensures) (c.if-not-lies.ensures.behind refl)

pub returns-clause-lies : goal.returns-clause-lies
returns-clause-lies c =
    let height_is : to_z w128 (of_z w128 c.from.result) ≡ c.args.character.height = omega (arith, ints, c.from.ensures, c.from.type_inv) in
    let at_is = c.upright_point-at.ensures.value ∙ ap (λ height. reference c.args.frame.head.direction c.args.frame (upright c.args.span.from height)) height_is in
    ap (λ (at : Point). edges_lie at (character_sides c.args.character) && point_lies at) (sym at_is) ∙ sym c.if-not-lies.ensures.value

pub returns-clause-written : goal.returns-clause-written
returns-clause-written c =
    let height_is : to_z w128 (of_z w128 c.from.result) ≡ c.args.character.height = omega (arith, ints, c.from.ensures, c.from.type_inv) in
    let at_is = c.upright_point-at.ensures.value ∙ ap (λ height. reference c.args.frame.head.direction c.args.frame (upright c.args.span.from height)) height_is in
    subst (λ (k : Cursor). IsWritten c.args.output.now c.put_found.new.output (character_item (font_at c.args.fonts.now c.args.character.font) (pen_at c.args.output.now.fonts c.args.cursor) k c.args.character))
    (c.cursor_at.ensures ∙ ap cursor_at at_is) c.in_ok-put_found.ensures.written

pub returns-clause-next : goal.returns-clause-next
returns-clause-next c =
    let height_is : to_z w128 (of_z w128 c.from.result) ≡ c.args.character.height = omega (arith, ints, c.from.ensures, c.from.type_inv) in
    let at_is = c.upright_point-at.ensures.value ∙ ap (λ height. reference c.args.frame.head.direction c.args.frame (upright c.args.span.from height)) height_is in
    c.in_ok-put_found.ensures.next
    ∙ ap (λ (k : Cursor). (character_item (font_at c.args.fonts.now c.args.character.font) (pen_at c.args.output.now.fonts c.args.cursor) k c.args.character).1.at) (c.cursor_at.ensures ∙ ap cursor_at at_is)

pub upright_point-at-requires-clause-height : goal.upright_point-at-requires-clause-height
upright_point-at-requires-clause-height c = omega (arith, ints, c.from.ensures, c.from.type_inv)

pub returns-then-not-lies-clause-outside : goal.returns-then-not-lies-clause-outside
returns-then-not-lies-clause-outside c = λ _.
    let height_is : to_z w128 (of_z w128 c.from.result) ≡ c.args.character.height = omega (arith, ints, c.from.ensures, c.from.type_inv) in
    let at_is = c.upright_point-at.ensures.value ∙ ap (λ height. reference c.args.frame.head.direction c.args.frame (upright c.args.span.from height)) height_is in
    (refl, ap (λ (at : Point). edges_lie at (character_sides c.args.character) && point_lies at) (sym at_is) ∙ sym c.if-not-lies.ensures.value)

pub cursor_at-requires : goal.cursor_at-requires
cursor_at-requires c = c.if-not-lies.ensures.point refl
