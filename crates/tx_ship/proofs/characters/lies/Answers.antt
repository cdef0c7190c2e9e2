use Rattle.std.proofs.Common.{◌≡◌, ◌∙◌, ◌&&◌, refl, arith, to_z, of_z, w64}
use Rattle.std.specs.Int.{w128}
use Rattle.std.proofs.lemmas.Int.{ints}
use Rattle.tx_ship.specs.Standing.{character_sides}
use Rattle.tx_ship.specs.Commands.{cursor_at}
use Rattle.tx_ship.specs.Within.{IsReader, edges_lie, point_lies}
use Rattle.tx_ship.proofs.Edges.{all-lie, not-all-lie, reader-at, reader-behind}
use Rattle.tx_ship.proofs.characters.lies.Goals as goal

pub returns-then-point_lies : goal.returns-then-point_lies
returns-then-point_lies c =
    let reader : IsReader (cursor_at c.args.at) = c.if-point_lies.ensures.facts refl in
    let right : to_z w64 (of_z w64 (to_z w128 (of_z w128 c.args.at.h))) ≡ c.args.at.h = omega (arith, ints, reader.right) in
    let down : to_z w64 (of_z w64 (to_z w128 (of_z w128 c.args.at.v))) ≡ c.args.at.v = omega (arith, ints, reader.down) in
    let told : c.sides_lie.result ≡ (edges_lie c.args.at (character_sides c.args.character) && point_lies c.args.at)
    = all-lie c.args.at (character_sides c.args.character) c.if-point_lies.ensures.value right down c.sides_lie.ensures in
    record {
      value = told;
      point = λ is. reader-at c.args.at (character_sides c.args.character) told is;
      behind = λ is. reader-behind c.args.at c.args.character told is;
    }

pub returns-else-point_lies : goal.returns-else-point_lies
returns-else-point_lies c =
    let told : c.point_lies.result ≡ (edges_lie c.args.at (character_sides c.args.character) && point_lies c.args.at)
    = c.if-point_lies.false ∙ not-all-lie c.args.at (character_sides c.args.character) c.if-point_lies.ensures.value in
    record {
      value = told;
      point = λ is. reader-at c.args.at (character_sides c.args.character) told is;
      behind = λ is. reader-behind c.args.at c.args.character told is;
    }
