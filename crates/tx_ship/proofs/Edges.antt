-- A character's four edges and its reference point, looked at one by one.
use Rattle.std.proofs.Common.{◌≡◌, ℤ, ◌+ℤ◌, ◌-ℤ◌, Bool, true, false, ◌&&◌, refl, sym, ap, ◌∙◌}
use Rattle.tx_node.specs.declared.character.Character.{Character as CharacterItem}
use Rattle.tx_ship.specs.declared.places.Point.{Point}
use Rattle.tx_ship.specs.declared.places.Sides.{Sides}
use Rattle.tx_ship.specs.Commands.{behind_character, cursor_at}
use Rattle.tx_ship.specs.Standing.{character_sides}
use Rattle.tx_ship.specs.Within.{IsReader, along_lies, edges_lie, on_page, point_lies}
use Rattle.tx_ship.proofs.Steps.{both, lies-is, point-is}

and-true : (a : Bool) → a ≡ (a && true)
and-true true = refl
and-true false = refl

and-false : (a : Bool) → false ≡ (a && false)
and-false true = refl
and-false false = refl

-- two tests, with two that hold
with-others : {a p : Bool} (b c : Bool) → true ≡ a → true ≡ p → (b && c) ≡ (((a && b) && c) && p)
with-others b c a_is p_is = and-true (b && c) ∙ (λ i. ((a_is i && b) && c) && p_is i)

-- where the point lies on the page, that the three do is that all four do
pub all-lie : (at : Point) (sides : Sides) {h v : ℤ} {told : Bool} → true ≡ point_lies at → h ≡ at.h → v ≡ at.v
    → told ≡ (on_page (h +ℤ sides.width) && (on_page (v -ℤ sides.height) && on_page (v +ℤ sides.depth))) → told ≡ (edges_lie at sides && point_lies at)
unfolding edges_lie
all-lie at sides point h_is v_is told_is =
    told_is ∙ (λ i. on_page (h_is i +ℤ sides.width) && (on_page (v_is i -ℤ sides.height) && on_page (v_is i +ℤ sides.depth)))
    ∙ with-others (on_page (at.h +ℤ sides.width)) (along_lies at sides) (sym (both (sym point)).0) point

-- where it doesn't, they don't all
pub not-all-lie : (at : Point) (sides : Sides) → false ≡ point_lies at → false ≡ (edges_lie at sides && point_lies at)
not-all-lie at sides point = and-false (edges_lie at sides) ∙ ap (λ (p : Bool). edges_lie at sides && p) point

-- a reader on the page, and behind the character too
pub reader-at : (at : Point) (sides : Sides) {told : Bool} → told ≡ (edges_lie at sides && point_lies at) → told ≡ true → IsReader (cursor_at at)
reader-at at sides told_is is = point-is (both (sym told_is ∙ is)).1

pub reader-behind : (at : Point) (c : CharacterItem) {told : Bool} → told ≡ (edges_lie at (character_sides c) && point_lies at) → told ≡ true → IsReader (behind_character (cursor_at at) c)
reader-behind at c told_is is =
    let parts = both (sym told_is ∙ is) in
    record { right = (lies-is parts.0).right; down = (point-is {at = at} parts.1).down }
