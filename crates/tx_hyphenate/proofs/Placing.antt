-- The places of a word, by its items.
use Rattle.std.proofs.Common.{◌≡◌, ◌∙◌, ◌-◌, ℕ, Bool, true, false, cond, List, [], length, drop, take, map, ap, sym, arith, length-drop}
use Rattle.std.specs.Prelude.{◌&&◌, slice_index}
use Rattle.std.specs.List.{flat_map}
use Rattle.std.proofs.lemmas.List.{drop-map, take-map, take_all}
use Rattle.tx_hyphen.specs.Points.{points}
use Rattle.tx_node.specs.declared.node.Node.{Node}
use Rattle.tx_node.specs.Items.{Item}
use Rattle.tx_node.specs.Nodes.{item_of, list_of}
use Rattle.tx_hyphenate.specs.Letters.{codes_of}
use Rattle.tx_hyphenate.specs.Finding.{may_end, word_length}
use Rattle.tx_hyphenate.specs.Hyphenated.{Ways, has_hyphen, word_places}

-- the nodes from a place on
pub from-place : (nodes : List Node) (count : ℕ) → take (length nodes - count) (drop count nodes) ≡ drop count nodes
from-place nodes count = take_all (length nodes - count) (drop count nodes) (omega (arith, length-drop count nodes))

module _ (w : Ways) (font : ℕ) (nodes : List Node) where
  abbrev pub length-of : ℕ
  length-of = word_length w.lower font 0 (list_of nodes)

  abbrev pub places-of : List Item → List ℕ
  places-of items = points w.rules (map (slice_index w.lower) (flat_map codes_of items)) w.params.left w.params.right

  divisible-is : (count : ℕ) (divisible : Bool) → count ≡ length-of → divisible ≡ (has_hyphen w.fonts font && may_end (list_of (drop count nodes)))
      → (has_hyphen w.fonts font && may_end (drop length-of (list_of nodes))) ≡ divisible
  divisible-is count divisible count_is is =
      ap (λ (n : ℕ). has_hyphen w.fonts font && may_end (drop n (list_of nodes))) (sym count_is)
      ∙ ap (λ (items : List Item). has_hyphen w.fonts font && may_end items) (drop-map item_of count nodes)
      ∙ sym is

  -- where it can't be divided, there are none
  pub none-placed : (count : ℕ) (divisible : Bool) → count ≡ length-of → divisible ≡ (has_hyphen w.fonts font && may_end (list_of (drop count nodes)))
      → divisible ≡ false → word_places w font (list_of nodes) ≡ []
  none-placed count divisible count_is is fails =
      ap (λ (b : Bool). cond b (places-of (take length-of (list_of nodes))) []) (divisible-is count divisible count_is is ∙ fails)

  -- else those of its letters
  pub some-placed : (count : ℕ) (divisible : Bool) → count ≡ length-of → divisible ≡ (has_hyphen w.fonts font && may_end (list_of (drop count nodes)))
      → divisible ≡ true → word_places w font (list_of nodes) ≡ places-of (list_of (take count nodes))
  some-placed count divisible count_is is holds =
      ap (λ (b : Bool). cond b (places-of (take length-of (list_of nodes))) []) (divisible-is count divisible count_is is ∙ holds)
      ∙ ap (λ (n : ℕ). places-of (take n (list_of nodes))) (sym count_is)
      ∙ ap places-of (take-map item_of count nodes)
