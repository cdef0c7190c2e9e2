use Rattle.std.proofs.Common.{◌≡◌, ◌∙◌, ◌-◌, ℕ, true, false, List, IfOk, rules, to_z, of_z, w64, map, length, drop, take, ap, sym, subst}
use Rattle.std.specs.Prelude.{◌&&◌, slice_index}
use Rattle.std.specs.List.{flat_map}
use Rattle.tx_hyphen.specs.Points.{points}
use Rattle.tx_node.specs.declared.node.Node.{Node}
use Rattle.tx_node.specs.Nodes.{list_of}
use Rattle.tx_hyphenate.specs.Letters.{codes_of}
use Rattle.tx_hyphenate.specs.Finding.{may_end}
use Rattle.tx_hyphenate.specs.Hyphenated.{has_hyphen, ways}
use Rattle.tx_hyphenate.proofs.Placing.{from-place, none-placed, some-placed}
use Rattle.tx_hyphenate.proofs.places.word_places.Goals as goal

pub returns-then-not-is_divisible : goal.returns-then-not-is_divisible
returns-then-not-is_divisible c =
    let no : c.is_divisible.result ≡ false = search rules in
    let behind : (has_hyphen c.args.fonts.now c.args.font && may_end (list_of (take (length c.args.nodes.now - c.word_length-count.result) (drop c.word_length-count.result c.args.nodes.now)))) ≡ (has_hyphen c.args.fonts.now c.args.font && may_end (list_of (drop c.word_length-count.result c.args.nodes.now))) =
    ap (λ (rest : List Node). has_hyphen c.args.fonts.now c.args.font && may_end (list_of rest)) (from-place c.args.nodes.now c.word_length-count.result) in
    c.new.ensures
    ∙ sym (none-placed (ways c.args.fonts.now c.args.hyphens.now c.args.lower.now c.args.params) c.args.font c.args.nodes.now c.word_length-count.result c.is_divisible.result c.word_length-count.ensures.value (c.is_divisible.ensures ∙ behind) no)

pub returns : goal.returns
returns c =
    let yes : c.is_divisible.result ≡ true = search rules in
    let behind : (has_hyphen c.args.fonts.now c.args.font && may_end (list_of (take (length c.args.nodes.now - c.word_length-count.result) (drop c.word_length-count.result c.args.nodes.now)))) ≡ (has_hyphen c.args.fonts.now c.args.font && may_end (list_of (drop c.word_length-count.result c.args.nodes.now))) =
    ap (λ (rest : List Node). has_hyphen c.args.fonts.now c.args.font && may_end (list_of rest)) (from-place c.args.nodes.now c.word_length-count.result) in
    let left : to_z w64 (of_z w64 c.args.params.left) ≡ c.args.params.left = search rules in
    let right : to_z w64 (of_z w64 c.args.params.right) ≡ c.args.params.right = search rules in
    let letters : c.as_slice-2.result.now ≡ map (slice_index c.args.lower.now) (flat_map codes_of (list_of (take c.word_length-count.result c.args.nodes.now))) =
    c.as_slice-2.ensures ∙ c.in_ok-letters.ensures ∙ ap (map (slice_index c.args.lower.now)) (c.as_slice.ensures ∙ c.in_ok-codes.ensures) in
    subst (λ (all : List ℕ). IfOk c.points.result (λ (places : List ℕ). places ≡ all))
    (ap (λ (text : List ℕ). points c.args.hyphens.now text c.args.params.left c.args.params.right) letters
    ∙ sym (some-placed (ways c.args.fonts.now c.args.hyphens.now c.args.lower.now c.args.params) c.args.font c.args.nodes.now c.word_length-count.result c.is_divisible.result c.word_length-count.ensures.value (c.is_divisible.ensures ∙ behind) yes))
    (rw (left, right) at c.points.ensures)
