-- Items with a word, whose run is composed anew.
use Rattle.std.proofs.Common.{◌≡◌, ◌∙◌, ◌+◌, ◌-◌, ℕ, Bool, true, false, cond, Option, Some, List, length, drop, take, reverse, ap, sym}
use Rattle.std.specs.Prelude.{◌==◌}
use Rattle.std.specs.List.{prefix_len}
use Rattle.std.proofs.lemmas.List.{drop-map, take-map}
use Rattle.tx_node.specs.declared.node.Node.{Node}
use Rattle.tx_node.specs.Items.{Item}
use Rattle.tx_node.specs.Nodes.{item_of, list_of}
use Rattle.tx_tfm.specs.declared.state.FontState.{FontState}
use Rattle.tx_hyphenate.specs.Finding.{is_in_run, word_start}
use Rattle.tx_hyphenate.specs.Hyphenated.{Ways, are_there, codes_between, font_at_place, kept, placed, put_between, run_before, run_behind, run_divided, run_made, stretch_hyphenated, with_run, with_word, with_word_at, word_places}

module _ (fonts : List FontState) (font word : ℕ) (places : List ℕ) (items : List Item) where
  -- the places of the run between two places
  abbrev pub run-places : ℕ → ℕ → List ℕ
  run-places start end = placed (length (codes_between start word items)) (length (codes_between start end items)) places

  -- with places, the run is composed anew
  pub word-run : (nodes : List Node) (b h : ℕ) → list_of nodes ≡ items → b ≡ prefix_len (is_in_run font) (reverse (list_of (take word nodes)))
      → h ≡ prefix_len (is_in_run font) (list_of (drop word nodes)) → (length places == 0) ≡ false
      → with_word fonts font word places items ≡ run_divided fonts font (word - b) (word + h) (run-places (word - b) (word + h)) items
  word-run nodes b h is b_is h_is some =
      let before : b ≡ run_before font (take word items) = b_is ∙ ap (λ (list : List Item). prefix_len (is_in_run font) (reverse list)) (sym (take-map item_of word nodes) ∙ ap (take word) is) in
      let behind : h ≡ run_behind font (drop word items) = h_is ∙ ap (prefix_len (is_in_run font)) (sym (drop-map item_of word nodes) ∙ ap (drop word) is) in
      ap (λ (empty : Bool). cond empty (kept items) (with_run fonts font (word - run_before font (take word items)) word (word + run_behind font (drop word items)) places items)) some
      ∙ (λ i. with_run fonts font (word - sym before i) word (word + sym behind i) places items)

  -- where the font lacks a character, all stays as it is
  pub not-anew : (start end : ℕ) (ps : List ℕ) → are_there fonts font (codes_between start end items) ≡ false → run_divided fonts font start end ps items ≡ kept items
  not-anew start end ps lacking =
      ap (λ (there : Bool). cond there (put_between start end items (run_made fonts font (codes_between start end items) ps)) (kept items)) lacking

  pub anew : (start end : ℕ) (ps : List ℕ) → are_there fonts font (codes_between start end items) ≡ true
      → run_divided fonts font start end ps items ≡ put_between start end items (run_made fonts font (codes_between start end items) ps)
  anew start end ps there =
      ap (λ (has : Bool). cond has (put_between start end items (run_made fonts font (codes_between start end items) ps)) (kept items)) there

-- a word that is found behind glue, by its nodes
pub stretch-is : (w : Ways) (items : List Item) (nodes : List Node) (word font : ℕ) (places : List ℕ) → list_of nodes ≡ items
    → word_start w.lower w.params.uc_hyph (list_of nodes) ≡ Some word → font ≡ font_at_place word (list_of nodes) → places ≡ word_places w font (list_of (drop word nodes))
    → with_word w.fonts font word places items ≡ stretch_hyphenated w items
stretch-is w items nodes word font places is started font_is places_is =
    let start : word_start w.lower w.params.uc_hyph items ≡ Some word = ap (word_start w.lower w.params.uc_hyph) (sym is) ∙ started in
    let f : font ≡ font_at_place word items = font_is ∙ ap (font_at_place word) is in
    let rest : list_of (drop word nodes) ≡ drop word items = sym (drop-map item_of word nodes) ∙ ap (drop word) is in
    let p : places ≡ word_places w (font_at_place word items) (drop word items) = places_is ∙ (λ i. word_places w (f i) (rest i)) in
    (λ i. with_word w.fonts (f i) word (p i) items) ∙ sym (ap (λ (found : Option ℕ). with_word_at w found items) start)
