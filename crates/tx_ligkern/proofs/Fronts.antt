-- Composing a word from its front: where its first two pieces meet no ligature command, the first is finished, with the kern that
-- they meet, and the others are composed by themselves.
use Rattle.std.proofs.Common.{◌≡◌, ℕ, Bool, true, false, cond, ltb, Option, Some, None, List, [], ◌∷◌, ◌++◌, map, refl, ap, ◌∙◌}
use Rattle.std.specs.Prelude.{All, IsTrue}
use Rattle.std.proofs.lemmas.Bool.{ltb-false, true≢false}
use Rattle.std.proofs.lemmas.List.{append-nil}
use Rattle.std.proofs.lemmas.List.Elements.{All-tail}
use Rattle.tx_tfm.specs.declared.file.Word.{Word}
use Rattle.tx_tfm.specs.declared.metrics.Metrics.{Metrics}
use Rattle.tx_tfm.specs.Format.{is_there}
use Rattle.tx_tfm.specs.LigKern.{command_of}
use Rattle.tx_tfm.specs.Metrics.{kern_of}
use Rattle.tx_tfm.specs.Sound.{IsSound}
use Rattle.tx_ligkern.specs.declared.item.LigItem.{LigItem}
use Rattle.tx_ligkern.specs.declared.item.LigItem.TheVariants as items
use Rattle.tx_ligkern.specs.declared.pair.Met.TheVariants.{Kern, Ligature}
use Rattle.tx_ligkern.specs.declared.piece.Piece.{Piece}
use Rattle.tx_ligkern.specs.declared.piece.Piece.TheVariants.{Boundary, Char}
use Rattle.tx_ligkern.specs.Pieces.{boundary, code_of, items_of}
use Rattle.tx_ligkern.specs.Composing.{Becomes, Last, Apart, Kerned}
use Rattle.tx_ligkern.specs.Composed.{composed}
use Rattle.tx_ligkern.specs.Pairs.{is_ligature, kern_in, met_by, met_of}
use Rattle.tx_ligkern.proofs.Once.{once}
use Rattle.tx_ligkern.proofs.Within.{composed-is}

-- pieces, by the command that the first two meet
parted : (m : Metrics) (current next : Piece) (rest : List Piece) (whole others : List LigItem) → Becomes m (current ∷ next ∷ rest) whole → Becomes m (next ∷ rest) others
    → (o : Option Word) → command_of m.file (code_of current) (code_of next) ≡ o → is_ligature (met_by m o) ≡ false
    → whole ≡ items_of current ++ (kern_in (met_by m o) ++ others)
parted m current next rest whole others becomes behind None is not =
    once m (current ∷ next ∷ rest) whole becomes (items_of current ++ others) (Apart current next rest others is behind)
parted m current next rest whole others becomes behind (Some w) is not = by (ltb w.c 128) refl not
  where
    by : (small : Bool) → ltb w.c 128 ≡ small → is_ligature (cond small Ligature (Kern (kern_of m w))) ≡ false
        → whole ≡ items_of current ++ (kern_in (cond small Ligature (Kern (kern_of m w))) ++ others)
    by true e not = absurd (true≢false not)
    by false e not =
        once m (current ∷ next ∷ rest) whole becomes (items_of current ++ items.Kern (kern_of m w) ∷ others)
        (Kerned current next rest others w is (ltb-false w.c 128 e) behind)

-- in a font that breaks no rule
module _ (m : Metrics) (sound : IsSound m) where
  -- a word from its second character on
  pub front-met : (c d : ℕ) (rest : List ℕ) (right : Bool) → All (λ x. IsTrue (is_there m.file x)) (c ∷ d ∷ rest) → is_ligature (met_of m (Some c) (Some d)) ≡ false
      → composed m (c ∷ d ∷ rest) false right ≡ items.Char c ∷ (kern_in (met_of m (Some c) (Some d)) ++ composed m (d ∷ rest) false right)
  front-met c d rest right all not =
      parted m (Char c) (Char d) (map (λ x. Char x) rest ++ boundary right) (composed m (c ∷ d ∷ rest) false right) (composed m (d ∷ rest) false right)
      (composed-is m (c ∷ d ∷ rest) false right sound all)
      (composed-is m (d ∷ rest) false right sound (All-tail (λ x. IsTrue (is_there m.file x)) c (d ∷ rest) all))
      (command_of m.file (Some c) (Some d)) refl not

  -- behind its left boundary
  pub left-met : (c : ℕ) (rest : List ℕ) (right : Bool) → All (λ x. IsTrue (is_there m.file x)) (c ∷ rest) → is_ligature (met_of m None (Some c)) ≡ false
      → composed m (c ∷ rest) true right ≡ kern_in (met_of m None (Some c)) ++ composed m (c ∷ rest) false right
  left-met c rest right all not =
      parted m Boundary (Char c) (map (λ x. Char x) rest ++ boundary right) (composed m (c ∷ rest) true right) (composed m (c ∷ rest) false right)
      (composed-is m (c ∷ rest) true right sound all) (composed-is m (c ∷ rest) false right sound all)
      (command_of m.file None (Some c)) refl not

  -- its last character, before its right boundary and without one
  pub last-met : (c : ℕ) → All (λ x. IsTrue (is_there m.file x)) (c ∷ []) → is_ligature (met_of m (Some c) None) ≡ false
      → composed m (c ∷ []) false true ≡ items.Char c ∷ kern_in (met_of m (Some c) None)
  last-met c all not =
      parted m (Char c) Boundary [] (composed m (c ∷ []) false true) [] (composed-is m (c ∷ []) false true sound all) (Last Boundary)
      (command_of m.file (Some c) None) refl not
      ∙ ap (λ (kern : List LigItem). items.Char c ∷ kern) (append-nil (kern_in (met_of m (Some c) None)))

  pub last-alone : (c : ℕ) → All (λ x. IsTrue (is_there m.file x)) (c ∷ []) → composed m (c ∷ []) false false ≡ items.Char c ∷ []
  last-alone c all = once m (Char c ∷ []) (composed m (c ∷ []) false false) (composed-is m (c ∷ []) false false sound all) (items.Char c ∷ []) (Last (Char c))
