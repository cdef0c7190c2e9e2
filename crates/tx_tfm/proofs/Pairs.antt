-- Pairs without a ligature command end at once.
use Rattle.std.proofs.Common.{◌≡◌, ℕ, ◌<◌, Bool, true, false, if◌then◌else◌, ◌&&◌, is_some, Option, Some, None, [], ◌∷◌, refl, ◌∙◌}
use Rattle.tx_tfm.specs.declared.file.Tfm.{Tfm}
use Rattle.tx_tfm.specs.declared.file.Word.{Word}
use Rattle.tx_tfm.specs.Rewriting.{ligature_of, ends_within}
use Rattle.tx_tfm.specs.Rules.{is_piece, pair_ends, all_pairs_end_after}
use Rattle.tx_tfm.specs.Table.{piece_of}
use Rattle.tx_tfm.proofs.Endings.{ends_within-pass, ends_within-one}
use Rattle.tx_tfm.proofs.Every.{every-all}

-- an answer that isn't there is none
pub is_none : (met : Option Word) → is_some met ≡ false → met ≡ None
is_none None e = refl
is_none (Some w) e = cc

-- a test that holds holds where another one does, and elsewhere nothing is asked
either : (asked test : Bool) → test ≡ true → (if asked then test else true) ≡ true
either true test e = e
either false test e = refl

pub pair_ends-without : (t : Tfm) (j k : ℕ) → ligature_of t (piece_of j) (piece_of k) ≡ None → pair_ends t j k ≡ true
unfolding pair_ends
pair_ends-without t j k none =
    either (is_piece t (piece_of j) && is_piece t (piece_of k)) (ends_within t 1000 (piece_of j ∷ piece_of k ∷ []))
    (ends_within-pass t 1000 (piece_of j) (piece_of k) [] none ∙ ends_within-one t 1000 (piece_of k))

pub all_pairs_end_after-without : (t : Tfm) (j : ℕ) → ((k : ℕ) → k < 257 → ligature_of t (piece_of j) (piece_of k) ≡ None) → all_pairs_end_after t j ≡ true
unfolding all_pairs_end_after
all_pairs_end_after-without t j none = every-all 257 (pair_ends t j) (λ k less. pair_ends-without t j k (none k less))
