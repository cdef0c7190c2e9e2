-- Fonts are equal where their bytes and sizes are: the lengths are those that the bytes say.
use Rattle.std.proofs.Common.{◌≡◌, ◌↔◌, ℕ, Bool, List, sym, ap, ◌∙◌, IsTrue}
use Rattle.tx_tfm.specs.declared.metrics.Metrics.{Metrics}
use Rattle.tx_tfm.specs.Format.{tfm_of}
use Rattle.tx_tfm.specs.Sound.{IsSound}

-- the font of these bytes at that size
abbrev used_at : List ℕ → ℕ → Metrics
used_at bytes size = record { file = tfm_of bytes; size = size }

is-used : (m : Metrics) → IsSound m → m ≡ used_at m.file.bytes m.size
is-used m sound = λ i. record { file = record { bytes = m.file.bytes; lengths = sound.lengths i }; size = m.size }

pub same_fonts : {a b : Metrics} {told : Bool} → IsSound a → IsSound b → (IsTrue told ↔ ((a.size ≡ b.size) × (a.file.bytes ≡ b.file.bytes))) → (IsTrue told ↔ (a ≡ b))
same_fonts {a} {b} sound_a sound_b tells = (
  (λ t. is-used a sound_a ∙ (λ i. used_at ((tells.0 t).1 i) ((tells.0 t).0 i)) ∙ sym (is-used b sound_b)),
  (λ e. tells.1 (ap (λ (m : Metrics). m.size) e, ap (λ (m : Metrics). m.file.bytes) e)),
)
