-- What holds of each font that was read: no rule is broken.
use Rattle.std.specs.Prelude.{◌≡◌, ℕ, ◌<◌, ◌≤◌, ◌^◌, true, Option, Some, ⊤, pos}
use Rattle.tx_tfm.specs.declared.file.Tfm.{Tfm}
use Rattle.tx_tfm.specs.declared.rules.Size.{Size}
use Rattle.tx_tfm.specs.declared.metrics.Metrics.{Metrics}
use Rattle.tx_tfm.specs.declared.errors.FontError.{FontError}
use Rattle.tx_tfm.specs.declared.errors.FontError.TheVariants.{BadFont, OutOfMemory}
use Rattle.tx_tfm.specs.Format.{lengths_of}
use Rattle.tx_tfm.specs.Rules.{size_in_sp, codes_are_bytes, all_indices_fit, all_remainders_fit, all_successors_end, all_are_fractions, first_sizes_are_zero, all_commands_fit, all_recipes_fit, all_pairs_end}

-- z is the size in sp at which the font is used, and in range
pub record IsSizeOf (t : Tfm) (size : Size) (z : ℕ) : Type 0 where
  pub is : size_in_sp t size ≡ pos z
  pub some : 1 ≤ z
  pub bound : z < 2 ^ 27

-- a font's file breaks no rule at its size
pub record IsSound (m : Metrics) : Type 0 where
  pub lengths : m.file.lengths ≡ lengths_of m.file.bytes
  pub size_some : 1 ≤ m.size
  pub size_in : m.size < 2 ^ 27
  pub codes : codes_are_bytes m.file.lengths ≡ true
  pub indices : all_indices_fit m.file ≡ true
  pub remainders : all_remainders_fit m.file ≡ true
  pub successors : all_successors_end m.file ≡ true
  pub fractions : all_are_fractions m.file ≡ true
  pub first_sizes : first_sizes_are_zero m.file ≡ true
  pub commands : all_commands_fit m.file ≡ true
  pub recipes : all_recipes_fit m.file ≡ true
  pub pairs : all_pairs_end m.file ≡ true

-- an error that names a rule names this one; want of memory says nothing
abbrev pub ErrorNames : Option ℕ → FontError → Type 0
ErrorNames broken (BadFont rule) = broken ≡ Some rule
ErrorNames broken (OutOfMemory _) = ⊤
