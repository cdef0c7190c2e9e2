-- What a font keeps of what its file says: of each character by its code, and of the boundary of a word.
use Rattle.std.specs.Prelude.{◌≡◌, ℕ, ◌<◌, ◌^◌, pos, unsigned_abs, false, None, get_or}
use Rattle.tx_tfm.specs.declared.characters.CharacterMetrics.{CharacterMetrics}
use Rattle.tx_tfm.specs.declared.characters.Characters.{Characters}
use Rattle.tx_tfm.specs.declared.metrics.Metrics.{Metrics}
use Rattle.tx_tfm.specs.Format.{is_there}
use Rattle.tx_tfm.specs.LigKern.{boundary_code, boundary_start, character_start}
use Rattle.tx_tfm.specs.Metrics.{width_of, height_of, depth_of, italic_of}
use Rattle.tx_tfm.specs.Sound.{IsSound}

-- this is what a font says of a character; its sizes are below 2^31 sp
pub record IsSaid (m : Metrics) (code : ℕ) (c : CharacterMetrics) : Type 0 where
  pub width : c.width ≡ width_of m code
  pub width_in : unsigned_abs c.width < 2 ^ 31
  pub height : c.height ≡ height_of m code
  pub height_in : unsigned_abs c.height < 2 ^ 31
  pub depth : c.depth ≡ depth_of m code
  pub depth_in : unsigned_abs c.depth < 2 ^ 31
  pub italic : c.italic ≡ italic_of m code
  pub italic_in : unsigned_abs c.italic < 2 ^ 31
  pub is_there : c.is_there ≡ is_there m.file code
  pub start : c.start ≡ character_start m.file code

-- nothing is said
abbrev pub unsaid : CharacterMetrics
unsaid = record { width = pos 0; height = pos 0; depth = pos 0; italic = pos 0; is_there = false; start = None }

-- this is what it says of all characters and of the boundary
pub record AreSaid (m : Metrics) (kept : Characters) : Type 0 where
  pub characters : (code : ℕ) → code < 256 → IsSaid m code (get_or kept.by_code.items code unsaid)
  pub left : kept.left ≡ boundary_start m.file
  pub right : kept.right ≡ boundary_code m.file

-- what holds of a font: its file breaks no rule, and it keeps what this says
pub record IsFont (m : Metrics) (kept : Characters) : Type 0 where
  pub sound : IsSound m
  pub said : AreSaid m kept
