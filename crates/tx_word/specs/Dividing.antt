-- A word that is divided, as the code has it. No public clause speaks of it.
use Rattle.std.specs.Prelude.{◌≡◌, ◌≤◌, ℕ, Bool, List, length, Option, Some, true}
use Rattle.std.specs.List.{All}
use Rattle.tx_ligkern.specs.declared.item.LigItem.{LigItem}
use Rattle.tx_ligkern.specs.declared.seam.Seam.{Seam}
use Rattle.tx_tfm.specs.declared.state.FontState.{FontState}
use Rattle.tx_tfm.specs.Fonts.{font_at, has_character}
use Rattle.tx_word.specs.declared.division.Division.{Division}
use Rattle.tx_word.specs.declared.dividing.Dividing.{Dividing}
use Rattle.tx_word.specs.declared.dividing.Letters.{Letters}
use Rattle.tx_word.specs.Composed.{composed_in}
use Rattle.tx_word.specs.Divisions.{IsBetween, Part, divisions_of, last_seam, parted, seam_at, seam_of}

-- a seam that was noted is the one at its place, and there are as many items as stand before it
pub record IsNoted (fonts : List FontState) (font : ℕ) (chars : List ℕ) (left right : Bool) (items : List LigItem) (seam : Seam) : Type 0 where
  pub is_seam : seam_at fonts font chars left right seam.place ≡ Some seam
  pub few : seam.item ≤ length items

-- a word that is divided has the items that it becomes; its characters are in the font, and its places between two of them
pub record IsDividing (w : Dividing) : Type 0 where
  pub there : All (λ c. has_character w.fonts.now w.font c ≡ true) w.chars.now
  pub items_are : w.items.now ≡ composed_in (font_at w.fonts.now w.font) w.chars.now w.left w.right
  pub noted : All (IsNoted w.fonts.now w.font w.chars.now w.left w.right w.items.now) w.seams.now
  pub between : All (IsBetween w.chars.now) w.places.now

-- its seam at a place, its last one, and its divisions
abbrev pub seam_in : Dividing → ℕ → Option Seam
seam_in w place = seam_of w.fonts.now w.font w.chars.now w.left w.right place

abbrev pub last_in : Dividing → Seam
last_in w = last_seam (length w.chars.now) (length w.items.now)

abbrev pub divisions_in : Dividing → List Division
divisions_in w = divisions_of (seam_in w) (last_in w) w.places.now

-- its characters are in the font
abbrev pub AreThere : Letters → Type 0
AreThere w = All (λ c. has_character w.fonts.now w.font c ≡ true) w.chars.now

-- a division as a part of its list
abbrev pub parted_in : Letters → Division → Part
parted_in w d = parted w.fonts.now w.font w.chars.now w.left w.right w.hyphen d
