-- The part in which two texts differ: what stands between their longest common beginning and, behind it, their longest common end.
use Rattle.std.specs.Prelude.{◌≡◌, ℕ, suc, ◌+◌, ◌-◌, ◌==◌, ◌≤◌, List, [], ◌∷◌, length, take, drop, reverse, Option, Some, None, if◌then◌else◌}
use Rattle.tx_bytes.specs.Files.{Files, content}
use Rattle.tx_files.specs.Edits.{spliced}
use Rattle.tx_differing.specs.declared.part.Differing.{Differing}
use Rattle.tx_files.specs.declared.edit.Edit.{Edit}

-- with how many equal bytes two texts begin
abbrev pub common : List ℕ → List ℕ → ℕ
common [] new = 0
common (a ∷ old) [] = 0
common (a ∷ old) (b ∷ new) = if a == b then suc (common old new) else 0

-- with how many they end
abbrev pub common_end : List ℕ → List ℕ → ℕ
common_end old new = common (reverse old) (reverse new)

-- where the part begins, how many bytes the old text has there, and how many the new one
abbrev pub differing_at : List ℕ → List ℕ → ℕ → ℕ → Differing
differing_at old new place end = record { place = place; removed = length old - place - end; put = length new - place - end }

abbrev pub differing : List ℕ → List ℕ → Differing
differing old new = let place = common old new in differing_at old new place (common_end (drop place old) (drop place new))

-- the bytes of the new text there
abbrev pub put_in : List ℕ → Differing → List ℕ
put_in new part = take part.put (drop part.place new)

-- with the part exchanged the old text is the new one; and whoever exchanges one part of the old text for others so that it is the
-- new one, takes out at least as many bytes and puts in at least as many
pub record IsShortest (old new : List ℕ) (part : Differing) : Type 0 where
  pub fits : part.place + part.removed ≤ length old
  pub within : part.place + part.put ≤ length new
  pub gives : spliced old part.place part.removed (put_in new part) ≡ new
  pub removes : (place removed : ℕ) (put : List ℕ) → place + removed ≤ length old → spliced old place removed put ≡ new → part.removed ≤ removed
  pub puts : (place removed : ℕ) (put : List ℕ) → place + removed ≤ length old → spliced old place removed put ≡ new → part.put ≤ length put

-- the edit that gives a file these contents; None where it has them
abbrev pub edit_by : List ℕ → List ℕ → Differing → Edit
edit_by name new part = record { name = name; place = part.place; removed = part.removed; put = put_in new part }

abbrev pub edit_from : List ℕ → List ℕ → List ℕ → Differing → Option Edit
edit_from name old new part = if part.removed + part.put == 0 then None else Some (edit_by name new part)

abbrev pub edit_of : List ℕ → Option (List ℕ) → List ℕ → Option Edit
edit_of name None new = Some (edit_by name new (differing [] new))
edit_of name (Some old) new = edit_from name old new (differing old new)

abbrev pub edit_to : Files → List ℕ → List ℕ → Option Edit
edit_to files name new = edit_of name (content files name) new
