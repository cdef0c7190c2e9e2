-- What the answers of an inlet mean.
use Rattle.std.specs.Prelude.{◌≡◌, ℕ, suc, ◌==◌, if◌then◌else◌, List, [], ◌∷◌, length, take, drop, Option, Some, IfSome}
use Rattle.tx_io.specs.Faults.{CountsFault}
use Rattle.tx_io.specs.declared.inlet.Came.{Came}
use Rattle.tx_io.specs.declared.inlet.Came.TheVariants.{Here, Failed, OutOfMemory}
use Rattle.tx_io.specs.declared.inlet.Passed.{Passed}
use Rattle.tx_io.specs.declared.inlet.Passed.TheVariants as passed

-- how long the first line of some bytes is, with its LF; where no LF comes, all of them are the line
abbrev pub line_len : List ℕ → ℕ
line_len [] = 0
line_len (byte ∷ bytes) = if byte == 10 then 1 else suc (line_len bytes)

-- that line, and what follows it
abbrev pub line_of : List ℕ → List ℕ
line_of bytes = take (line_len bytes) bytes

abbrev pub behind_line : List ℕ → List ℕ
behind_line bytes = drop (line_len bytes) bytes

-- what came is this front of what was to come, and what follows it is still to come; where it failed nothing was taken
abbrev pub ComesFrom : Came → (List ℕ → List ℕ) → Option (List ℕ) → Option (List ℕ) → Type 0
ComesFrom (Here bytes) front before after = IfSome before (λ left. (bytes ≡ front left) × (after ≡ Some (drop (length bytes) left)))
ComesFrom Failed front before after = after ≡ before
ComesFrom OutOfMemory front before after = Unit {0}

-- a line was passed over, or, where it failed, nothing
abbrev pub PassGives : Passed → Option (List ℕ) → Option (List ℕ) → Type 0
PassGives passed.Done before after = IfSome before (λ left. after ≡ Some (behind_line left))
PassGives passed.Failed before after = after ≡ before

-- Failed comes only where a fault was counted, and any other answer leaves the count
abbrev pub ComeCause : Came → ℕ → ℕ → Type 0
ComeCause (Here bytes) before now = now ≡ before
ComeCause Failed before now = CountsFault before now
ComeCause OutOfMemory before now = now ≡ before

abbrev pub PassCause : Passed → ℕ → ℕ → Type 0
PassCause passed.Done before now = now ≡ before
PassCause passed.Failed before now = CountsFault before now
