-- What the answers of a source mean.
use Rattle.std.specs.Prelude.{◌≡◌, ℕ, List, Option, Some, None}
use Rattle.tx_io.specs.Faults.{CountsFault}
use Rattle.tx_io.specs.declared.source.Fetched.{Fetched}
use Rattle.tx_io.specs.declared.source.Fetched.TheVariants.{Found, Absent, Failed, OutOfMemory}

-- what an answer says of the content that is held under the name: Found has its bytes, Absent says that there is none
abbrev pub FetchGives : Fetched → Option (List ℕ) → Type 0
FetchGives (Found bytes) held = held ≡ Some bytes
FetchGives Absent held = held ≡ None
FetchGives Failed held = Unit {0}
FetchGives OutOfMemory held = Unit {0}

-- Failed comes only where a fault was counted, and any other answer leaves the count
abbrev pub FetchCause : Fetched → ℕ → ℕ → Type 0
FetchCause (Found bytes) before now = now ≡ before
FetchCause Absent before now = now ≡ before
FetchCause Failed before now = CountsFault before now
FetchCause OutOfMemory before now = now ≡ before
