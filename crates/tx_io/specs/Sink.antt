-- What the answers of a sink mean.
use Rattle.std.specs.Prelude.{◌≡◌, ℕ, List, [], ◌∷◌, take, Option, Some, None}
use Rattle.std.specs.Option.{IsSomeAnd}
use Rattle.std.specs.FinMap.{remove}
use Rattle.tx_io.specs.Faults.{CountsFault}
use Rattle.tx_io.specs.Output.{Output, Piece, Say, Save, with_piece, told}
use Rattle.tx_io.specs.declared.sink.Put.{Put}
use Rattle.tx_io.specs.declared.sink.Put.TheVariants.{Done, Failed, OutOfMemory}

-- what a save that was cut short leaves: the file as it was, no file, or a file of the first bytes; all else as it was
pub data IsSavedInPart (before : Output) (name bytes : List ℕ) (after : Output) : Type 0 where
  AsBefore : after ≡ before → IsSavedInPart before name bytes after
  Gone : after ≡ record before { saved = remove before.saved name } → IsSavedInPart before name bytes after
  Begun : (k : ℕ) → after ≡ with_piece before (Save name (take k bytes)) → IsSavedInPart before name bytes after

-- what a piece that was cut short leaves: of text, its first bytes
abbrev pub IsInPart : Output → Piece → Output → Type 0
IsInPart before (Say bytes) after = (k : ℕ) × (after ≡ with_piece before (Say (take k bytes)))
IsInPart before (Save name bytes) after = IsSavedInPart before name bytes after

-- the same, told or not told
abbrev pub IsPutInPart : Option Output → Piece → Option Output → Type 0
IsPutInPart None piece after = after ≡ None
IsPutInPart (Some before) piece after = IsSomeAnd after (IsInPart before piece)

-- Done puts the piece out whole; any other answer cuts it short
abbrev pub PutGives : Put → Option Output → Piece → Option Output → Type 0
PutGives Done before piece after = after ≡ told before (piece ∷ [])
PutGives Failed before piece after = IsPutInPart before piece after
PutGives OutOfMemory before piece after = IsPutInPart before piece after

-- Failed comes only where a fault was counted, and any other answer leaves the count
abbrev pub PutCause : Put → ℕ → ℕ → Type 0
PutCause Done before now = now ≡ before
PutCause Failed before now = CountsFault before now
PutCause OutOfMemory before now = now ≡ before
