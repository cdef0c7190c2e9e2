-- What a part of a call leaves where it met trouble, and where it didn't.
use Rattle.std.specs.Prelude.{◌≡◌, ℕ, ◌≤◌, List, Option, Result, Ok, Err}
use Rattle.tx_io.specs.Output.{Output, Piece, told}
use Rattle.tx_io.specs.Cut.{IsCutShort}
use Rattle.tx_io.specs.Faults.{CountsFault}
use Rattle.tx_call.specs.declared.trouble.Trouble.{Trouble}
use Rattle.tx_call.specs.declared.trouble.Trouble.TheVariants.{Memory, Source, Sink}
use Rattle.tx_machine.specs.Steps.{raised}
use Rattle.tx_call.specs.declared.trouble.Interruption.{Interruption}
use Rattle.tx_call.specs.declared.trouble.Interruption.TheVariants.{Trouble as Interrupted, RefusedEdit}
use Rattle.tx_call.specs.Replay.{IsRefused}
use Rattle.tx_call.specs.Outcome.{Outcome, IsDone}

-- all pieces were put out, or the first of them
abbrev pub PutsOut : {T : Type 0} → Result T Trouble → Option Output → List Piece → Option Output → Type 0
PutsOut (Ok value) before pieces after = after ≡ told before pieces
PutsOut (Err trouble) before pieces after = IsCutShort before pieces after

-- trouble with the source or the sink comes only where it counted a fault; else the counts stay
abbrev pub Causes : {T : Type 0} → Result T Trouble → ℕ → ℕ → ℕ → ℕ → Type 0
Causes (Ok value) source source' sink sink' = (source' ≡ source) × (sink' ≡ sink)
Causes (Err Memory) source source' sink sink' = (source' ≡ source) × (sink' ≡ sink)
Causes (Err Source) source source' sink sink' = CountsFault source source' × (sink' ≡ sink)
Causes (Err Sink) source source' sink sink' = (source' ≡ source) × CountsFault sink sink'

-- the same of a part that has no sink
abbrev pub SourceCauses : {T : Type 0} → Result T Trouble → ℕ → ℕ → Type 0
SourceCauses (Ok value) before now = now ≡ before
SourceCauses (Err Memory) before now = now ≡ before
SourceCauses (Err Source) before now = CountsFault before now
SourceCauses (Err Sink) before now = ⊥

-- and of one that has no source
abbrev pub SinkCauses : {T : Type 0} → Result T Trouble → ℕ → ℕ → Type 0
SinkCauses (Ok value) before now = now ≡ before
SinkCauses (Err Memory) before now = now ≡ before
SinkCauses (Err Source) before now = ⊥
SinkCauses (Err Sink) before now = CountsFault before now

-- a part that edits: where memory refuses an edit, what is told of it may meet a fault of the sink
abbrev pub EditCauses : {T : Type 0} → Result T Interruption → ℕ → ℕ → Type 0
EditCauses (Ok value) before now = now ≡ before
EditCauses {T} (Err (Interrupted trouble)) before now = SinkCauses {T = T} (Err trouble) before now
EditCauses (Err RefusedEdit) before now = before ≤ now

-- and a part that has a source besides
abbrev pub AllCauses : {T : Type 0} → Result T Interruption → ℕ → ℕ → ℕ → ℕ → Type 0
AllCauses (Ok value) source source' sink sink' = (source' ≡ source) × (sink' ≡ sink)
AllCauses {T} (Err (Interrupted trouble)) source source' sink sink' = Causes {T = T} (Err trouble) source source' sink sink'
AllCauses (Err RefusedEdit) source source' sink sink' = (source' ≡ source) × (sink ≤ sink')

-- what was done by the answer
abbrev pub Ends : Result ℕ Interruption → Outcome → Option Output → Option Output → ℕ → ℕ → Type 0
Ends (Ok status) outcome before after steps steps' = IsDone outcome status before after steps steps'
Ends (Err (Interrupted trouble)) outcome before after steps steps' = IsCutShort before outcome.pieces after
Ends (Err RefusedEdit) outcome before after steps steps' = IsRefused outcome.refusal before after

pub record Does (result : Result ℕ Interruption) (outcome : Outcome) (before after : Option Output) (steps steps' : ℕ) : Type 0 where
  pub ends : Ends result outcome before after steps steps'
  pub most : steps' ≤ raised steps outcome.turns
