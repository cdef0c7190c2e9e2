-- How a token is taken where it stands, by an expansion that reads, skips or is the use of a macro.
use Rattle.std.specs.Prelude.{◌≡◌, ℕ, Bool, true, false, None, List, ◌∷◌}
use Rattle.tx_char.specs.declared.category.Cat.{Cat}
use Rattle.tx_char.specs.declared.tokens.Token.{Token}
use Rattle.tx_char.specs.declared.tokens.Token.TheVariants.{Character}
use Rattle.tx_cond.specs.declared.types.SkipItem.{SkipItem}
use Rattle.tx_cond.specs.Skipping.{passing, IsPassed}
use Rattle.tx_prim.specs.declared.expandable.CondWord.{CondWord}
use Rattle.tx_pending.specs.Elements.{Input, given_back}
use Rattle.tx_seen.specs.declared.fed.Fed.{Fed}
use Rattle.tx_seen.specs.declared.fed.Value.{Value}
use Rattle.tx_seen.specs.declared.fed.Want.{Want}
use Rattle.tx_seen.specs.declared.item.Item.{Item}
use Rattle.tx_seen.specs.declared.meaning.Meaning.TheVariants as meaning
use Rattle.tx_seen.specs.declared.place.Place.{Place}
use Rattle.tx_seen.specs.declared.seen.Seen.{Seen}
use Rattle.tx_seen.specs.Readings.{More, Done, Wrong}
use Rattle.tx_scan.specs.Rests.{HasTakenBy}
use Rattle.tx_scan.specs.Settled as settled
use Rattle.tx_scan.specs.Settled.{tokens_of}
use Rattle.tx_expand.specs.declared.begun.Begun.{Begun}
use Rattle.tx_expand.specs.declared.begun.Begun.TheVariants as begun
use Rattle.tx_expand.specs.declared.part.Part.{Part}
use Rattle.tx_expand.specs.declared.state.Expander.{Expander}
use Rattle.tx_expand.specs.declared.types.Expanded.TheVariants as answer
use Rattle.tx_expand.specs.declared.types.Made.{Made}
use Rattle.tx_expand.specs.declared.types.Read.{Read}
use Rattle.tx_expand.specs.declared.types.Read.TheVariants as read
use Rattle.tx_expand.specs.declared.types.Scanned.{Scanned}
use Rattle.tx_expand.specs.declared.types.Wanted.{Wanted}
use Rattle.tx_expand.specs.Expanding.{reader_of}
use Rattle.tx_expand.specs.Parts.{rest, held, more_needed}
use Rattle.tx_expand.specs.Reader.{Goes, World}
use Rattle.tx_expand.specs.Scans.{Scan, reading}
use Rattle.tx_expand.specs.Steps.{HasJoined}
use Rattle.tx_expand.specs.Turns.{is_opening, joined, magnification_taken, token_read}
use Rattle.tx_expand.specs.Uses.{Use, comes_to, with_taken}
use Rattle.tx_macro.specs.Matching as macro

-- the answer says what these items come to, and those that were taken are they
abbrev pub IsSettled : Scanned → List Item → List Item → Part → Fed Made → Type 0
IsSettled what = settled.IsSettled (reading what) (HasTakenBy rest held (reading what)) more_needed

-- the same; or a value is needed
abbrev pub IsPending : (Place → Value) → Scanned → List Item → List Item → Part → Fed Made → Type 0
IsPending at what = settled.IsPending at (reading what) (HasTakenBy rest held (reading what)) more_needed

-- of these items more is to come; or they come to that, and what wasn't needed is read again; or they are wrong
abbrev pub IsReadAll : Scan → List Item → Input → Scan → Input → Read → Type 0
IsReadAll old items before new after read.More =
    ((want : Want) × (reading old.what items ≡ More want)) × ((new ≡ record { what = old.what; taken = items }) × (after ≡ before))
IsReadAll old items before new after (read.Made made) =
    (back : List Item) × ((reading old.what items ≡ Done made back) × (after ≡ given_back before (tokens_of back)))
IsReadAll old items before new after (read.Wrong error) = reading old.what items ≡ Wrong error

-- one more token
abbrev pub IsRead : (Place → Value) → Scan → Seen → Input → Scan → Input → Read → Type 0
IsRead at old t before new after answer = IsReadAll old (joined at old t) before new after answer

-- one more token, of an expansion that reads
abbrev pub IsReadBegun : (Place → Value) → Begun → Seen → Input → Begun → Input → Read → Type 0
IsReadBegun at old t before new after answer =
    (scan : Scan) → old ≡ begun.Scanning scan → (left : Scan) × ((new ≡ begun.Scanning left) × IsRead at scan t before left after answer)

-- the innermost expansion is that: those around it stay as they are
abbrev pub IsReadFirst : (Place → Value) → List Begun → Seen → Input → List Begun → Input → Read → Type 0
IsReadFirst at old t before new after answer =
    (scan : Scan) (outer : List Begun) → old ≡ begun.Scanning scan ∷ outer → (left : Scan) × ((new ≡ begun.Scanning left ∷ outer) × IsRead at scan t before left after answer)

-- one more item of text that is skipped
abbrev pub IsPassedBegun : Begun → SkipItem → Begun → Fed CondWord → Type 0
IsPassedBegun old item new answer =
    (depth : ℕ) → old ≡ begun.Skipping depth → (left : ℕ) × ((new ≡ begun.Skipping left) × IsPassed (passing depth item) answer left)

-- the innermost expansion is that: those around it stay as they are
abbrev pub IsPassedFirst : List Begun → SkipItem → List Begun → Fed CondWord → Type 0
IsPassedFirst old item new answer =
    (depth : ℕ) (outer : List Begun) → old ≡ begun.Skipping depth ∷ outer → (left : ℕ) × ((new ≡ begun.Skipping left ∷ outer) × IsPassed (passing depth item) answer left)

-- one more token of the use of a macro
abbrev pub IsJoinedBegun : Begun → Token → Bool → Begun → Type 0
IsJoinedBegun old t joined new =
    (u : Use) → old ≡ begun.Use u → (left : Use) × ((new ≡ begun.Use left) × HasJoined u t joined left)

-- the innermost expansion is that: those around it stay as they are
abbrev pub IsJoinedFirst : List Begun → Token → Bool → List Begun → Type 0
IsJoinedFirst old t joined new =
    (u : Use) (outer : List Begun) → old ≡ begun.Use u ∷ outer → (left : Use) × ((new ≡ begun.Use left ∷ outer) × HasJoined u t joined left)

-- a token has joined the use of a macro that goes on, the innermost expansion
pub record IsUseJoined (old : List Begun) (t : Token) (new : List Begun) : Type 0 where
  pub usage : Use
  pub outer : List Begun
  pub was : old ≡ begun.Use usage ∷ outer
  pub open_still : comes_to (with_taken usage t) ≡ macro.Open
  pub is : new ≡ begun.Use (with_taken usage t) ∷ outer

-- whether one has; else nothing changes
abbrev pub HasUseJoined : List Begun → Token → Bool → List Begun → Type 0
HasUseJoined old t true new = IsUseJoined old t new
HasUseJoined old t false new = new ≡ old

-- a character that means itself
abbrev pub character : ℕ → Cat → Seen
character code kind = record { token = Character code kind; meaning = meaning.Character code kind }

-- a token that is read joins what is open, and another one is needed, however the caller wants it and whatever else is pending
pub record IsTakenIn (old : Expander) (t : Seen) (new : Expander) : Type 0 where
  pub opening : is_opening old.begun ≡ false
  pub reads : (w : World) (wanted : Wanted) (input : Input) → token_read w wanted t (reader_of old input) ≡ Goes answer.Went (reader_of new input)
  pub silent : magnification_taken new.begun ≡ None

-- whether it does; else nothing changes
abbrev pub HasTakenIn : Expander → Seen → Bool → Expander → Type 0
HasTakenIn old t true new = IsTakenIn old t new
HasTakenIn old t false new = (input : Input) → reader_of new input ≡ reader_of old input
