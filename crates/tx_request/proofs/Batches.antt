-- Reading the changes of a batch as they come in.
use Rattle.std.proofs.Common.{◌≡◌, ℕ, suc, ◌-◌, List, [], ◌∷◌, ◌++◌, length, refl, sym, ap, ◌∙◌, append_assoc, arith}
use Rattle.std.specs.Prelude.{Option, Some, None, IfSome, IsSomeAnd, Ok, Err}
use Rattle.std.specs.List.{flat_map}
use Rattle.std.proofs.lemmas.List.{append-nil}
use Rattle.tx_files.specs.declared.edit.Change.{Change}
use Rattle.tx_script.specs.Text.{change_elements}
use Rattle.tx_script.specs.Reading.{Read, ◌>>=◌}
use Rattle.tx_script.proofs.Repeats.{AllSo}
use Rattle.tx_request.specs.declared.stopped.Stopped.{Stopped}
use Rattle.tx_request.specs.declared.stopped.Stopped.TheVariants.{Refused, Failed, OutOfMemory}
use Rattle.tx_request.specs.Reading.{change_at, changes_at}
use Rattle.tx_request.specs.Streaming.{BreaksOff, StreamsOf}
use Rattle.tx_request.proofs.Bodies.{change_reads, changes_reads, IsShortChange}
use Rattle.tx_request.proofs.Streams.{ends_with, mapped_some, off_behind, off_on, reads_within, stops_behind, within_on, EndsWith, EndsWithin}

-- with these in front
abbrev pub behind : List Change → Read (List Change) → Read (List Change)
behind done r = r >>= λ changes. Ok (done ++ changes.0, changes.1)

-- so many are left, of what an inlet that told these bytes still tells
pub record IsReading (left count : ℕ) (done : List Change) (bytes rest : List ℕ) : Type 0 where
  pub ends : EndsWith bytes rest
  pub whole : behind done (changes_at left rest) ≡ changes_at count bytes

abbrev pub Going : ℕ → ℕ → List Change → Option (List ℕ) → Option (List ℕ) → Type 0
Going left count done before now = IfSome before (λ bytes. IsSomeAnd now (IsReading left count done bytes))

pub going-begun : (count : ℕ) (done : List Change) (left : Option (List ℕ)) → done ≡ [] → Going (count - 0) count done left left
going-begun count done None is = tt
going-begun count done (Some bytes) is =
    let all : count - 0 ≡ count = omega arith in
    record { ends = ([], refl); whole = (λ i. behind (is i) (changes_at (all i) bytes)) ∙ same (changes_at count bytes) }
  where
    same : (r : Read (List Change)) → behind [] r ≡ r
    same (Ok x) = refl
    same (Err b) = refl

-- a change is read
one_more : (fewer left count : ℕ) → left ≡ suc fewer → (done more : List Change) (c : Change) (bytes rest next : List ℕ) → more ≡ done ++ c ∷ []
    → IsReading left count done bytes rest → change_at rest ≡ Ok (c, next) → IsReading fewer count more bytes next
unfolding changes_at
one_more fewer left count is done more c bytes rest next more_is g e =
    let k = ends_with IsShortChange change_elements change_at change_reads c rest next e in
    record {
      ends = (g.ends.0 ++ k.0, g.ends.1 ∙ ap (λ (x : List ℕ). g.ends.0 ++ x) k.1 ∙ sym (append_assoc g.ends.0 k.0 next));
      whole = ap (λ (d : List Change). behind d (changes_at fewer next)) more_is
          ∙ moved (changes_at fewer next)
          ∙ sym (ap (λ (r : Read Change). behind done (r >>= λ it. changes_at fewer it.1 >>= λ changes. Ok (it.0 ∷ changes.0, changes.1))) e)
          ∙ sym (ap (λ (n : ℕ). behind done (changes_at n rest)) is)
          ∙ g.whole;
    }
  where
    moved : (r : Read (List Change)) → behind (done ++ c ∷ []) r ≡ behind done (r >>= λ changes. Ok (c ∷ changes.0, changes.1))
    moved (Ok x) = λ i. Ok (append_assoc done (c ∷ []) x.0 i, x.1)
    moved (Err b) = refl

pub going-on : (fewer left count : ℕ) → left ≡ suc fewer → (done more : List Change) (c : Change) (before now after : Option (List ℕ)) → more ≡ done ++ c ∷ []
    → Going left count done before now → StreamsOf (Ok c) change_at now after → Going fewer count more before after
going-on fewer left count is done more c None now after more_is g e = tt
going-on fewer left count is done more c (Some bytes) None after more_is g e = absurd g
going-on fewer left count is done more c (Some bytes) (Some rest) after more_is g e = mapped_some after (λ next read. one_more fewer left count is done more c bytes rest next more_is g read) e

-- nor do the changes behind one end before it
abbrev with_first : ℕ → Change × List ℕ → Read (List Change)
with_first fewer it = changes_at fewer it.1 >>= λ changes. Ok (it.0 ∷ changes.0, changes.1)

others_within : (fewer : ℕ) (c : Change) (rest : List ℕ) → EndsWithin (with_first fewer (c, rest)) (length rest)
others_within fewer c rest =
    within_on (changes_at fewer rest) (λ (changes : List Change × List ℕ). Ok (c ∷ changes.0, changes.1)) (length rest) (λ changes last. omega arith)
    (reads_within (AllSo IsShortChange fewer) (λ (changes : List Change). flat_map change_elements changes) rest (changes_at fewer rest) (changes_reads fewer rest))

off_in : (fewer : ℕ) (done : List Change) (rest left : List ℕ) → BreaksOff rest (change_at rest) left → BreaksOff rest (behind done (change_at rest >>= with_first fewer)) left
off_in fewer done rest left off =
    off_on rest (change_at rest >>= with_first fewer) (λ (changes : List Change × List ℕ). Ok (done ++ changes.0, changes.1)) left (λ changes last. omega arith)
    (off_on rest (change_at rest) (with_first fewer) left (others_within fewer) off)

-- a change isn't read
pub going-stops : (fewer left count : ℕ) → left ≡ suc fewer → (done : List Change) (e : Stopped) (before now after : Option (List ℕ))
    → Going left count done before now → StreamsOf {X = Change} (Err e) change_at now after → StreamsOf {X = List Change} (Err e) (changes_at count) before after
unfolding changes_at
going-stops fewer left count is done e None now after g h = tt
going-stops fewer left count is done e (Some bytes) None after g h = absurd g
going-stops fewer left count is done (Refused rule passed) (Some bytes) (Some rest) after g h = (
  h.0,
  sym g.whole ∙ ap (λ (n : ℕ). behind done (changes_at n rest)) is
      ∙ ap (λ (r : Read Change). behind done (r >>= λ it. changes_at fewer it.1 >>= λ changes. Ok (it.0 ∷ changes.0, changes.1))) h.1,
  mapped_some after (λ last s. stops_behind bytes rest rule passed h.0 last g.ends s) h.2,
)
going-stops fewer left count is done Failed (Some bytes) (Some rest) after g h =
    mapped_some after (λ last off.
    off_behind bytes rest (changes_at count bytes) (behind done (change_at rest >>= with_first fewer)) last g.ends (sym g.whole ∙ ap (λ (n : ℕ). behind done (changes_at n rest)) is) (off_in fewer done rest last off)) h
going-stops fewer left count is done OutOfMemory (Some bytes) (Some rest) after g h = tt

-- all are read
pub going-over : (left count : ℕ) → left ≡ 0 → (done : List Change) (before now : Option (List ℕ)) → Going left count done before now → StreamsOf (Ok done) (changes_at count) before now
unfolding changes_at
going-over left count none done None now g = tt
going-over left count none done (Some bytes) now g =
    mapped_some now (λ rest k. sym k.whole ∙ ap (λ (n : ℕ). behind done (changes_at n rest)) none ∙ (λ i. Ok (append-nil done i, rest))) g
