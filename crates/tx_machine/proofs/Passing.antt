-- Turns that were taken at one go are the first turns of the stretch: as many, and nothing is said and nothing noted in them.
use Rattle.std.proofs.Common.{◌≡◌, ℕ, zero, suc, ◌+◌, ◌-◌, ◌<◌, ◌≤◌, List, [], ◌++◌, None, refl, sym, ap, ◌∙◌, arith}
use Rattle.tx_bytes.specs.Files.{Files}
use Rattle.tx_files.specs.Reads.{Reads, noting}
use Rattle.tx_machine.specs.Counts.{HasCounted, Passes}
use Rattle.tx_event.specs.Turns.{Ready, mode_after}
use Rattle.tx_machine.specs.Machine.{Formatter, IsLawful}
use Rattle.tx_machine.specs.Plain.{ArePlain, IsPlain}
use Rattle.tx_machine.specs.Steps.{raised}
use Rattle.tx_machine.specs.Turn.{Place, Progress, one_turn, joined, stretch}
use Rattle.tx_machine.proofs.Stretch.{one_turn-plain, stretch-on}
use Rattle.tx_machine.proofs.Going.{Going, going-bound, raised-raised}

-- plain turns leave the machine ready
pub ready-plain : {S : Type 0} (m : Formatter S) → IsLawful m → (count : ℕ) (from to : S) → ArePlain m count from to → m.mode from ≡ Ready → m.mode to ≡ Ready
ready-plain m lawful zero from to same ready = ap m.mode (sym same) ∙ ready
ready-plain m lawful (suc more) from to (mid, (firsts, last)) ready =
    ap m.mode (sym last.next) ∙ lawful.turns mid (ready-plain m lawful more from mid firsts ready) ∙ ap mode_after last.went

-- so many turns and then others, where the first have said and seen nothing
abbrev pub behind : {S : Type 0} → ℕ → Progress S → Progress S
behind count t = record t { turns = count + t.turns }

module _ {S : Type 0} (m : Formatter S) (files : Files) where
  -- the place after none of them is the same place
  same_place : {from to : Place S} → Passes m from 0 to → from ≡ to
  same_place {from = from} {to = to} passes = let left : from.left ≡ to.left = omega (arith, passes.left_is) in
      λ i. record { state = passes.turns i; opens = sym passes.opens_are i; left = left i }

  behind-none : (t : Progress S) → t ≡ behind 0 t
  behind-none t = let none : t.turns ≡ 0 + t.turns = omega arith in λ i. record t { turns = none i }

  behind-one : (count : ℕ) (t : Progress S) → behind count (behind 1 t) ≡ behind (suc count) t
  behind-one count t = let one : count + (1 + t.turns) ≡ suc count + t.turns = omega arith in λ i. record t { turns = one i }

  -- a stretch whose first turn is plain
  stretch-plain : IsLawful m → (from to : Place S) → IsPlain m from.state to.state → to.opens ≡ from.opens → from.left ≡ suc to.left → stretch m files from ≡ behind 1 (stretch m files to)
  stretch-plain lawful from to plain opens left =
      let next : Place S = record { state = to.state; opens = from.opens; left = from.left - 1 } in
      let turn : one_turn m files from ≡ record { close = None; said = []; turns = 1; log = []; place = next } = one_turn-plain m files from plain (omega arith) in
      let rest : from.left - 1 ≡ to.left = omega arith in
      let same : next ≡ to = λ i. record { state = to.state; opens = sym opens i; left = rest i } in
      stretch-on m files lawful from (ap (λ t. t.close) turn) ∙ ap (λ t. joined t (stretch m files t.place)) turn ∙ ap (λ (p : Place S). behind 1 (stretch m files p)) same

  -- a stretch whose first turns are plain
  pub stretch-passed : IsLawful m → (count : ℕ) {from to : Place S} → Passes m from count to → stretch m files from ≡ behind count (stretch m files to)
  stretch-passed lawful zero {from = from} {to = to} passes = ap (stretch m files) (same_place passes) ∙ behind-none (stretch m files to)
  stretch-passed lawful (suc more) {from = from} {to = to} passes =
      let mid : Place S = record { state = passes.turns.0; opens = from.opens; left = suc to.left } in
      stretch-passed lawful more {from = from} {to = mid} (record { turns = passes.turns.1.0; opens_are = refl; left_is = omega (arith, passes.left_is) })
      ∙ ap (behind more) (stretch-plain lawful mid to passes.turns.1.1 passes.opens_are refl)
      ∙ behind-one more (stretch m files to)

module _ {S : Type 0} {m : Formatter S} {files : Files} {begun here : Place S} {told : List ℕ} {turns : ℕ} {at_first seen : Reads} {before now : ℕ} (lawful : IsLawful m) (so_far : Going m files begun here told turns at_first seen before now) where
  -- after turns at one go
  pub going-passed : {passed : ℕ} {next : Place S} {told' : List ℕ} {now' : ℕ} → Passes m here passed next → told' ≡ told → now' ≡ raised now passed → Going m files begun next told' (turns + passed) at_first seen before now'
  going-passed {passed = passed} {next = next} passes kept count =
      let all : stretch m files here ≡ behind passed (stretch m files next) = stretch-passed m files lawful passed passes in
      record {
        ready = ready-plain m lawful passed here.state next.state passes.turns so_far.ready;
        counted = count ∙ ap (λ n. raised n passed) so_far.counted ∙ raised-raised before turns passed;
        within = omega (arith, so_far.within, passes.left_is);
        close = so_far.close ∙ ap (λ t. t.close) all;
        said = so_far.said ∙ (λ i. sym kept i ++ (all i).said);
        total = so_far.total ∙ ap (λ t. turns + t.turns) all ∙ (let sum : turns + (passed + (stretch m files next).turns) ≡ turns + passed + (stretch m files next).turns = omega arith in sum);
        reads = so_far.reads ∙ ap (λ t. noting seen t.log) all;
        place = so_far.place ∙ ap (λ t. t.place) all;
      }

  -- what leaves less of the budget behind them leaves less than there was before them
  pub passed-less : {passed left : ℕ} {next : Place S} → Passes m here passed next → left < next.left → left < here.left
  passed-less passes less = omega (arith, passes.left_is)

  -- they fit the count
  pub passed-fits : {passed : ℕ} {next : Place S} → Passes m here passed next → turns + passed ≤ begun.left
  passed-fits passes = omega (arith, so_far.within, passes.left_is)

  -- behind them, where the count is theirs
  pub going-behind : {passed : ℕ} {next : Place S} → Passes m here passed next → Going m files begun next told (turns + passed) at_first seen before (raised now passed)
  going-behind passes = going-passed passes refl refl

  -- where memory was wanted among turns, no more were counted than the stretch has
  pub counted-bound : {now' : ℕ} → HasCounted m files here now now' → now' ≤ raised before (stretch m files begun).turns
  counted-bound k =
      let most : raised (raised now k.passed) (one_turn m files k.mid).turns ≤ raised before (stretch m files begun).turns = going-bound lawful (going-behind k.passes) refl in
      omega (arith, k.counted)
