-- A stretch whose sights changes leave is the same stretch on the changed files, and reads no open file past what they leave.
use Rattle.std.proofs.Common.{◌≡◌, ℕ, zero, suc, ◌-◌, Bool, true, false, cond, List, [], Option, Some, None, refl, ap, ◌∙◌, nat_lt}
use Rattle.tx_bytes.specs.Files.{Files}
use Rattle.tx_files.specs.declared.edit.Change.{Change}
use Rattle.tx_machine.specs.declared.types.Close.{Close}
use Rattle.tx_machine.specs.declared.types.Close.TheVariants.{Spent}
use Rattle.tx_event.specs.declared.types.Event.{Event}
use Rattle.tx_event.specs.declared.types.Event.TheVariants.{Went, Asks, Shipped, Stopped}
use Rattle.tx_machine.specs.declared.types.OpenFile.{OpenFile}
use Rattle.tx_machine.specs.Machine.{Formatter}
use Rattle.tx_machine.specs.Turn.{Place, Progress, replied, after_event, one_turn, joined, stretch, stretch_by}
use Rattle.tx_checkpoint.proofs.Untouched.{AreLeft, AreLeft-front, AreLeft-back}
use Rattle.tx_checkpoint.proofs.Edited.{SameAsk}
use Rattle.tx_checkpoint.proofs.Within.{AreWithin, ask-within}
use Rattle.tx_checkpoint.proofs.Spared.{Spared}

-- a turn, and where it ended nothing the turns behind it
abbrev unrolled : {S : Type 0} → Progress S → Progress S → Option Close → Progress S
unrolled first later None = joined first later
unrolled first later (Some close) = first

module _ {S : Type 0} (m : Formatter S) (changes : List Change) where
  module _ (files : Files) where
    event_within : (opens : List OpenFile) (left : ℕ) (next : S) (said : List ℕ) (event : Event) → AreWithin changes opens → AreLeft changes (after_event m files opens left next said event).log
        → AreWithin changes (after_event m files opens left next said event).place.opens
    event_within opens left next said Went within seen = within
    event_within opens left next said (Asks ask) within seen = ask-within changes files opens ask within seen
    event_within opens left next said (Shipped body) within seen = within
    event_within opens left next said (Stopped stop) within seen = within

    turn_within : (p : Place S) → AreWithin changes p.opens → AreLeft changes (one_turn m files p).log → AreWithin changes (one_turn m files p).place.opens
    unfolding one_turn
    turn_within p within seen = by (nat_lt p.left (m.cost p.state)) seen
      where
        after : Progress S
        after = after_event m files p.opens (p.left - m.cost p.state) (m.step p.state).next (m.step p.state).said (m.step p.state).event

        by : (b : Bool) → AreLeft changes (cond b (record { close = Some Spent; said = []; turns = 0; log = []; place = p }) after).log
            → AreWithin changes (cond b (record { close = Some Spent; said = []; turns = 0; log = []; place = p }) after).place.opens
        by true seen = within
        by false seen = event_within p.opens _ _ _ (m.step p.state).event within seen

    within_by : (fuel : ℕ) (p : Place S) → AreWithin changes p.opens → AreLeft changes (stretch_by m files fuel p).log → AreWithin changes (stretch_by m files fuel p).place.opens
    within_by zero p within seen = turn_within p within seen
    within_by (suc fuel) p within seen = by (within_by fuel (one_turn m files p).place) (one_turn m files p).close seen
      where
        first : Progress S
        first = one_turn m files p

        later : Progress S
        later = stretch_by m files fuel first.place

        by : (AreWithin changes first.place.opens → AreLeft changes later.log → AreWithin changes later.place.opens) → (close : Option Close) → AreLeft changes (unrolled first later close).log → AreWithin changes (unrolled first later close).place.opens
        by there None seen = there (turn_within p within (AreLeft-front changes first.log later.log seen)) (AreLeft-back changes first.log later.log seen)
        by there (Some c) seen = turn_within p within seen

    pub within-stretch : (p : Place S) → AreWithin changes p.opens → AreLeft changes (stretch m files p).log → AreWithin changes (stretch m files p).place.opens
    unfolding stretch
    within-stretch p within seen = within_by p.left p within seen

  module _ {before after : Files} (spare : Spared before after changes) where
    event_same : (opens : List OpenFile) (left : ℕ) (next : S) (said : List ℕ) (event : Event) → AreLeft changes (after_event m before opens left next said event).log
        → after_event m after opens left next said event ≡ after_event m before opens left next said event
    event_same opens left next said Went seen = refl
    event_same opens left next said (Asks ask) seen =
        let same : SameAsk before after opens ask = spare.asks opens ask seen in
        λ i. record { close = None; said = said; turns = 1; log = same.notes i; place = replied m next left (same.reply i) }
    event_same opens left next said (Shipped body) seen = refl
    event_same opens left next said (Stopped stop) seen = refl

    turn_same : (p : Place S) → AreLeft changes (one_turn m before p).log → one_turn m after p ≡ one_turn m before p
    unfolding one_turn
    turn_same p seen = by (nat_lt p.left (m.cost p.state)) seen
      where
        on : Files → Progress S
        on files = after_event m files p.opens (p.left - m.cost p.state) (m.step p.state).next (m.step p.state).said (m.step p.state).event

        by : (b : Bool) → AreLeft changes (cond b (record { close = Some Spent; said = []; turns = 0; log = []; place = p }) (on before)).log
            → cond b (record { close = Some Spent; said = []; turns = 0; log = []; place = p }) (on after) ≡ cond b (record { close = Some Spent; said = []; turns = 0; log = []; place = p }) (on before)
        by true seen = refl
        by false seen = event_same p.opens _ _ _ (m.step p.state).event seen

    same_by : (fuel : ℕ) (p : Place S) → AreLeft changes (stretch_by m before fuel p).log → stretch_by m after fuel p ≡ stretch_by m before fuel p
    same_by zero p seen = turn_same p seen
    same_by (suc fuel) p seen = by (same_by fuel (one_turn m before p).place) (one_turn m before p).close refl seen
      where
        first : Progress S
        first = one_turn m before p

        later : Progress S
        later = stretch_by m before fuel first.place

        then : Progress S → Progress S → Progress S
        then t rest = unrolled t rest t.close

        by : (AreLeft changes later.log → stretch_by m after fuel first.place ≡ later) → (close : Option Close) → first.close ≡ close → AreLeft changes (unrolled first later close).log
            → then (one_turn m after p) (stretch_by m after fuel (one_turn m after p).place) ≡ unrolled first later close
        by there None is seen =
            ap (λ (t : Progress S). then t (stretch_by m after fuel t.place)) (turn_same p (AreLeft-front changes first.log later.log seen))
            ∙ ap (then first) (there (AreLeft-back changes first.log later.log seen))
            ∙ ap (λ (close : Option Close). unrolled first later close) is
        by there (Some c) is seen =
            ap (λ (t : Progress S). then t (stretch_by m after fuel t.place)) (turn_same p seen)
            ∙ ap (λ (close : Option Close). unrolled first (stretch_by m after fuel first.place) close) is

    pub same-stretch : (p : Place S) → AreLeft changes (stretch m before p).log → stretch m after p ≡ stretch m before p
    unfolding stretch
    same-stretch p seen = same_by p.left p seen
