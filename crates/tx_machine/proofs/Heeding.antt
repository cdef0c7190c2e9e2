-- A turn is what comes of its event; and turns at one go with one behind them are as many of the stretch.
use Rattle.std.proofs.Common.{◌≡◌, ℕ, suc, ◌+◌, ◌-◌, ◌<◌, ◌≤◌, List, [], ◌++◌, Option, Some, None, refl, sym, ap, ◌∙◌, subst, arith, append-nil}
use Rattle.tx_bytes.specs.Files.{Files}
use Rattle.tx_files.specs.Reads.{Reads, noting}
use Rattle.tx_machine.specs.declared.turn.Taken.{Taken}
use Rattle.tx_event.specs.declared.types.Ask.{Ask}
use Rattle.tx_machine.specs.declared.types.Close.{Close}
use Rattle.tx_machine.specs.declared.types.Close.TheVariants.{Spent}
use Rattle.tx_event.specs.declared.types.Event.{Event}
use Rattle.tx_event.specs.declared.types.Event.TheVariants.{Went, Asks, Shipped, Stopped}
use Rattle.tx_machine.specs.declared.types.OpenFile.{OpenFile}
use Rattle.tx_machine.specs.declared.types.Passed.{Passed}
use Rattle.tx_machine.specs.Counts.{AreTaken, HasCounted, IsAwaiting, IsHeeded, Made, Passes}
use Rattle.tx_event.specs.Turns.{Ready, mode_after}
use Rattle.tx_machine.specs.Machine.{Formatter, IsLawful}
use Rattle.tx_machine.specs.Plain.{HasPassed, HasRunOn, IsLast, IsTaken, turns_of}
use Rattle.tx_machine.specs.Steps.{raised}
use Rattle.tx_machine.specs.Turn.{Place, Progress, after_event, came, one_turn}
use Rattle.tx_machine.proofs.Going.{raised-le, raised-raised, raised-zero}
use Rattle.tx_machine.proofs.Passing.{ready-plain}
use Rattle.tx_machine.proofs.Stretch.{one_turn-allowed, one_turn-refused, turns-after_event}

module _ {S : Type 0} (m : Formatter S) (files : Files) where
  -- what is said changes nothing else
  said-alone : (opens : List OpenFile) (left : ℕ) (next : S) (said : List ℕ) (event : Event) → after_event m files opens left next said event ≡ record (after_event m files opens left next [] event) { said = said }
  said-alone opens left next said Went = refl
  said-alone opens left next said (Asks ask) = refl
  said-alone opens left next said (Shipped body) = refl
  said-alone opens left next said (Stopped stop) = refl

  -- a turn that the budget allows
  pub turn-came : (p : Place S) (left : ℕ) (next : S) (event : Event) → p.left ≡ m.cost p.state + left → event ≡ (m.step p.state).event → next ≡ (m.step p.state).next
      → one_turn m files p ≡ record (came m files (record { state = next; opens = p.opens; left = left }) event) { said = (m.step p.state).said }
  turn-came p left next event fits event_is next_is =
      let rest : p.left - m.cost p.state ≡ left = omega arith in
      one_turn-allowed m files p (omega arith)
      ∙ said-alone p.opens (p.left - m.cost p.state) (m.step p.state).next (m.step p.state).said (m.step p.state).event
      ∙ (λ i. record (after_event m files p.opens (rest i) (sym next_is i) [] (sym event_is i)) { said = (m.step p.state).said })

  pub heeded-made : (p : Place S) (left : ℕ) (next : S) (event : Event) {close : Option Close} {to : Place S} {before after : List ℕ} {seen seen' : Reads} → p.left ≡ m.cost p.state + left → event ≡ (m.step p.state).event → next ≡ (m.step p.state).next
      → IsHeeded (came m files (record { state = next; opens = p.opens; left = left }) event) close to seen seen' → after ≡ before ++ (m.step p.state).said → Made (one_turn m files p) close to before after
  heeded-made p left next event {before = before} fits event_is next_is heeded said =
      let all : one_turn m files p ≡ record (came m files (record { state = next; opens = p.opens; left = left }) event) { said = (m.step p.state).said } = turn-came p left next event fits event_is next_is in
      record {
        close_is = heeded.close_is ∙ ap (λ t. t.close) (sym all);
        place_is = heeded.place_is ∙ ap (λ t. t.place) (sym all);
        said_is = said ∙ ap (λ t. before ++ t.said) (sym all);
      }

  pub heeded-seen : (p : Place S) (left : ℕ) (next : S) (event : Event) {close : Option Close} {to : Place S} {seen seen' : Reads} → p.left ≡ m.cost p.state + left → event ≡ (m.step p.state).event → next ≡ (m.step p.state).next
      → IsHeeded (came m files (record { state = next; opens = p.opens; left = left }) event) close to seen seen' → seen' ≡ noting seen (one_turn m files p).log
  heeded-seen p left next event {seen = seen} fits event_is next_is heeded =
      heeded.seen_is ∙ ap (λ t. noting seen t.log) (sym (turn-came p left next event fits event_is next_is))

  -- it is one turn
  pub turns-allowed : (p : Place S) → m.cost p.state ≤ p.left → (one_turn m files p).turns ≡ 1
  turns-allowed p fits =
      ap (λ t. t.turns) (one_turn-allowed m files p fits) ∙ turns-after_event m files p.opens (p.left - m.cost p.state) (m.step p.state).next (m.step p.state).said (m.step p.state).event

  -- the machine awaits the reply to what it asks in a turn
  pub awaits-reply : IsLawful m → (state next : S) (event : Event) → m.mode state ≡ Ready → event ≡ (m.step state).event → next ≡ (m.step state).next → IsAwaiting m next event
  awaits-reply lawful state next event ready event_is next_is ask asks =
      ap m.mode next_is ∙ lawful.turns state ready ∙ ap mode_after (sym event_is ∙ asks)

  -- a turn that the budget refuses
  pub refused-made : (p : Place S) (said : List ℕ) → p.left < m.cost p.state → Made (one_turn m files p) (Some Spent) p said said
  refused-made p said over = record {
    close_is = ap (λ t. t.close) (sym (one_turn-refused m files p over));
    place_is = ap (λ t. t.place) (sym (one_turn-refused m files p over));
    said_is = sym (append-nil said) ∙ ap (λ t. said ++ t.said) (sym (one_turn-refused m files p over));
  }

  pub refused-seen : (p : Place S) (seen : Reads) → p.left < m.cost p.state → seen ≡ noting seen (one_turn m files p).log
  refused-seen p seen over = ap (λ t. noting seen t.log) (sym (one_turn-refused m files p over))

  pub refused-counted : (p : Place S) (count : ℕ) → p.left < m.cost p.state → count ≡ raised count (one_turn m files p).turns
  refused-counted p count over = sym (raised-zero count) ∙ ap (λ t. raised count t.turns) (sym (one_turn-refused m files p over))

  -- the place behind plain turns
  abbrev pub behind_plain : Place S → ℕ → S → Place S
  behind_plain p count state = record { state = state; opens = p.opens; left = p.left - count }

  -- where memory was wanted among turns at one go
  pub passed-counted : (p : Place S) {before after : ℕ} → HasPassed m p.left p.state before after → HasCounted m files p before after
  passed-counted p {before = before} {after = after} k =
      let mid : Place S = behind_plain p k.count k.to in
      let more : raised (raised before k.count) 0 ≤ raised (raised before k.count) (one_turn m files mid).turns = raised-le (raised before k.count) 0 _ (omega arith) in
      record {
        passed = k.count;
        mid = mid;
        passes = record { turns = k.turns; opens_are = refl; left_is = omega (arith, k.within) };
        counted = rw (k.steps ∙ sym (raised-zero (raised before k.count))) more;
      }

  module _ (p : Place S) (passed : Passed) {to : S} {said said' : List ℕ} (run : HasRunOn m passed p.state to said said') (within : turns_of passed ≤ p.left) where
    abbrev mid : Place S
    mid = behind_plain p passed.turns run.mid

    passes : Passes m p passed.turns mid
    passes = record { turns = run.plain; opens_are = refl; left_is = omega (arith, within) }

    last-taken : {event : Event} → passed.last ≡ Some event → IsTaken m event run.mid to said said'
    last-taken is = subst (λ (last : Option Event). IsLast m last run.mid to said said') is run.last

    last-fits : {event : Event} → passed.last ≡ Some event → mid.left ≡ m.cost run.mid + (p.left - passed.turns - 1)
    last-fits is =
        let taken : IsTaken m _ run.mid to said said' = last-taken is in
        let one : turns_of passed ≡ passed.turns + 1 = ap (λ (last : Option Event). turns_of (record passed { last = last })) is in
        omega (arith, within, taken.costs)

    -- behind turns at one go the machine is ready; behind the last of them, whatever came of it, it awaits what that asks
    pub last-awaits : IsLawful m → {event : Event} → passed.last ≡ Some event → m.mode p.state ≡ Ready → IsAwaiting m to event
    last-awaits lawful {event = event} is ready =
        let taken : IsTaken m event run.mid to said said' = last-taken is in
        awaits-reply lawful run.mid to event (ready-plain m lawful passed.turns p.state run.mid run.plain ready) taken.event_is taken.next

    last-counted : {event : Event} → passed.last ≡ Some event → (before : ℕ) → raised before (turns_of passed) ≡ raised (raised before passed.turns) (one_turn m files mid).turns
    last-counted is before =
        let one : turns_of passed ≡ passed.turns + 1 = ap (λ (last : Option Event). turns_of (record passed { last = last })) is in
        ap (raised before) one ∙ sym (raised-raised before passed.turns 1) ∙ ap (raised (raised before passed.turns)) (sym (turns-allowed mid (omega (arith, last-fits is))))

    -- the last of them has been heeded
    pub last-are_taken : {event : Event} {close : Option Close} {next : Place S} {told : List ℕ} {seen seen' : Reads} {before counted : ℕ} → passed.last ≡ Some event
        → IsHeeded (came m files (record { state = to; opens = p.opens; left = p.left - passed.turns - 1 }) event) close next seen seen' → told ≡ said' → counted ≡ raised before (turns_of passed)
        → AreTaken m files p (record { passed = passed.turns; close = close }) next said told seen seen' before counted
    last-are_taken {event = event} {before = before} is heeded kept count =
        let taken : IsTaken m event run.mid to said said' = last-taken is in
        record {
          mid = mid;
          passes = passes;
          made = heeded-made mid (p.left - passed.turns - 1) to event (last-fits is) taken.event_is taken.next heeded (kept ∙ taken.said);
          seen_is = heeded-seen mid (p.left - passed.turns - 1) to event (last-fits is) taken.event_is taken.next heeded;
          counted_is = count ∙ last-counted is before;
        }

    pub last-has_counted : {event : Event} {before counted : ℕ} → passed.last ≡ Some event → counted ≡ raised before (turns_of passed) → HasCounted m files p before counted
    last-has_counted {before = before} is count = record {
      passed = passed.turns;
      mid = mid;
      passes = passes;
      counted = rw (count ∙ last-counted is before) (omega arith);
    }

    -- nothing was taken but plain turns
    none-same : passed.last ≡ None → (to ≡ run.mid) × (said' ≡ said)
    none-same is = subst (λ (last : Option Event). IsLast m last run.mid to said said') is run.last

    none-turns : passed.last ≡ None → turns_of passed ≡ passed.turns
    none-turns is =
        let none : turns_of passed ≡ passed.turns + 0 = ap (λ (last : Option Event). turns_of (record passed { last = last })) is in
        omega arith

    none-passes : passed.last ≡ None → Passes m p passed.turns (behind_plain p passed.turns to)
    none-passes is = subst (λ (state : S). Passes m p passed.turns (behind_plain p passed.turns state)) (sym (none-same is).0) passes

    pub none-ready : IsLawful m → passed.last ≡ None → m.mode p.state ≡ Ready → m.mode to ≡ Ready
    none-ready lawful is ready = ap m.mode (none-same is).0 ∙ ready-plain m lawful passed.turns p.state run.mid run.plain ready

    -- one was taken behind them
    pub none-are_taken : {close : Option Close} {next : Place S} {told : List ℕ} {seen seen' : Reads} {before mid_count counted : ℕ} → passed.last ≡ None
        → Made (one_turn m files (behind_plain p passed.turns to)) close next said' told → seen' ≡ noting seen (one_turn m files (behind_plain p passed.turns to)).log
        → mid_count ≡ raised before (turns_of passed) → counted ≡ raised mid_count (one_turn m files (behind_plain p passed.turns to)).turns
        → AreTaken m files p (record { passed = passed.turns; close = close }) next said told seen seen' before counted
    none-are_taken {close = close} {next = next} {told = told} {before = before} is made saw first count = record {
      mid = behind_plain p passed.turns to;
      passes = none-passes is;
      made = subst (λ (begun : List ℕ). Made (one_turn m files (behind_plain p passed.turns to)) close next begun told) (none-same is).1 made;
      seen_is = saw;
      counted_is = count ∙ ap (λ n. raised n (one_turn m files (behind_plain p passed.turns to)).turns) (first ∙ ap (raised before) (none-turns is));
    }

    pub none-has_counted : {before mid_count counted : ℕ} → passed.last ≡ None → mid_count ≡ raised before (turns_of passed) → counted ≡ raised mid_count (one_turn m files (behind_plain p passed.turns to)).turns → HasCounted m files p before counted
    none-has_counted {before = before} is first count = record {
      passed = passed.turns;
      mid = behind_plain p passed.turns to;
      passes = none-passes is;
      counted = rw (count ∙ ap (λ n. raised n (one_turn m files (behind_plain p passed.turns to)).turns) (first ∙ ap (raised before) (none-turns is))) (omega arith);
    }
