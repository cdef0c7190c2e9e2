-- Turns at one go behind turns at one go, and the turn behind them that is as plain as they are.
use Rattle.std.proofs.Common.{◌≡◌, ℕ, zero, suc, ◌+◌, ◌≤◌, List, ◌++◌, [], length, Option, Some, None, sym, ap, ◌∙◌, subst, arith, append-nil, length-append}
use Rattle.std.proofs.lemmas.List.{nil_from_length}
use Rattle.tx_event.specs.declared.types.Event.{Event}
use Rattle.tx_event.specs.declared.types.Event.TheVariants.{Went}
use Rattle.tx_machine.specs.declared.types.Passed.{Passed}
use Rattle.tx_machine.specs.Machine.{Formatter}
use Rattle.tx_machine.specs.Plain.{ArePlain, HasPassed, HasRunOn, IsLast, IsPlain, IsTaken, last_turns, turns_of}
use Rattle.tx_machine.specs.Steps.{raised}
use Rattle.tx_machine.proofs.Going.{raised-raised}

-- a transcript that is as long as it was has gained nothing
nothing-said : (before said : List ℕ) → length (before ++ said) ≡ length before → said ≡ []
nothing-said before said same =
    let sum : length (before ++ said) ≡ length before + length said = length-append before said in
    let none : length said ≡ 0 = omega arith in
    nil_from_length said none

-- behind turns at one go there is one more at most
pub last-one : (last : Option Event) → last_turns last ≤ 1
last-one None = omega arith
last-one (Some event) = omega arith

-- to count some turns and then others is to count them all
pub counted-behind : (first begun before after : ℕ) (passed : Passed) → before ≡ raised begun first → after ≡ raised before (turns_of passed) → after ≡ raised begun (turns_of (record passed { turns = first + passed.turns }))
counted-behind first begun before after passed firsts more =
    let sum : first + turns_of passed ≡ turns_of (record passed { turns = first + passed.turns }) = omega arith in
    more ∙ ap (λ (n : ℕ). raised n (turns_of passed)) firsts ∙ raised-raised begun first (turns_of passed) ∙ ap (raised begun) sum

module _ {S : Type 0} (m : Formatter S) where
  -- plain turns behind plain turns
  pub plain-behind : (first more : ℕ) (from mid to : S) → ArePlain m first from mid → ArePlain m more mid to → ArePlain m (first + more) from to
  plain-behind first zero from mid to firsts same =
      let all : first ≡ first + zero = omega arith in
      subst (λ (n : ℕ). ArePlain m n from to) all (subst (λ (state : S). ArePlain m first from state) same firsts)
  plain-behind first (suc more) from mid to firsts (last, (mores, plain)) =
      let sum : suc (first + more) ≡ first + suc more = omega arith in
      let all : ArePlain m (suc (first + more)) from to = (last, (plain-behind first more from mid last firsts mores, plain)) in
      subst (λ (n : ℕ). ArePlain m n from to) sum all

  -- a turn that went, behind which the transcript is as long as it was, has said nothing
  taken-silent : (from to : S) (before after : List ℕ) → IsTaken m Went from to before after → length after ≡ length before → (m.step from).said ≡ []
  taken-silent from to before after taken same =
      nothing-said before (m.step from).said (sym (ap length taken.said) ∙ same)

  -- so it is plain
  taken-plain : (from to : S) (before after : List ℕ) → IsTaken m Went from to before after → length after ≡ length before → IsPlain m from to
  taken-plain from to before after taken same = record {
    costs = taken.costs;
    went = sym taken.event_is;
    silent = taken-silent from to before after taken same;
    next = sym taken.next;
  }

  -- turns at one go behind plain ones
  pub run-behind : (first : ℕ) (passed : Passed) (from mid to : S) (before between after : List ℕ) → ArePlain m first from mid → between ≡ before → HasRunOn m passed mid to between after → HasRunOn m (record passed { turns = first + passed.turns }) from to before after
  run-behind first passed from mid to before between after firsts silent run = record {
    mid = run.mid;
    plain = plain-behind first passed.turns from mid run.mid firsts run.plain;
    last = subst (λ (said : List ℕ). IsLast m passed.last run.mid to said after) silent run.last;
  }

  -- where memory was wanted among fewer
  pub passed-within : {less : ℕ} (most : ℕ) {from : S} {before after : ℕ} → HasPassed m less from before after → less ≤ most → HasPassed m most from before after
  passed-within most k fits = record { count = k.count; to = k.to; within = omega (arith, k.within); turns = k.turns; steps = k.steps }

  -- and among turns behind plain ones
  pub passed-behind : (first more most : ℕ) (from mid : S) (begun before after : ℕ) → ArePlain m first from mid → before ≡ raised begun first → HasPassed m more mid before after → first + more ≤ most → HasPassed m most from begun after
  passed-behind first more most from mid begun before after firsts counted k fits = record {
    count = first + k.count;
    to = k.to;
    within = omega (arith, k.within);
    turns = plain-behind first k.count from mid k.to firsts k.turns;
    steps = k.steps ∙ ap (λ (n : ℕ). raised n k.count) counted ∙ raised-raised begun first k.count;
  }

module _ {S : Type 0} (m : Formatter S) (passed : Passed) {from to : S} {before after : List ℕ} (run : HasRunOn m passed from to before after) where
  -- the one behind them, if it went: where it has said nothing they are all plain
  went-taken : passed.last ≡ Some Went → IsTaken m Went run.mid to before after
  went-taken is = subst (λ (last : Option Event). IsLast m last run.mid to before after) is run.last

  pub went-plain : passed.last ≡ Some Went → length after ≡ length before → ArePlain m (suc passed.turns) from to
  went-plain is same = (run.mid, (run.plain, taken-plain m run.mid to before after (went-taken is) same))

  pub went-silent : passed.last ≡ Some Went → length after ≡ length before → after ≡ before
  went-silent is same =
      let taken : IsTaken m Went run.mid to before after = went-taken is in
      taken.said ∙ ap (λ (said : List ℕ). before ++ said) (taken-silent m run.mid to before after taken same) ∙ append-nil before

  -- where none was taken behind them
  none-same : passed.last ≡ None → (to ≡ run.mid) × (after ≡ before)
  none-same is = subst (λ (last : Option Event). IsLast m last run.mid to before after) is run.last

  pub none-plain : passed.last ≡ None → ArePlain m passed.turns from to
  none-plain is = subst (λ (state : S). ArePlain m passed.turns from state) (sym (none-same is).0) run.plain

  pub none-turns : passed.last ≡ None → turns_of passed ≡ passed.turns
  none-turns is =
      let none : turns_of passed ≡ passed.turns + 0 = ap (λ (last : Option Event). turns_of (record passed { last = last })) is in
      omega arith

  -- so many have passed, where memory was wanted behind them
  pub none-passed : (most begun counted : ℕ) → passed.last ≡ None → turns_of passed ≤ most → counted ≡ raised begun (turns_of passed) → HasPassed m most from begun counted
  none-passed most begun counted is fits tally = record {
    count = passed.turns;
    to = to;
    within = omega (arith, none-turns is);
    turns = none-plain is;
    steps = tally ∙ ap (raised begun) (none-turns is);
  }

  -- one more behind them, if one was taken then
  pub none-then : (last : Option Event) (next : S) (later : List ℕ) → passed.last ≡ None → IsLast m last to next after later → HasRunOn m (record { turns = passed.turns; last = last }) from next before later
  none-then last next later is behind = record {
    mid = to;
    plain = none-plain is;
    last = subst (λ (said : List ℕ). IsLast m last to next said later) (none-same is).1 behind;
  }

  pub none-counted : (last : Option Event) (begun counted later : ℕ) → passed.last ≡ None → counted ≡ raised begun (turns_of passed) → later ≡ raised counted (last_turns last) → later ≡ raised begun (turns_of (record { turns = passed.turns; last = last }))
  none-counted last begun counted later is tally more =
      more ∙ ap (λ (n : ℕ). raised n (last_turns last)) (tally ∙ ap (raised begun) (none-turns is)) ∙ raised-raised begun passed.turns (last_turns last)

  -- the same turns, where one was taken behind them
  pub some-run : {event : Event} → passed.last ≡ Some event → HasRunOn m (record { turns = passed.turns; last = Some event }) from to before after
  some-run is = subst (λ (last : Option Event). HasRunOn m (record { turns = passed.turns; last = last }) from to before after) is run

  pub some-turns : {event : Event} → passed.last ≡ Some event → turns_of passed ≡ passed.turns + 1
  some-turns is = ap (λ (last : Option Event). turns_of (record passed { last = last })) is
