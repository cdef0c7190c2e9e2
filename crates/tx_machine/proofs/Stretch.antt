-- The unrolling laws of a stretch: it is its first turn, where that ends it, and else its first turn and then the stretch
-- from the place after it. And what every stretch keeps: it costs no more than was left, and leaves the machine ready.
use Rattle.std.proofs.Common.{◌≡◌, ◌≢◌, ℕ, zero, suc, ◌+◌, ◌-◌, ◌<◌, ◌≤◌, Bool, true, false, nat_lt, List, [], Option, Some, None, refl, sym, ap, ◌∙◌, arith, cond}
use Rattle.std.proofs.lemmas.Bool.{ltb-true, ltb-false}
use Rattle.tx_bytes.specs.Files.{Files, content}
use Rattle.tx_files.specs.Lines.{next_line_at}
use Rattle.tx_files.specs.declared.line.NextLine.{NextLine}
use Rattle.tx_files.specs.declared.line.NextLine.TheVariants.{Line as LineTo, End as AtEnd}
use Rattle.tx_event.specs.declared.types.Ask.{Ask}
use Rattle.tx_event.specs.declared.types.Ask.TheVariants.{Open, Line, Close as CloseIt, Whole}
use Rattle.tx_event.specs.declared.types.Stop.{Stop}
use Rattle.tx_dvi.specs.declared.page.PageBody.{PageBody}
use Rattle.tx_machine.specs.declared.types.Close.{Close}
use Rattle.tx_machine.specs.declared.types.Close.TheVariants.{Spent, Page, Halt}
use Rattle.tx_event.specs.declared.types.Event.{Event}
use Rattle.tx_event.specs.declared.types.Event.TheVariants.{Went, Asks, Shipped, Stopped}
use Rattle.tx_machine.specs.declared.types.OpenFile.{OpenFile}
use Rattle.tx_machine.specs.Counts.{closing_turns}
use Rattle.tx_event.specs.Turns.{Ready, mode_after, kind_of, fits}
use Rattle.tx_machine.specs.Machine.{Formatter, IsLawful}
use Rattle.tx_machine.specs.Plain.{IsPlain}
use Rattle.tx_machine.specs.Opens.{reply_to, opening, reading, reading_on, whole, innermost, bytes_of}
use Rattle.tx_machine.specs.Turn.{Place, Progress, one_turn, after_event, joined, stretch, stretch_by}

-- a reply is of the kind that the ask wants
pub fits-reply_to : (files : Files) (opens : List OpenFile) (ask : Ask) → fits (kind_of ask) (reply_to files opens ask).reply ≡ true
fits-reply_to files opens (Open name) = elim (content files name) as (λ c. fits (kind_of (Open name)) (opening opens name c).reply ≡ true) [ None ↦ refl | Some bytes ↦ refl ]
fits-reply_to files opens Line = by_file (innermost opens)
  where
    by_line : (file : OpenFile) (line : NextLine) → fits (kind_of Line) (reading_on opens file (bytes_of files file.name) line).reply ≡ true
    by_line file AtEnd = refl
    by_line file (LineTo end has_lf) = refl

    by_file : (file : Option OpenFile) → fits (kind_of Line) (reading files opens file).reply ≡ true
    by_file None = refl
    by_file (Some file) = by_line file (next_line_at (bytes_of files file.name) file.offset)
fits-reply_to files opens CloseIt = refl
fits-reply_to files opens (Whole name) = elim (content files name) as (λ c. fits (kind_of (Whole name)) (whole opens c).reply ≡ true) [ None ↦ refl | Some bytes ↦ refl ]

module _ {S : Type 0} (m : Formatter S) (files : Files) where
  -- a turn that the budget refuses, and one that it allows
  abbrev pub refused : Place S → Progress S
  refused p = record { close = Some Spent; said = []; turns = 0; log = []; place = p }

  abbrev pub allowed : Place S → Progress S
  allowed p = after_event m files p.opens (p.left - m.cost p.state) (m.step p.state).next (m.step p.state).said (m.step p.state).event

  data IsTurn (p : Place S) : Type 0 where
    Refused : p.left < m.cost p.state → one_turn m files p ≡ refused p → IsTurn p
    Allowed : m.cost p.state ≤ p.left → one_turn m files p ≡ allowed p → IsTurn p

  is_turn : (p : Place S) → IsTurn p
  unfolding one_turn
  is_turn p = by (nat_lt p.left (m.cost p.state)) refl
    where
      by : (b : Bool) → nat_lt p.left (m.cost p.state) ≡ b → IsTurn p
      by true h = Refused (ltb-true _ _ h) (ap (λ b. cond b (refused p) (allowed p)) h)
      by false h = Allowed (ltb-false _ _ h) (ap (λ b. cond b (refused p) (allowed p)) h)

  pub one_turn-refused : (p : Place S) → p.left < m.cost p.state → one_turn m files p ≡ refused p
  one_turn-refused p over = elim (is_turn p) [
    | Refused h e ↦ e
    | Allowed h e ↦ absurd (omega (arith, over))
  ]

  pub one_turn-allowed : (p : Place S) → m.cost p.state ≤ p.left → one_turn m files p ≡ allowed p
  one_turn-allowed p fits = elim (is_turn p) [
    | Refused h e ↦ absurd (omega (arith, fits))
    | Allowed h e ↦ e
  ]

  -- a plain turn takes 1 of the budget and leads to its next state; it says nothing and sees nothing of files
  pub one_turn-plain : (p : Place S) {to : S} → IsPlain m p.state to → 1 ≤ p.left
      → one_turn m files p ≡ record { close = None; said = []; turns = 1; log = []; place = record { state = to; opens = p.opens; left = p.left - 1 } }
  one_turn-plain p plain fits = elim (is_turn p) [
    | Refused h e ↦ absurd (omega (arith, plain.costs))
    | Allowed h e ↦ e ∙ (λ i. after_event m files p.opens (p.left - plain.costs i) (plain.next i) (plain.silent i) (plain.went i))
  ]

  left-after_event : (opens : List OpenFile) (left : ℕ) (next : S) (said : List ℕ) (event : Event) → (after_event m files opens left next said event).place.left ≡ left
  left-after_event opens left next said Went = refl
  left-after_event opens left next said (Asks ask) = refl
  left-after_event opens left next said (Shipped body) = refl
  left-after_event opens left next said (Stopped stop) = refl

  pub turns-after_event : (opens : List OpenFile) (left : ℕ) (next : S) (said : List ℕ) (event : Event) → (after_event m files opens left next said event).turns ≡ 1
  turns-after_event opens left next said Went = refl
  turns-after_event opens left next said (Asks ask) = refl
  turns-after_event opens left next said (Shipped body) = refl
  turns-after_event opens left next said (Stopped stop) = refl

  -- a turn that ends nothing leaves less of the budget
  pub left-one_turn : IsLawful m → (p : Place S) → (one_turn m files p).close ≡ None → (one_turn m files p).place.left < p.left
  left-one_turn lawful p none = elim (is_turn p) [
    | Refused h e ↦ absurd (let spent : Some Spent ≡ None = sym (ap (λ t. t.close) e) ∙ none in cc)
    | Allowed h e ↦
        let left : (one_turn m files p).place.left ≡ p.left - m.cost p.state = ap (λ t. t.place.left) e ∙ left-after_event p.opens _ _ _ (m.step p.state).event in
        omega (arith, left, lawful.costs p.state)
  ]

  -- no turn takes more turns than what it leaves less
  pub turns-one_turn : IsLawful m → (p : Place S) → (one_turn m files p).turns + (one_turn m files p).place.left ≤ p.left
  turns-one_turn lawful p = elim (is_turn p) [
    | Refused h e ↦
        let left : (one_turn m files p).place.left ≡ p.left = ap (λ t. t.place.left) e in
        let turns : (one_turn m files p).turns ≡ 0 = ap (λ t. t.turns) e in omega arith
    | Allowed h e ↦
        let left : (one_turn m files p).place.left ≡ p.left - m.cost p.state = ap (λ t. t.place.left) e ∙ left-after_event p.opens _ _ _ (m.step p.state).event in
        let turns : (one_turn m files p).turns ≡ 1 = ap (λ t. t.turns) e ∙ turns-after_event p.opens _ _ _ (m.step p.state).event in
        omega (arith, lawful.costs p.state)
  ]

  -- a turn is taken unless the budget refuses it
  turns_closing_after : (opens : List OpenFile) (left : ℕ) (next : S) (said : List ℕ) (event : Event) {c : Close}
      → (after_event m files opens left next said event).close ≡ Some c → (after_event m files opens left next said event).turns ≡ closing_turns c
  turns_closing_after opens left next said Went {c = c} e = let none : None ≡ Some c = e in cc
  turns_closing_after opens left next said (Asks ask) {c = c} e = let none : None ≡ Some c = e in cc
  turns_closing_after opens left next said (Shipped body) {c = c} e = let is : Page body ≡ c = (let h : Some (Page body) ≡ Some c = e in cc) in ap closing_turns is
  turns_closing_after opens left next said (Stopped stop) {c = c} e = let is : Halt stop ≡ c = (let h : Some (Halt stop) ≡ Some c = e in cc) in ap closing_turns is

  pub turns-closing : (p : Place S) {c : Close} → (one_turn m files p).close ≡ Some c → (one_turn m files p).turns ≡ closing_turns c
  turns-closing p {c = c} closes = elim (is_turn p) [
    | Refused h e ↦ ap (λ t. t.turns) e ∙ (let is : Spent ≡ c = (let spent : Some Spent ≡ Some c = sym (ap (λ t. t.close) e) ∙ closes in cc) in ap closing_turns is)
    | Allowed h e ↦ ap (λ t. t.turns) e ∙ turns_closing_after p.opens _ _ _ (m.step p.state).event (sym (ap (λ t. t.close) e) ∙ closes)
  ]

  pub turns-going : (p : Place S) → (one_turn m files p).close ≡ None → (one_turn m files p).turns ≡ 1
  turns-going p none = elim (is_turn p) [
    | Refused h e ↦ absurd (let spent : Some Spent ≡ None = sym (ap (λ t. t.close) e) ∙ none in cc)
    | Allowed h e ↦ ap (λ t. t.turns) e ∙ turns-after_event p.opens _ _ _ (m.step p.state).event
  ]

  -- what a stretch is by the close of its first turn
  abbrev by_close : ℕ → Place S → Option Close → Progress S
  by_close fuel p None = joined (one_turn m files p) (stretch_by m files fuel (one_turn m files p).place)
  by_close fuel p (Some c) = one_turn m files p

  -- where the first turn ends the stretch it is all of it, by any fuel
  over_by : (fuel : ℕ) (p : Place S) {c : Close} → (one_turn m files p).close ≡ Some c → stretch_by m files fuel p ≡ one_turn m files p
  over_by zero p over = refl
  over_by (suc fuel) p over = ap (by_close fuel p) over

  on_by : (fuel : ℕ) (p : Place S) → (one_turn m files p).close ≡ None → stretch_by m files (suc fuel) p ≡ joined (one_turn m files p) (stretch_by m files fuel (one_turn m files p).place)
  on_by fuel p none = ap (by_close fuel p) none

  -- fuel past what is left changes nothing
  enough : IsLawful m → (bound f g : ℕ) (p : Place S) (c : Option Close) → (one_turn m files p).close ≡ c → f ≤ bound → g ≤ bound → p.left ≤ f → p.left ≤ g
      → stretch_by m files f p ≡ stretch_by m files g p
  enough lawful bound f g p (Some c) e fb gb pf pg = over_by f p e ∙ sym (over_by g p e)
  enough lawful bound zero g p None e fb gb pf pg = absurd (let less : (one_turn m files p).place.left < p.left = left-one_turn lawful p e in omega arith)
  enough lawful bound (suc f) zero p None e fb gb pf pg = absurd (let less : (one_turn m files p).place.left < p.left = left-one_turn lawful p e in omega arith)
  enough lawful zero (suc f) (suc g) p None e fb gb pf pg = absurd (omega arith)
  enough lawful (suc bound) (suc f) (suc g) p None e fb gb pf pg =
      let less : (one_turn m files p).place.left < p.left = left-one_turn lawful p e in
      on_by f p e
      ∙ ap (joined (one_turn m files p)) (enough lawful bound f g (one_turn m files p).place _ refl (omega arith) (omega arith) (omega arith) (omega arith))
      ∙ sym (on_by g p e)

  -- a stretch that its first turn ends
  pub stretch-over : (p : Place S) {c : Close} → (one_turn m files p).close ≡ Some c → stretch m files p ≡ one_turn m files p
  unfolding stretch
  stretch-over p over = over_by p.left p over

  -- a stretch that goes on after its first turn
  pub stretch-on : IsLawful m → (p : Place S) → (one_turn m files p).close ≡ None → stretch m files p ≡ joined (one_turn m files p) (stretch m files (one_turn m files p).place)
  unfolding stretch
  stretch-on lawful p none =
      let less : (one_turn m files p).place.left < p.left = left-one_turn lawful p none in
      by p.left refl less
    where
      by : (left : ℕ) → p.left ≡ left → (one_turn m files p).place.left < p.left → stretch_by m files left p ≡ joined (one_turn m files p) (stretch_by m files (one_turn m files p).place.left (one_turn m files p).place)
      by zero e less = absurd (omega arith)
      by (suc left) e less = on_by left p none ∙ ap (joined (one_turn m files p)) (enough lawful left left (one_turn m files p).place.left (one_turn m files p).place _ refl (omega arith) (omega arith) (omega arith) (omega arith))

  -- a stretch takes at most as many turns as the budget has left
  turns_by : IsLawful m → (fuel : ℕ) (p : Place S) (c : Option Close) → (one_turn m files p).close ≡ c → (stretch_by m files fuel p).turns ≤ p.left
  turns_by lawful zero p c e = let t : (one_turn m files p).turns + (one_turn m files p).place.left ≤ p.left = turns-one_turn lawful p in omega arith
  turns_by lawful (suc fuel) p (Some c) e = rw (over_by (suc fuel) p e) (let t : (one_turn m files p).turns + (one_turn m files p).place.left ≤ p.left = turns-one_turn lawful p in omega arith)
  turns_by lawful (suc fuel) p None e =
      let t : (one_turn m files p).turns + (one_turn m files p).place.left ≤ p.left = turns-one_turn lawful p in
      let later : (stretch_by m files fuel (one_turn m files p).place).turns ≤ (one_turn m files p).place.left = turns_by lawful fuel (one_turn m files p).place _ refl in
      rw (on_by fuel p e) (omega arith)

  pub turns-stretch : IsLawful m → (p : Place S) → (stretch m files p).turns ≤ p.left
  unfolding stretch
  turns-stretch lawful p = turns_by lawful p.left p _ refl

  -- after a turn that stops nothing the machine is ready for the next one
  ready-after_event : IsLawful m → (opens : List OpenFile) (left : ℕ) (next : S) (said : List ℕ) (event : Event) → m.mode next ≡ mode_after event
      → ((stop : Stop) → (after_event m files opens left next said event).close ≢ Some (Halt stop)) → m.mode (after_event m files opens left next said event).place.state ≡ Ready
  ready-after_event lawful opens left next said Went mode goes = mode
  ready-after_event lawful opens left next said (Asks ask) mode goes = lawful.takes next (kind_of ask) (reply_to files opens ask).reply mode (fits-reply_to files opens ask)
  ready-after_event lawful opens left next said (Shipped body) mode goes = mode
  ready-after_event lawful opens left next said (Stopped stop) mode goes = absurd (goes stop refl)

  pub ready-one_turn : IsLawful m → (p : Place S) → m.mode p.state ≡ Ready → ((stop : Stop) → (one_turn m files p).close ≢ Some (Halt stop)) → m.mode (one_turn m files p).place.state ≡ Ready
  ready-one_turn lawful p ready goes = elim (is_turn p) [
    | Refused h e ↦ ap (λ t. m.mode t.place.state) e ∙ ready
    | Allowed h e ↦ ap (λ t. m.mode t.place.state) e
        ∙ ready-after_event lawful p.opens _ _ _ (m.step p.state).event (lawful.turns p.state ready) (λ stop same. goes stop (ap (λ t. t.close) e ∙ same))
  ]

  -- after a stretch that ends with a page too
  ready_by : IsLawful m → (fuel : ℕ) (p : Place S) (c : Option Close) → (one_turn m files p).close ≡ c → m.mode p.state ≡ Ready
      → ((stop : Stop) → (stretch_by m files fuel p).close ≢ Some (Halt stop)) → m.mode (stretch_by m files fuel p).place.state ≡ Ready
  ready_by lawful zero p c e ready goes = ready-one_turn lawful p ready goes
  ready_by lawful (suc fuel) p (Some c) e ready goes =
      ap (λ t. m.mode t.place.state) (over_by (suc fuel) p e)
      ∙ ready-one_turn lawful p ready (λ stop same. goes stop (ap (λ t. t.close) (over_by (suc fuel) p e) ∙ same))
  ready_by lawful (suc fuel) p None e ready goes =
      ap (λ t. m.mode t.place.state) (on_by fuel p e)
      ∙ ready_by lawful fuel (one_turn m files p).place _ refl
      (ready-one_turn lawful p ready (λ stop same. let none : None ≡ Some (Halt stop) = sym e ∙ same in cc))
      (λ stop same. goes stop (ap (λ t. t.close) (on_by fuel p e) ∙ same))

  pub ready-stretch : IsLawful m → (p : Place S) → m.mode p.state ≡ Ready → {body : PageBody} → (stretch m files p).close ≡ Some (Page body) → m.mode (stretch m files p).place.state ≡ Ready
  unfolding stretch
  ready-stretch lawful p ready closes = ready_by lawful p.left p _ refl ready (λ stop same. let e : Some (Page _) ≡ Some (Halt stop) = sym closes ∙ same in cc)
