-- What came in so far was answered, and then what comes next.
use Rattle.std.proofs.Common.{◌≡◌, ℕ, ◌+◌, ◌≤◌, Bool, true, false, inl, inr, List, [], ◌∷◌, ◌++◌, map, Option, Some, None, Result, Ok, Err, refl, sym, ap, subst, ◌∙◌, arith, append_assoc, append-nil}
use Rattle.std.specs.Prelude.{IfSome, IsErrAnd}
use Rattle.std.specs.Option.{IsSomeAnd}
use Rattle.tx_io.specs.Output.{Output, Piece, told}
use Rattle.tx_io.specs.Cut.{IsCutShort}
use Rattle.tx_io.proofs.Told.{told-append}
use Rattle.tx_io.proofs.CutShort.{cut-behind}
use Rattle.tx_machine.specs.Machine.{Formatter}
use Rattle.tx_machine.specs.Steps.{raised}
use Rattle.tx_machine.proofs.Going.{raised-raised}
use Rattle.tx_request.specs.declared.request.Next.{Next}
use Rattle.tx_request.specs.Requests as requests
use Rattle.tx_request.specs.Requests.{AreRead, IsAtFront, IsNext}
use Rattle.tx_session.specs.Standing.{Standing}
use Rattle.tx_call.specs.declared.tally.Tally.{Tally}
use Rattle.tx_call.specs.declared.trouble.Trouble.{Trouble}
use Rattle.tx_call.specs.declared.trouble.Break.{Break}
use Rattle.tx_call.specs.declared.trouble.Break.TheVariants as breaks
use Rattle.tx_call.specs.Answers.{Event, Answered, Wanting, Unread, read_as, came, all_came, begun_at, MayCome, AllMayCome, IsExact, AreExact}
use Rattle.tx_call.specs.Hearing.{AreReadUpTo, Heard, HeardInPart, Hears, HearsOne, HearsNone, IsSilent, Serves}
use Rattle.tx_call.specs.Sitting.{Sitting, Effect}
use Rattle.tx_call.proofs.Replayed.{on-err}

-- what was read is followed by what is read next
read-more : {bytes between rest : List ℕ} (next : Next) (others : List Next) → AreRead bytes others between → IsAtFront next between rest → AreRead bytes (others ++ next ∷ []) rest
read-more next [] requests.None at = requests.Then at requests.None
read-more next (other ∷ others) (requests.Then first later) at = requests.Then first (read-more next others later at)

map-more : (events : List Event) (e : Event) → map read_as (events ++ e ∷ []) ≡ map read_as events ++ read_as e ∷ []
map-more [] e = refl
map-more (event ∷ events) e = ap (λ rest. read_as event ∷ rest) (map-more events e)

-- of an inlet that tells, the bytes left are told
at-front : (e : Event) (bytes : List ℕ) (after : Option (List ℕ)) → IsNext (read_as e) (Some bytes) after → IsSomeAnd after (IsAtFront (read_as e) bytes)
at-front (Answered r) bytes after is = is
at-front (Wanting r) bytes after is = is
at-front (Unread rule) bytes after is = is

read-next : (left here left' : Option (List ℕ)) (events : List Event) (e : Event) → AreReadUpTo left events here → IsNext (read_as e) here left' → AreReadUpTo left (events ++ e ∷ []) left'
read-next None here left' events e read next = tt
read-next (Some bytes) None left' events e read next = absurd read
read-next (Some bytes) (Some between) left' events e read next = by left' (at-front e between left' next)
  where
    by : (left' : Option (List ℕ)) → IsSomeAnd left' (IsAtFront (read_as e) between) → IsSomeAnd left' (λ rest. AreRead bytes (map read_as (events ++ e ∷ [])) rest)
    by None never = absurd never
    by (Some rest) at = subst (λ (nexts : List Next). AreRead bytes nexts rest) (sym (map-more events e)) (read-more (read_as e) (map read_as events) read at)

read-to-the-end : (left here : Option (List ℕ)) (events : List Event) → AreReadUpTo left events here → IfSome here (λ bytes. bytes ≡ []) → AreReadUpTo left events (Some [])
read-to-the-end None here events read over = tt
read-to-the-end (Some bytes) None events read over = absurd read
read-to-the-end (Some bytes) (Some rest) events read over = subst (λ (r : List ℕ). AreRead bytes (map read_as events) r) over read

read-nothing : (left : Option (List ℕ)) → AreReadUpTo left [] left
read-nothing None = tt
read-nothing (Some bytes) = requests.None

zero-behind : (n : ℕ) → n + 0 ≡ 0 + n
zero-behind n = omega arith

plus-first : (a b c : ℕ) → a + (b + c) ≡ (a + b) + c
plus-first a b c = omega arith

pub raised-both : (steps now now' first second : ℕ) → now ≤ raised steps first → now' ≤ raised now second → now' ≤ raised steps (first + second)
raised-both steps now now' first second so_far next = omega (arith, so_far, next)

pub raised-twice : (steps now now' first second : ℕ) → now ≡ raised steps first → now' ≡ raised now second → now' ≡ raised steps (first + second)
raised-twice steps now now' first second so_far next = next ∙ ap (λ n. raised n second) so_far ∙ raised-raised steps first second

module _ {S : Type 0} (m : Formatter S) where
  pieces-more : (t : Sitting) (events : List Event) (e : Event) → (all_came m t (events ++ e ∷ [])).pieces ≡ (all_came m t events).pieces ++ (came m (all_came m t events).behind e).pieces
  pieces-more t [] e = append-nil (came m t e).pieces
  pieces-more t (event ∷ events) e = ap (λ ps. (came m t event).pieces ++ ps) (pieces-more (came m t event).behind events e) ∙ sym (append_assoc (came m t event).pieces _ _)

  behind-more : (t : Sitting) (events : List Event) (e : Event) → (all_came m t (events ++ e ∷ [])).behind ≡ (came m (all_came m t events).behind e).behind
  behind-more t [] e = refl
  behind-more t (event ∷ events) e = behind-more (came m t event).behind events e

  turns-more : (t : Sitting) (events : List Event) (e : Event) → (all_came m t (events ++ e ∷ [])).turns ≡ (all_came m t events).turns + (came m (all_came m t events).behind e).turns
  turns-more t [] e = zero-behind (came m t e).turns
  turns-more t (event ∷ events) e = ap (λ n. (came m t event).turns + n) (turns-more (came m t event).behind events e) ∙ plus-first (came m t event).turns _ _

  may-come-more : (t : Sitting) (events : List Event) (e : Event) → AllMayCome m t events → MayCome (all_came m t events).behind e → AllMayCome m t (events ++ e ∷ [])
  may-come-more t [] e all one = (one, tt)
  may-come-more t (event ∷ events) e all one = (all.0, may-come-more (came m t event).behind events e all.1 one)

  exact-more : (events : List Event) (e : Event) → AreExact (events ++ e ∷ []) → AreExact events × IsExact e
  exact-more [] e exact = (tt, exact.0)
  exact-more (event ∷ events) e exact = let rest : AreExact events × IsExact e = exact-more events e exact.1 in ((exact.0, rest.0), rest.1)

  -- nothing came in yet
  pub heard-nothing : (t : Sitting) (left : Option (List ℕ)) (before : Option Output) (steps : ℕ) → Heard m t t left left before before steps steps
  heard-nothing t left before steps = record {
    events = [];
    read = read-nothing left;
    may_come = tt;
    comes = record { sitting_is = refl; output_is = refl; most = omega arith; steps_are = λ _. omega arith };
  }

  -- what was put out so far is the first of it
  pub in-part : {t here : Sitting} {left left_here : Option (List ℕ)} {before after : Option Output} {steps steps' : ℕ} → Heard m t here left left_here before after steps steps' → HeardInPart m t left before after steps steps'
  in-part {t = t} {left_here = left_here} heard = record {
    events = heard.events;
    left' = left_here;
    read = heard.read;
    may_come = heard.may_come;
    comes = record {
      cut = record { whole = (all_came m t heard.events).pieces; left = []; are = sym (append-nil (all_came m t heard.events).pieces); next = heard.comes.output_is };
      most = heard.comes.most;
    };
  }

  module _ {t here : Sitting} {left left_here : Option (List ℕ)} {before between : Option Output} {steps steps_here : ℕ} (so_far : Heard m t here left left_here before between steps steps_here) where
    -- nothing else comes of what comes next than what comes of it behind all that came so far
    same-came : (e : Event) → came m here e ≡ came m (all_came m t so_far.events).behind e
    same-came e = ap (λ (s : Sitting). came m s e) so_far.comes.sitting_is

    may-come-next : (e : Event) → MayCome here e → AllMayCome m t (so_far.events ++ e ∷ [])
    may-come-next e may = may-come-more t so_far.events e so_far.may_come (subst (λ (s : Sitting). MayCome s e) so_far.comes.sitting_is may)

    most-next : (e : Event) (steps' : ℕ) → steps' ≤ raised steps_here (came m here e).turns → steps' ≤ raised steps (all_came m t (so_far.events ++ e ∷ [])).turns
    most-next e steps' less =
        let there : steps' ≤ raised steps_here (came m (all_came m t so_far.events).behind e).turns = subst (λ (came_to : Effect). steps' ≤ raised steps_here came_to.turns) (same-came e) less in
        subst (λ (n : ℕ). steps' ≤ raised steps n) (sym (turns-more t so_far.events e))
        (raised-both steps steps_here steps' (all_came m t so_far.events).turns (came m (all_came m t so_far.events).behind e).turns so_far.comes.most there)

    exact-next : (e : Event) (steps' : ℕ) → (IsExact e → steps' ≡ raised steps_here (came m here e).turns) → AreExact (so_far.events ++ e ∷ []) → steps' ≡ raised steps (all_came m t (so_far.events ++ e ∷ [])).turns
    exact-next e steps' counted exact =
        let both : AreExact so_far.events × IsExact e = exact-more so_far.events e exact in
        let there : steps' ≡ raised steps_here (came m (all_came m t so_far.events).behind e).turns = counted both.1 ∙ ap (λ (came_to : Effect). raised steps_here came_to.turns) (same-came e) in
        raised-twice steps steps_here steps' (all_came m t so_far.events).turns (came m (all_came m t so_far.events).behind e).turns (so_far.comes.steps_are both.0) there
        ∙ ap (λ (n : ℕ). raised steps n) (sym (turns-more t so_far.events e))

    puts-next : (e : Event) (after : Option Output) → after ≡ told between (came m here e).pieces → after ≡ told before (all_came m t (so_far.events ++ e ∷ [])).pieces
    puts-next e after is =
        is ∙ ap (λ (o : Option Output). told o (came m here e).pieces) so_far.comes.output_is ∙ told-append before (all_came m t so_far.events).pieces (came m here e).pieces
        ∙ ap (λ (came_to : Effect). told before ((all_came m t so_far.events).pieces ++ came_to.pieces)) (same-came e) ∙ ap (λ (ps : List Piece). told before ps) (sym (pieces-more t so_far.events e))

    cut-next : (e : Event) (after : Option Output) → IsCutShort between (came m here e).pieces after → IsCutShort before (all_came m t (so_far.events ++ e ∷ [])).pieces after
    cut-next e after is =
        let behind : Sitting = (all_came m t so_far.events).behind in
        let there : IsCutShort between (came m behind e).pieces after = subst (λ (came_to : Effect). IsCutShort between came_to.pieces after) (same-came e) is in
        let whole : IsCutShort (told before (all_came m t so_far.events).pieces) (came m behind e).pieces after = subst (λ (o : Option Output). IsCutShort o (came m behind e).pieces after) so_far.comes.output_is there in
        subst (λ (ps : List Piece). IsCutShort before ps after) (sym (pieces-more t so_far.events e)) (cut-behind before (all_came m t so_far.events).pieces (came m behind e).pieces after whole)

    sits-next : (e : Event) (t' : Sitting) → t' ≡ (came m here e).behind → t' ≡ (all_came m t (so_far.events ++ e ∷ [])).behind
    sits-next e t' is = is ∙ ap (λ (came_to : Effect). came_to.behind) (same-came e) ∙ sym (behind-more t so_far.events e)

    pub heard-more : {T : Type 0} (value : T) {t' : Sitting} {left' : Option (List ℕ)} {after : Option Output} {steps' : ℕ}
        → HearsOne {T = T} m (Ok value) left_here left' here t' between after steps_here steps' → Heard m t t' left left' before after steps steps'
    heard-more value {t' = t'} {left' = left'} {after = after} {steps' = steps'} one = record {
      events = so_far.events ++ one.event ∷ [];
      read = read-next left left_here left' so_far.events one.event so_far.read one.read;
      may_come = may-come-next one.event one.may_come;
      comes = record {
        sitting_is = sits-next one.event t' one.comes.sitting_is;
        output_is = puts-next one.event after one.comes.output_is;
        most = most-next one.event steps' one.comes.most;
        steps_are = exact-next one.event steps' one.comes.steps_are;
      };
    }

    -- trouble came in the midst of the next answer
    heard-in-part : {T : Type 0} (trouble : Trouble) {t' : Sitting} {left' : Option (List ℕ)} {after : Option Output} {steps' : ℕ}
        → HearsOne {T = T} m (Err trouble) left_here left' here t' between after steps_here steps' → HeardInPart m t left before after steps steps'
    heard-in-part trouble {left' = left'} {after = after} {steps' = steps'} one = record {
      events = so_far.events ++ one.event ∷ [];
      left' = left';
      read = read-next left left_here left' so_far.events one.event so_far.read one.read;
      may_come = may-come-next one.event one.may_come;
      comes = record { cut = cut-next one.event after one.comes.cut; most = most-next one.event steps' one.comes.most };
    }

    -- nothing more was done
    heard-before : {after : Option Output} {steps' : ℕ} → IsSilent between after steps_here steps' → Heard m t here left left_here before after steps steps'
    heard-before {after = after} {steps' = steps'} silent =
        subst (λ (o : Option Output). Heard m t here left left_here before o steps steps') (sym silent.output_is)
        (subst (λ (n : ℕ). Heard m t here left left_here before between steps n) (sym silent.steps_are) so_far)

    pub heard-all : {t' : Sitting} {after : Option Output} {steps' : ℕ} → HearsNone left_here here t' between after steps_here steps' → Heard m t t' left (Some []) before after steps steps'
    heard-all {t' = t'} {after = after} {steps' = steps'} none =
        let so : Heard m t here left left_here before after steps steps' = heard-before none.silent in
        record {
          events = so.events;
          read = read-to-the-end left left_here so.events so.read none.over;
          may_come = so.may_come;
          comes = record { sitting_is = none.sitting_is ∙ so.comes.sitting_is; output_is = so.comes.output_is; most = so.comes.most; steps_are = so.comes.steps_are };
        }

    -- trouble came before the next answer, or in its midst
    trouble-heard : (trouble : Trouble) (left' : Option (List ℕ)) (t' : Sitting) (after : Option Output) (steps' : ℕ) → Hears m (Err (breaks.Trouble trouble)) left_here left' here t' between after steps_here steps'
        → HeardInPart m t left before after steps steps'
    trouble-heard trouble left' t' after steps' (inl silent) = in-part (heard-before silent)
    trouble-heard trouble left' t' after steps' (inr one) = heard-in-part {T = Bool} trouble one

  -- the answer tells whether something came in
  pub hears-one : (more : Bool) {left left' : Option (List ℕ)} {t t' : Sitting} {before after : Option Output} {steps steps' : ℕ} → more ≡ true → Hears m (Ok more) left left' t t' before after steps steps'
      → HearsOne {T = Bool} m (Ok true) left left' t t' before after steps steps'
  hears-one true is hears = hears
  hears-one false is hears = absurd (let no : false ≡ true = is in cc)

  pub hears-none : (more : Bool) (left left' : Option (List ℕ)) (t t' : Sitting) (before after : Option Output) (steps steps' : ℕ) → more ≡ false → Hears m (Ok more) left left' t t' before after steps steps'
      → HearsNone left t t' before after steps steps'
  hears-none true left left' t t' before after steps steps' is hears = absurd (let no : true ≡ false = is in cc)
  hears-none false left left' t t' before after steps steps' is hears = hears

  -- what ended the answers
  serves-until : (e : Break) (standing standing' : Standing) (here t' : Sitting) (left left_here left' : Option (List ℕ)) (before between after : Option Output) (steps steps_here steps' : ℕ)
      → Heard m (begun_at standing) here left left_here before between steps steps_here → Hears m (Err e) left_here left' here t' between after steps_here steps' → Serves m standing left left' (Err e) standing' before after steps steps'
  serves-until breaks.Inlet standing standing' here t' left left_here left' before between after steps steps_here steps' so_far hears = (here, left_here, heard-before so_far hears.1, hears.0)
  serves-until (breaks.Trouble trouble) standing standing' here t' left left_here left' before between after steps steps_here steps' so_far hears = trouble-heard so_far trouble left' t' after steps' hears

  pub serves-short : (result : Result Tally Break) (e : Break) (standing standing' : Standing) (here t' : Sitting) (left left_here left' : Option (List ℕ)) (before between after : Option Output) (steps steps_here steps' : ℕ)
      → IsErrAnd result (λ x. x ≡ e) → Heard m (begun_at standing) here left left_here before between steps steps_here → Hears m (Err e) left_here left' here t' between after steps_here steps'
      → Serves m standing left left' result standing' before after steps steps'
  serves-short result e standing standing' here t' left left_here left' before between after steps steps_here steps' err so_far hears =
      on-err result e (λ r. Serves m standing left left' r standing' before after steps steps') err
      (serves-until e standing standing' here t' left left_here left' before between after steps steps_here steps' so_far hears)
