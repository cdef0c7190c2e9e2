-- Two runs that read on alike in files that are kin: from equal states their turns are the same.
use Rattle.std.proofs.Common.{◌≡◌, ℕ, zero, suc, ◌+◌, ◌-◌, ◌≤◌, Bool, true, false, cond, List, [], ◌∷◌, ◌++◌, length, take, drop, Option, Some, None, refl, sym, ap, ◌∙◌, subst, nat_lt}
use Rattle.std.specs.Prelude.{slice_get, slice_set}
use Rattle.std.specs.List.{AllZip}
use Rattle.tx_bytes.specs.Files.{Files, content}
use Rattle.tx_files.specs.declared.reads.Note.{Note}
use Rattle.tx_files.specs.declared.reads.Sight.{Sight}
use Rattle.tx_files.specs.declared.reads.Sight.TheVariants.{Line as LineSeen, End as EndSeen, Opened, Whole as WholeSeen}
use Rattle.tx_files.specs.Reads.{is_asked}
use Rattle.tx_event.specs.declared.types.Ask.{Ask}
use Rattle.tx_event.specs.declared.types.Ask.TheVariants.{Open, Line, Close as CloseIt, Whole}
use Rattle.tx_machine.specs.declared.types.Close.{Close}
use Rattle.tx_machine.specs.declared.types.Close.TheVariants.{Spent}
use Rattle.tx_event.specs.declared.types.Event.{Event}
use Rattle.tx_event.specs.declared.types.Event.TheVariants.{Went, Asks, Shipped, Stopped}
use Rattle.tx_machine.specs.declared.types.OpenFile.{OpenFile}
use Rattle.tx_machine.specs.Machine.{Formatter}
use Rattle.tx_machine.specs.Notes.{notes_of, line_notes, found_sight}
use Rattle.tx_machine.specs.Opens.{Answered, bytes_of, innermost, opening, reading, whole, reply_to}
use Rattle.tx_machine.specs.Turn.{Place, Progress, after_event, one_turn, joined, stretch, stretch_by}
use Rattle.tx_quiesce.proofs.Asked.{AreAsked, asked-front, asked-back}
use Rattle.tx_quiesce.proofs.Rests.{first_line, line-within, read_by, sight_by, reading-is, notes-are}
use Rattle.tx_quiesce.proofs.Zips.{AreBoth, zip-length, zip-get, zip-set, zip-take, zip-append}

-- files before and after, of which related open files read on alike, as long as only some files are asked for
pub record IsKin (before after : Files) (R : OpenFile → OpenFile → Type 0) (N : Note → Note → Type 0) (A : List ℕ → Type 0) : Type 0 where
  pub names : (o p : OpenFile) → R o p → p.name ≡ o.name
  pub rests : (o p : OpenFile) → R o p → drop p.offset (bytes_of after p.name) ≡ drop o.offset (bytes_of before o.name)
  pub moves : (o p : OpenFile) → R o p → (n : ℕ) → n ≤ length (drop o.offset (bytes_of before o.name)) → R (record o { offset = o.offset + n }) (record p { offset = p.offset + n })
  pub lines : (o p : OpenFile) → R o p → (n : ℕ) → n ≤ length (drop o.offset (bytes_of before o.name))
      → N (record { name = o.name; sight = LineSeen (o.offset + n) }) (record { name = p.name; sight = LineSeen (p.offset + n) })
  pub ends : (o p : OpenFile) → R o p → N (record { name = o.name; sight = EndSeen }) (record { name = p.name; sight = EndSeen })
  pub same : (name : List ℕ) → A name → content after name ≡ content before name
  pub opened : (name : List ℕ) → A name → (bytes : List ℕ) → content before name ≡ Some bytes → R (record { name = name; offset = 0 }) (record { name = name; offset = 0 })
  pub asked : (name : List ℕ) (sight : Sight) → A name → is_asked sight ≡ true → N (record { name = name; sight = sight }) (record { name = name; sight = sight })

-- a turn, and where it ended nothing the turns behind it
abbrev unrolled : {S : Type 0} → Progress S → Progress S → Option Close → Progress S
unrolled first later None = joined first later
unrolled first later (Some close) = first

-- the same turns, but for where the open files stand
pub record AreKin {S : Type 0} (R : OpenFile → OpenFile → Type 0) (N : Note → Note → Type 0) (t u : Progress S) : Type 0 where
  pub close : u.close ≡ t.close
  pub said : u.said ≡ t.said
  pub turns : u.turns ≡ t.turns
  pub log : AllZip N t.log u.log
  pub state : u.place.state ≡ t.place.state
  pub left : u.place.left ≡ t.place.left
  pub opens : AllZip R t.place.opens u.place.opens

module _ {before after : Files} {R : OpenFile → OpenFile → Type 0} {N : Note → Note → Type 0} {A : List ℕ → Type 0} (kin : IsKin before after R N A) where
  record AnswerKin (a b : Answered) : Type 0 where
    reply : b.reply ≡ a.reply
    opens : AllZip R a.opens b.opens

  record AskKin (os ps : List OpenFile) (ask : Ask) : Type 0 where
    answer : AnswerKin (reply_to before os ask) (reply_to after ps ask)
    notes : AllZip N (notes_of before os ask) (notes_of after ps ask)

  -- a file is opened
  found_asked : (held : Option (List ℕ)) → is_asked (found_sight Opened held) ≡ true
  found_asked None = refl
  found_asked (Some bytes) = refl

  taken_asked : (held : Option (List ℕ)) → is_asked (found_sight WholeSeen held) ≡ true
  taken_asked None = refl
  taken_asked (Some bytes) = refl

  opening_kin : (os ps : List OpenFile) (name : List ℕ) (held : Option (List ℕ)) → AllZip R os ps → A name → content before name ≡ held → AnswerKin (opening os name held) (opening ps name held)
  opening_kin os ps name None zip may is = record { reply = refl; opens = zip }
  opening_kin os ps name (Some bytes) zip may is = record { reply = refl; opens = zip-append R os ps _ _ zip (kin.opened name may bytes is, tt) }

  whole_kin : (os ps : List OpenFile) (held : Option (List ℕ)) → AllZip R os ps → AnswerKin (whole os held) (whole ps held)
  whole_kin os ps None zip = record { reply = refl; opens = zip }
  whole_kin os ps (Some bytes) zip = record { reply = refl; opens = zip }

  -- a line is read
  read_kin : (os ps : List OpenFile) (o p : OpenFile) (rest : List ℕ) (line : Option (ℕ × Bool)) → AllZip R os ps → R o p → rest ≡ drop o.offset (bytes_of before o.name) → first_line rest ≡ line
      → AnswerKin (read_by os o rest line) (read_by ps p rest line)
  read_kin os ps o p rest None zip r same is = record { reply = refl; opens = zip }
  read_kin os ps o p rest (Some line) zip r same is =
      let within : line.0 ≤ length (drop o.offset (bytes_of before o.name)) = subst (λ (xs : List ℕ). line.0 ≤ length xs) same (line-within rest line is) in
      record {
        reply = refl;
        opens = subst (λ k. AllZip R (slice_set os (length os - 1) (record o { offset = o.offset + line.0 })) (slice_set ps k (record p { offset = p.offset + line.0 }))) (ap (λ n. n - 1) (sym (zip-length R os ps zip)))
            (zip-set R os ps (length os - 1) _ _ zip (kin.moves o p r line.0 within));
      }

  sight_kin : (o p : OpenFile) (rest : List ℕ) (line : Option (ℕ × Bool)) → R o p → rest ≡ drop o.offset (bytes_of before o.name) → first_line rest ≡ line
      → N (record { name = o.name; sight = sight_by o.offset line }) (record { name = p.name; sight = sight_by p.offset line })
  sight_kin o p rest None r same is = kin.ends o p r
  sight_kin o p rest (Some line) r same is = by line.1
    where
      within : line.0 ≤ length (drop o.offset (bytes_of before o.name))
      within = subst (λ (xs : List ℕ). line.0 ≤ length xs) same (line-within rest line is)

      by : (lf : Bool) → N (record { name = o.name; sight = cond lf (LineSeen (o.offset + line.0)) EndSeen }) (record { name = p.name; sight = cond lf (LineSeen (p.offset + line.0)) EndSeen })
      by true = kin.lines o p r line.0 within
      by false = kin.ends o p r

  line_kin : (os ps : List OpenFile) (o p : Option OpenFile) → AllZip R os ps → AreBoth R o p → AnswerKin (reading before os o) (reading after ps p) × AllZip N (line_notes before o) (line_notes after p)
  line_kin os ps None None zip r = (record { reply = refl; opens = zip }, tt)
  line_kin os ps None (Some p) zip r = absurd r
  line_kin os ps (Some o) None zip r = absurd r
  line_kin os ps (Some o) (Some p) zip r =
      let rest : List ℕ = drop o.offset (bytes_of before o.name) in
      let there : Answered = read_by ps p rest (first_line rest) in
      let new : reading after ps (Some p) ≡ there = reading-is after ps p ∙ ap (λ (xs : List ℕ). read_by ps p xs (first_line xs)) (kin.rests o p r) in
      let seen : line_notes after (Some p) ≡ record { name = p.name; sight = sight_by p.offset (first_line rest) } ∷ [] =
      notes-are after p ∙ ap (λ (xs : List ℕ). record { name = p.name; sight = sight_by p.offset (first_line xs) } ∷ []) (kin.rests o p r) in (
        subst (λ (a : Answered). AnswerKin a (reading after ps (Some p))) (sym (reading-is before os o))
            (subst (AnswerKin (read_by os o rest (first_line rest))) (sym new) (read_kin os ps o p rest (first_line rest) zip r refl refl)),
        subst (λ (log : List Note). AllZip N log (line_notes after (Some p))) (sym (notes-are before o))
            (subst (AllZip N (record { name = o.name; sight = sight_by o.offset (first_line rest) } ∷ [])) (sym seen) (sight_kin o p rest (first_line rest) r refl refl, tt)),
      )

  ask_kin : (os ps : List OpenFile) (ask : Ask) → AllZip R os ps → AreAsked A (notes_of before os ask) → AskKin os ps ask
  ask_kin os ps (Open name) zip asked =
      let may : A name = asked.0 (found_asked (content before name)) in
      record {
        answer = subst (λ held. AnswerKin (opening os name (content before name)) (opening ps name held)) (sym (kin.same name may)) (opening_kin os ps name (content before name) zip may refl);
        notes = subst (λ held. AllZip N (record { name = name; sight = found_sight Opened (content before name) } ∷ []) (record { name = name; sight = found_sight Opened held } ∷ [])) (sym (kin.same name may))
            (kin.asked name (found_sight Opened (content before name)) may (found_asked (content before name)), tt);
      }
  ask_kin os ps Line zip asked =
      let at : length ps - 1 ≡ length os - 1 = ap (λ n. n - 1) (zip-length R os ps zip) in
      let pair : AreBoth R (innermost os) (innermost ps) = subst (λ k. AreBoth R (innermost os) (slice_get ps k)) (sym at) (zip-get R os ps (length os - 1) zip) in
      let both = line_kin os ps (innermost os) (innermost ps) zip pair in
      record { answer = both.0; notes = both.1 }
  ask_kin os ps CloseIt zip asked =
      let at : length ps - 1 ≡ length os - 1 = ap (λ n. n - 1) (zip-length R os ps zip) in
      record {
        answer = record { reply = refl; opens = subst (λ k. AllZip R (take (length os - 1) os) (take k ps)) (sym at) (zip-take R os ps (length os - 1) zip) };
        notes = tt;
      }
  ask_kin os ps (Whole name) zip asked =
      let may : A name = asked.0 (taken_asked (content before name)) in
      record {
        answer = subst (λ held. AnswerKin (whole os (content before name)) (whole ps held)) (sym (kin.same name may)) (whole_kin os ps (content before name) zip);
        notes = subst (λ held. AllZip N (record { name = name; sight = found_sight WholeSeen (content before name) } ∷ []) (record { name = name; sight = found_sight WholeSeen held } ∷ [])) (sym (kin.same name may))
            (kin.asked name (found_sight WholeSeen (content before name)) may (taken_asked (content before name)), tt);
      }

  module _ {S : Type 0} (m : Formatter S) where
    event_kin : (os ps : List OpenFile) (left : ℕ) (next : S) (said : List ℕ) (event : Event) → AllZip R os ps → AreAsked A (after_event m before os left next said event).log
        → AreKin R N (after_event m before os left next said event) (after_event m after ps left next said event)
    event_kin os ps left next said Went zip asked = record { close = refl; said = refl; turns = refl; log = tt; state = refl; left = refl; opens = zip }
    event_kin os ps left next said (Asks ask) zip asked =
        let both : AskKin os ps ask = ask_kin os ps ask zip asked in
        record { close = refl; said = refl; turns = refl; log = both.notes; state = ap (m.take next) both.answer.reply; left = refl; opens = both.answer.opens }
    event_kin os ps left next said (Shipped body) zip asked = record { close = refl; said = refl; turns = refl; log = tt; state = refl; left = refl; opens = zip }
    event_kin os ps left next said (Stopped stop) zip asked = record { close = refl; said = refl; turns = refl; log = tt; state = refl; left = refl; opens = zip }

    turn_at : (p : Place S) (ps : List OpenFile) → AllZip R p.opens ps → AreAsked A (one_turn m before p).log → AreKin R N (one_turn m before p) (one_turn m after (record p { opens = ps }))
    unfolding one_turn
    turn_at p ps zip asked = by (nat_lt p.left (m.cost p.state)) asked
      where
        on : Files → List OpenFile → Progress S
        on files opens = after_event m files opens (p.left - m.cost p.state) (m.step p.state).next (m.step p.state).said (m.step p.state).event

        by : (b : Bool) → AreAsked A (cond b (record { close = Some Spent; said = []; turns = 0; log = []; place = p }) (on before p.opens)).log
            → AreKin R N (cond b (record { close = Some Spent; said = []; turns = 0; log = []; place = p }) (on before p.opens))
            (cond b (record { close = Some Spent; said = []; turns = 0; log = []; place = record p { opens = ps } }) (on after ps))
        by true asked = record { close = refl; said = refl; turns = refl; log = tt; state = refl; left = refl; opens = zip }
        by false asked = event_kin p.opens ps _ _ _ (m.step p.state).event zip asked

    turn_kin : (p q : Place S) → q.state ≡ p.state → q.left ≡ p.left → AllZip R p.opens q.opens → AreAsked A (one_turn m before p).log → AreKin R N (one_turn m before p) (one_turn m after q)
    turn_kin p q state left zip asked =
        let is : record p { opens = q.opens } ≡ q = λ i. record { state = sym state i; opens = q.opens; left = sym left i } in
        subst (λ (r : Place S). AreKin R N (one_turn m before p) (one_turn m after r)) is (turn_at p q.opens zip asked)

    joined_kin : (t u later last : Progress S) → AreKin R N t u → AreKin R N later last → AreKin R N (joined t later) (joined u last)
    joined_kin t u later last first behind = record {
      close = behind.close;
      said = λ i. first.said i ++ behind.said i;
      turns = λ i. first.turns i + behind.turns i;
      log = zip-append N t.log u.log later.log last.log first.log behind.log;
      state = behind.state;
      left = behind.left;
      opens = behind.opens;
    }

    kin_by : (fuel : ℕ) (p q : Place S) → q.state ≡ p.state → q.left ≡ p.left → AllZip R p.opens q.opens → AreAsked A (stretch_by m before fuel p).log
        → AreKin R N (stretch_by m before fuel p) (stretch_by m after fuel q)
    kin_by zero p q state left zip asked = turn_kin p q state left zip asked
    kin_by (suc fuel) p q state left zip asked = by (kin_by fuel t.place u.place) t.close refl asked
      where
        t : Progress S
        t = one_turn m before p

        u : Progress S
        u = one_turn m after q

        later : Progress S
        later = stretch_by m before fuel t.place

        last : Progress S
        last = stretch_by m after fuel u.place

        by : (u.place.state ≡ t.place.state → u.place.left ≡ t.place.left → AllZip R t.place.opens u.place.opens → AreAsked A later.log → AreKin R N later last)
            → (close : Option Close) → t.close ≡ close → AreAsked A (unrolled t later close).log → AreKin R N (unrolled t later close) (unrolled u last u.close)
        by there None is asked =
            let turn : AreKin R N t u = turn_kin p q state left zip (asked-front A t.log later.log asked) in
            subst (λ (close : Option Close). AreKin R N (joined t later) (unrolled u last close)) (sym (turn.close ∙ is))
            (joined_kin t u later last turn (there turn.state turn.left turn.opens (asked-back A t.log later.log asked)))
        by there (Some c) is asked =
            let turn : AreKin R N t u = turn_kin p q state left zip asked in
            subst (λ (close : Option Close). AreKin R N t (unrolled u last close)) (sym (turn.close ∙ is)) turn

    pub kin-stretch : (p q : Place S) → q.state ≡ p.state → q.left ≡ p.left → AllZip R p.opens q.opens → AreAsked A (stretch m before p).log → AreKin R N (stretch m before p) (stretch m after q)
    unfolding stretch
    kin-stretch p q state left zip asked =
        subst (λ fuel. AreKin R N (stretch_by m before p.left p) (stretch_by m after fuel q)) (sym left) (kin_by p.left p q state left zip asked)
