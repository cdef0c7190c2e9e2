-- The turns of a page that were taken so far, joined to those that are left, are the whole stretch, part by part.
use Rattle.std.proofs.Common.{◌≡◌, ◌≢◌, ℕ, ◌+◌, ◌<◌, ◌≤◌, List, [], ◌++◌, Option, Some, None, refl, sym, ap, ◌∙◌, subst, arith, append_assoc}
use Rattle.std.proofs.lemmas.List.Sums.{fold-append}
use Rattle.tx_bytes.specs.Files.{Files}
use Rattle.tx_files.specs.declared.reads.Note.{Note}
use Rattle.tx_files.specs.Reads.{Reads, noted, noting}
use Rattle.tx_machine.specs.declared.types.Close.{Close}
use Rattle.tx_machine.specs.declared.types.Close.TheVariants.{Halt}
use Rattle.tx_event.specs.declared.types.Stop.{Stop}
use Rattle.tx_event.specs.Turns.{Ready}
use Rattle.tx_machine.specs.Machine.{Formatter, IsLawful}
use Rattle.tx_machine.specs.Counts.{Made, Closes, closing_turns}
use Rattle.tx_machine.specs.Steps.{raised}
use Rattle.tx_machine.specs.Turn.{Place, one_turn, joined, stretch}
use Rattle.tx_machine.proofs.Stretch.{stretch-over, stretch-on, left-one_turn, ready-one_turn, turns-one_turn, turns-closing, turns-going}

-- raised twice is raised by the sum
pub raised-raised : (count a b : ℕ) → raised (raised count a) b ≡ raised count (a + b)
raised-raised count a b = omega arith

pub raised-le : (count a b : ℕ) → a ≤ b → raised count a ≤ raised count b
raised-le count a b h = omega arith

pub raised-zero : (count : ℕ) → raised count 0 ≡ count
raised-zero count = omega arith

-- to note one log and then another is to note both
pub noting-append : (reads : Reads) (first later : List Note) → noting reads (first ++ later) ≡ noting (noting reads first) later
noting-append reads first later = fold-append noted reads first later

none_stops : (close : Option Close) → close ≡ None → (stop : Stop) → close ≢ Some (Halt stop)
none_stops close none stop h = let e : None ≡ Some (Halt stop) = sym none ∙ h in cc

pub record Going {S : Type 0} (m : Formatter S) (files : Files) (begun here : Place S) (told : List ℕ) (turns : ℕ) (at_first seen : Reads) (before now : ℕ) : Type 0 where
  pub ready : m.mode here.state ≡ Ready
  pub counted : now ≡ raised before turns
  pub within : turns + here.left ≤ begun.left
  pub close : (stretch m files begun).close ≡ (stretch m files here).close
  pub said : (stretch m files begun).said ≡ told ++ (stretch m files here).said
  pub total : (stretch m files begun).turns ≡ turns + (stretch m files here).turns
  pub reads : noting at_first (stretch m files begun).log ≡ noting seen (stretch m files here).log
  pub place : (stretch m files begun).place ≡ (stretch m files here).place

pub going-begins : {S : Type 0} (m : Formatter S) (files : Files) (begun : Place S) (told : List ℕ) (seen : Reads) (now : ℕ) → m.mode begun.state ≡ Ready → told ≡ [] → Going m files begun begun told 0 seen seen now now
going-begins m files begun told seen now ready empty = record {
  ready = ready;
  within = omega arith;
  counted = sym (raised-zero now);
  close = refl;
  said = ap (λ t. t ++ (stretch m files begun).said) (sym empty);
  total = omega arith;
  reads = refl;
  place = refl;
}

module _ {S : Type 0} {m : Formatter S} {files : Files} {begun here : Place S} {told : List ℕ} {turns : ℕ} {at_first seen : Reads} {before now : ℕ} (lawful : IsLawful m) (so_far : Going m files begun here told turns at_first seen before now) where
  -- after a turn that ended nothing
  pub going-on : {close : Option Close} {next : Place S} {told' : List ℕ} {seen' : Reads} {now' : ℕ} → close ≡ None → Made (one_turn m files here) close next told told' → seen' ≡ noting seen (one_turn m files here).log
      → now' ≡ raised now (one_turn m files here).turns → Going m files begun next told' (turns + 1) at_first seen' before now'
  going-on {next = next} {told' = told'} {seen' = seen'} none made saw count =
      let ends_nothing : (one_turn m files here).close ≡ None = sym made.close_is ∙ none in
      let unrolled : stretch m files here ≡ joined (one_turn m files here) (stretch m files (one_turn m files here).place) = stretch-on m files lawful here ends_nothing in
      let same : (one_turn m files here).place ≡ next = sym made.place_is in
      let one : (one_turn m files here).turns ≡ 1 = turns-going m files here ends_nothing in
      record {
        ready = ap (λ (p : Place S). m.mode p.state) made.place_is ∙ ready-one_turn m files lawful here so_far.ready (none_stops _ ends_nothing);
        counted = count ∙ (λ i. raised (so_far.counted i) (one i)) ∙ raised-raised before turns 1;
        within =
            let less : (one_turn m files here).turns + (one_turn m files here).place.left ≤ here.left = turns-one_turn m files lawful here in
            let left : (one_turn m files here).place.left ≡ next.left = ap (λ p. p.left) same in
            omega (arith, so_far.within);
        close = so_far.close ∙ ap (λ t. t.close) unrolled ∙ ap (λ p. (stretch m files p).close) same;
        said = so_far.said ∙ ap (λ t. told ++ t.said) unrolled
            ∙ sym (append_assoc told (one_turn m files here).said (stretch m files (one_turn m files here).place).said)
            ∙ (λ i. sym made.said_is i ++ (stretch m files (same i)).said);
        total = so_far.total ∙ ap (λ t. turns + t.turns) unrolled
            ∙ (let e : (stretch m files (one_turn m files here).place).turns ≡ (stretch m files next).turns = ap (λ p. (stretch m files p).turns) same in omega arith);
        reads = so_far.reads ∙ ap (λ t. noting seen t.log) unrolled ∙ noting-append seen (one_turn m files here).log _
            ∙ (λ i. noting (sym saw i) (stretch m files (same i)).log);
        place = so_far.place ∙ ap (λ t. t.place) unrolled ∙ ap (λ p. (stretch m files p).place) same;
      }

  -- and the budget has less left
  pub going-less : {close : Option Close} {next : Place S} {told' : List ℕ} → close ≡ None → Made (one_turn m files here) close next told told' → next.left < here.left
  going-less {next = next} none made = subst (λ (p : Place S). p.left < here.left) (sym made.place_is) (left-one_turn m files lawful here (sym made.close_is ∙ none))

  -- after the turn that ended the page
  pub going-over : {close : Option Close} {c : Close} {next : Place S} {told' : List ℕ} (piece : List ℕ) (taken : ℕ) → close ≡ Some c → Made (one_turn m files here) close next told told' → piece ≡ told' → taken ≡ turns + closing_turns c
      → Closes (stretch m files begun) (record { close = c; piece = piece; turns = taken }) next
  going-over piece taken over made handed all_taken =
      let all : stretch m files here ≡ one_turn m files here = stretch-over m files here (sym made.close_is ∙ over) in
      record {
        close_is = so_far.close ∙ ap (λ t. t.close) all ∙ sym made.close_is ∙ over;
        piece_is = handed ∙ made.said_is ∙ sym (so_far.said ∙ ap (λ t. told ++ t.said) all);
        turns_is = all_taken ∙ ap (λ n. turns + n) (sym (turns-closing m files here (sym made.close_is ∙ over))) ∙ sym (so_far.total ∙ ap (λ t. turns + t.turns) all);
        place_is = made.place_is ∙ sym (so_far.place ∙ ap (λ t. t.place) all);
      }

  -- all of its turns fit the count
  pub going-fits : {close : Option Close} {c : Close} {next : Place S} {told' : List ℕ} → close ≡ Some c → Made (one_turn m files here) close next told told' → turns + closing_turns c ≤ begun.left
  going-fits over made =
      let taken : (one_turn m files here).turns ≡ closing_turns _ = turns-closing m files here (sym made.close_is ∙ over) in
      let less : (one_turn m files here).turns + (one_turn m files here).place.left ≤ here.left = turns-one_turn m files lawful here in
      omega (arith, so_far.within)

  pub going-fits_one : {close : Option Close} {next : Place S} {told' : List ℕ} → close ≡ None → Made (one_turn m files here) close next told told' → turns + 1 ≤ begun.left
  going-fits_one none made =
      let taken : (one_turn m files here).turns ≡ 1 = turns-going m files here (sym made.close_is ∙ none) in
      let less : (one_turn m files here).turns + (one_turn m files here).place.left ≤ here.left = turns-one_turn m files lawful here in
      omega (arith, so_far.within)

  pub going-reads : {close : Option Close} {c : Close} {next : Place S} {told' : List ℕ} {seen' : Reads} → close ≡ Some c → Made (one_turn m files here) close next told told' → seen' ≡ noting seen (one_turn m files here).log
      → seen' ≡ noting at_first (stretch m files begun).log
  going-reads over made saw = saw ∙ sym (so_far.reads ∙ ap (λ t. noting seen t.log) (stretch-over m files here (sym made.close_is ∙ over)))

  pub going-counted : {close : Option Close} {c : Close} {next : Place S} {told' : List ℕ} {now' : ℕ} → close ≡ Some c → Made (one_turn m files here) close next told told' → now' ≡ raised now (one_turn m files here).turns → now' ≡ raised before (stretch m files begun).turns
  going-counted over made count =
      let all : stretch m files here ≡ one_turn m files here = stretch-over m files here (sym made.close_is ∙ over) in
      count ∙ ap (λ n. raised n (one_turn m files here).turns) so_far.counted ∙ raised-raised before _ _
      ∙ ap (raised before) (sym (so_far.total ∙ ap (λ t. turns + t.turns) all))

  -- whatever the turn answers, it counted no more turns than the stretch has
  first-turns : (c : Option Close) → (one_turn m files here).close ≡ c → (one_turn m files here).turns ≤ (stretch m files here).turns
  first-turns (Some c) e = let all : (stretch m files here).turns ≡ (one_turn m files here).turns = ap (λ t. t.turns) (stretch-over m files here e) in omega arith
  first-turns None e = let all : (stretch m files here).turns ≡ (one_turn m files here).turns + (stretch m files (one_turn m files here).place).turns = ap (λ t. t.turns) (stretch-on m files lawful here e) in omega arith

  pub going-bound : {now' : ℕ} → now' ≡ raised now (one_turn m files here).turns → now' ≤ raised before (stretch m files begun).turns
  going-bound count =
      let first : (one_turn m files here).turns ≤ (stretch m files here).turns = first-turns _ refl in
      let total : (stretch m files begun).turns ≡ turns + (stretch m files here).turns = so_far.total in
      rw (count ∙ ap (λ n. raised n (one_turn m files here).turns) so_far.counted ∙ raised-raised before turns (one_turn m files here).turns) (raised-le before _ _ (omega arith))
