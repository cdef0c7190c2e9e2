-- What an inlet leaves that failed in the midst of what comes next.
use Rattle.std.proofs.Common.{◌≡◌, ℕ, ◌+◌, ◌-◌, ◌<◌, ◌≤◌, false, List, [], ◌∷◌, ◌++◌, length, take, drop, refl, sym, ap, subst, ◌∙◌, append_assoc, arith}
use Rattle.std.specs.Prelude.{Ok, Err}
use Rattle.std.proofs.lemmas.List.{append-nil, length-append, length-drop, take_at}
use Rattle.tx_io.specs.Inlet.{behind_line, line_len}
use Rattle.tx_script.specs.declared.error.Broken.{Broken}
use Rattle.tx_script.specs.declared.error.Rule.{Rule}
use Rattle.tx_script.specs.Reading.{Read}
use Rattle.tx_script.proofs.Forms.{Breaks, ok_or_err}
use Rattle.tx_request.specs.declared.request.Next.{Next}
use Rattle.tx_request.specs.declared.request.Next.TheVariants.{Asks, Refused, Over, Failed, OutOfMemory}
use Rattle.tx_request.specs.declared.request.Request.{Request}
use Rattle.tx_request.specs.Reading.{request_at}
use Rattle.tx_request.specs.Requests.{request_elements, BeginsRequest, IsAtFront, IsBrokenOff, IsRefused, IsRequest}
use Rattle.tx_request.specs.Streaming.{BreaksOff, EndsPast, IsPlain, StopsAt}
use Rattle.tx_request.proofs.Bodies.{request_reads}
use Rattle.tx_request.proofs.Cuts.{none_is, same_front}
use Rattle.tx_request.proofs.Fronts.{only_reading, refusal}
use Rattle.tx_request.proofs.Lines.{drop_past, none_behind, plain-append, plain_drop, some_line_len}

-- what follows the first line of some bytes is less than they are
behind_within : (bytes : List ℕ) → length (behind_line bytes) ≤ length bytes
behind_within bytes = omega (arith, length-drop (line_len bytes) bytes)

none_before : (bytes : List ℕ) → length bytes ≤ length (behind_line bytes) → bytes ≡ []
none_before [] h = refl
none_before (c ∷ bytes) h =
    let some = some_line_len c bytes in
    let sized = length-drop (line_len (c ∷ bytes)) (c ∷ bytes) in
    absurd (omega arith)

-- where bytes that begin a request are followed by some without LF, nothing follows what is refused
nothing_behind : (read rest : List ℕ) → BeginsRequest read → IsPlain rest → (bytes : List ℕ) → bytes ≡ read ++ rest → (rule : Rule) (later : List ℕ) → IsRefused bytes rule later → later ≡ []
nothing_behind read rest begun plain bytes is rule later k =
    k.rest_is ∙ ap behind_line unread_is ∙ none_behind (drop (k.place - length read) rest) (plain_drop (k.place - length read) rest plain)
  where
    front_is : take (length read) bytes ≡ read
    front_is = ap (λ (x : List ℕ). take (length read) x) is ∙ take_at read rest (length read) refl

    no_less : length read ≤ k.place
    no_less =
        let sizes : length bytes ≡ length read + length rest = ap length is ∙ length-append read rest in
        let not_less = λ (h : k.place < length read). k.furthest.no_further (length read) h (omega (arith, sizes)) (subst BeginsRequest (sym front_is) begun) in
        omega arith

    unread_is : drop k.place bytes ≡ drop (k.place - length read) rest
    unread_is =
        let place : k.place ≡ length read + (k.place - length read) = omega (arith, no_less) in
        ap (λ (n : ℕ). drop n bytes) place ∙ ap (λ (x : List ℕ). drop (length read + (k.place - length read)) x) is ∙ drop_past read rest (k.place - length read)

-- so they aren't refused in whole: what comes next may go on
goes_on : (read skipped : List ℕ) → BeginsRequest read → IsPlain skipped → (rule : Rule) (later : List ℕ) → ((more : List ℕ) → IsRefused ((read ++ skipped) ++ more) rule (later ++ more)) → ⊥
goes_on read skipped begun plain rule later always =
    let none : later ++ 0 ∷ [] ≡ [] =
    nothing_behind read (skipped ++ 0 ∷ []) begun (plain-append skipped (0 ∷ []) plain (λ e. omega (arith, e), tt)) ((read ++ skipped) ++ 0 ∷ []) (append_assoc read skipped (0 ∷ [])) rule (later ++ 0 ∷ []) (always (0 ∷ [])) in
    omega (arith, ap length none, length-append later (0 ∷ []))

-- where all bytes were taken, and have no LF behind the place where reading them breaks, nothing was taken in whole
all_taken : (bytes taken left : List ℕ) (b : Broken) → bytes ≡ taken ++ left → left ≡ [] → (k : Breaks IsRequest request_elements bytes b) → IsPlain k.rest
    → (rule : Rule) (later : List ℕ) → ((more : List ℕ) → IsRefused (taken ++ more) rule (later ++ more)) → ⊥
all_taken bytes taken left b are none k plain rule later always =
    goes_on k.read k.rest (k.whose, k.more, k.fits, sym k.begins) plain rule later (λ more. subst (λ (x : List ℕ). IsRefused (x ++ more) rule (later ++ more)) taken_is (always more))
  where
    taken_is : taken ≡ k.read ++ k.rest
    taken_is = sym (append-nil taken) ∙ ap (λ (x : List ℕ). taken ++ x) (sym none) ∙ sym are ∙ k.split

-- the inlet failed before the end of a request
asked_off : (bytes left : List ℕ) (r : Request) (rest : List ℕ) → request_at bytes ≡ Ok (r, rest) → (taken : List ℕ) → bytes ≡ taken ++ left → length rest < length left → IsBrokenOff bytes left
asked_off bytes left r rest is taken are past = record {
  taken = taken;
  are = are;
  unended = λ next later always.
      let same : later ++ left ≡ rest = only next (later ++ left) (subst (λ (x : List ℕ). IsAtFront next x (later ++ left)) (sym are) (always left)) in
      omega (arith, past, ap length same, length-append later left);
  no_more = λ next later at. omega (arith, past, ap length (only next later at));
}
  where
    only : (next : Next) (later : List ℕ) → IsAtFront next bytes later → later ≡ rest
    only next later at = (only_reading bytes next (Asks r) later rest at ((request_reads bytes).takes r rest is)).1

-- or not behind the place where reading breaks
unread_off : (bytes left : List ℕ) (b : Broken) → request_at bytes ≡ Err b → (taken : List ℕ) → bytes ≡ taken ++ left → b.left ≤ length left → IsBrokenOff bytes left
unread_off bytes left b is taken are past = record { taken = taken; are = are; unended = unended; no_more = no_more }
  where
    k : Breaks IsRequest request_elements bytes b
    k = (request_reads bytes).breaks b is

    unread : (r : Request) (rest : List ℕ) → IsAtFront (Asks r) bytes rest → ⊥
    unread r rest at = ok_or_err {A = Request × List ℕ} (r, rest) b (sym ((request_reads bytes).again r rest at.0 at.1) ∙ is)

    refused : (rule : Rule) (rest : List ℕ) → IsRefused bytes rule rest → rest ≡ behind_line k.rest
    refused rule rest at =
        let stops : StopsAt bytes b.rule false b k.rest =
        record { rule_is = refl; read = k.read; unread = k.rest; split = k.split; left = k.left; rest_is = refl; unended = λ lacks none. subst IsPlain (sym none) tt; taken = k.read; are = k.split } in
        (only_reading bytes (Refused rule) (Refused b.rule) rest (behind_line k.rest) at (refusal bytes k.rest b.rule false b at.some is stops)).1

    no_more : (next : Next) (rest : List ℕ) → IsAtFront next bytes rest → length rest ≤ length left
    no_more (Asks r) rest at = absurd (unread r rest at)
    no_more (Refused rule) rest at = omega (arith, past, k.left, ap length (refused rule rest at), behind_within k.rest)
    no_more Over rest at = omega (arith, ap length at.1)
    no_more Failed rest at = absurd at
    no_more OutOfMemory rest at = absurd at

    unended : (next : Next) (later : List ℕ) → ((more : List ℕ) → IsAtFront next (taken ++ more) (later ++ more)) → ⊥
    unended (Asks r) later always = unread r (later ++ left) (subst (λ (x : List ℕ). IsAtFront (Asks r) x (later ++ left)) (sym are) (always left))
    unended (Refused rule) later always =
        let same : later ++ left ≡ behind_line k.rest = refused rule (later ++ left) (subst (λ (x : List ℕ). IsRefused x rule (later ++ left)) (sym are) (always left)) in
        let sizes : length later + length left ≡ length (behind_line k.rest) = sym (length-append later left) ∙ ap length same in
        let over : k.rest ≡ [] = none_before k.rest (omega (arith, sizes, past, k.left)) in
        let none : left ≡ [] = none_is left (omega (arith, sizes, behind_within k.rest, ap length over)) in
        all_taken bytes taken left b are none k (subst IsPlain (sym over) tt) rule later always
    unended Over later always =
        let none : later ++ 0 ∷ [] ≡ [] = (always (0 ∷ [])).1 in
        omega (arith, ap length none, length-append later (0 ∷ []))
    unended Failed later always = always []
    unended OutOfMemory later always = always []

pub broken_off : (bytes left : List ℕ) → BreaksOff bytes (request_at bytes) left → IsBrokenOff bytes left
broken_off bytes left off = by (request_at bytes) refl off.past
  where
    by : (read : Read Request) → request_at bytes ≡ read → EndsPast read (length left) → IsBrokenOff bytes left
    by (Ok x) is past = asked_off bytes left x.0 x.1 is off.taken off.are past
    by (Err b) is past = unread_off bytes left b is off.taken off.are past

-- or in the midst of passing over what is refused
pub refused_off : (bytes rest : List ℕ) (rule : Rule) (b : Broken) → (bytes ≡ [] → ⊥) → request_at bytes ≡ Err b → StopsAt bytes rule false b rest → IsBrokenOff bytes rest
refused_off bytes rest rule b some is s = record {
  taken = s.taken;
  are = s.are;
  unended = λ next later always.
      let there : (next ≡ Refused rule) × (later ++ rest ≡ behind_line rest) = only next (later ++ rest) (subst (λ (x : List ℕ). IsAtFront next x (later ++ rest)) (sym s.are) (always rest)) in
      let none : rest ≡ [] = none_before rest (omega (arith, ap length there.1, length-append later rest)) in
      all_taken bytes s.taken rest b s.are none k (subst IsPlain (sym unread_is) (s.unended refl none)) rule later
      (λ more. subst (λ (n : Next). IsAtFront n (s.taken ++ more) (later ++ more)) there.0 (always more));
  no_more = λ next later at. omega (arith, ap length (only next later at).1, behind_within rest);
}
  where
    k : Breaks IsRequest request_elements bytes b
    k = (request_reads bytes).breaks b is

    only : (next : Next) (later : List ℕ) → IsAtFront next bytes later → (next ≡ Refused rule) × (later ≡ behind_line rest)
    only next later at = only_reading bytes next (Refused rule) later (behind_line rest) at (refusal bytes rest rule false b some is s)

    unread_is : k.rest ≡ s.unread
    unread_is =
        let sizes : length k.read + length k.rest ≡ length s.read + length s.unread = sym (length-append k.read k.rest) ∙ ap length (sym k.split ∙ s.split) ∙ length-append s.read s.unread in
        let left : length k.rest ≡ length s.unread = k.left ∙ sym s.left in
        (same_front k.read s.read k.rest s.unread (sym k.split ∙ s.split) (omega arith)).1
