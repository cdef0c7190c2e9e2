-- What an inlet gives is read as its bytes are, piece by piece.
use Rattle.std.proofs.Common.{◌≡◌, ℕ, suc, ◌<◌, ◌≤◌, min, Bool, true, false, cond, eqb, List, [], ◌∷◌, ◌++◌, length, take, drop, refl, sym, ap, subst, ◌∙◌, append_assoc, arith, true≢false}
use Rattle.std.specs.Prelude.{nat_le, Option, Some, None, IfSome, IsErrAnd, IsSomeAnd, Result, Ok, Err}
use Rattle.std.proofs.lemmas.Bool.{eqb-false, leb-true, le-leb}
use Rattle.std.proofs.lemmas.List.{append-nil, drop_all, length-append, length-take, take-append-drop}
use Rattle.tx_io.specs.Inlet.{behind_line, line_of}
use Rattle.tx_script.specs.declared.error.Broken.{Broken}
use Rattle.tx_script.specs.declared.error.Fault.{Fault}
use Rattle.tx_script.specs.declared.error.Fault.TheVariants as faults
use Rattle.tx_script.specs.declared.error.Rule.{Rule}
use Rattle.tx_script.specs.declared.error.Rule.TheVariants.{Put, LineFeed}
use Rattle.tx_script.specs.Text.{bytes_of}
use Rattle.tx_script.specs.Reading.{Fails, Read, ◌>>=◌, literal_at, put_at, stopped}
use Rattle.tx_script.proofs.Forms.{Reads, done}
use Rattle.tx_request.specs.declared.stopped.Stopped.{Stopped}
use Rattle.tx_request.specs.declared.stopped.Stopped.TheVariants.{Refused, Failed, OutOfMemory}
use Rattle.tx_request.specs.Reading.{bytes_at}
use Rattle.tx_request.specs.Streaming.{is_whole, most_line, refused_in, BreaksOff, EndsPast, IsPlain, StopsAt, StreamsOf, Took}
use Rattle.tx_request.proofs.Cuts.{cut_err, cut_of, cut_ok}
use Rattle.tx_request.proofs.Lines.{behind_line-plain, IsLine}

-- in Some
pub mapped_some : {X : Type 0} {P Q : X → Type 0} (o : Option X) → ((x : X) → P x → Q x) → IsSomeAnd o P → IsSomeAnd o Q
mapped_some None f h = h
mapped_some (Some x) f h = f x h

-- bytes end with others
abbrev pub EndsWith : List ℕ → List ℕ → Type 0
EndsWith bytes rest = (front : List ℕ) × (bytes ≡ front ++ rest)

-- where reading ends in these, it ends in the bytes
pub stops_behind : (bytes rest : List ℕ) (rule : Rule) (passed : Bool) (b : Broken) (after : List ℕ) → EndsWith bytes rest → StopsAt rest rule passed b after → StopsAt bytes rule passed b after
stops_behind bytes rest rule passed b after ends s = record {
  rule_is = s.rule_is;
  read = ends.0 ++ s.read;
  unread = s.unread;
  split = ends.1 ∙ ap (λ (x : List ℕ). ends.0 ++ x) s.split ∙ sym (append_assoc ends.0 s.read s.unread);
  left = s.left;
  rest_is = s.rest_is;
  unended = s.unended;
  taken = ends.0 ++ s.taken;
  are = ends.1 ∙ ap (λ (x : List ℕ). ends.0 ++ x) s.are ∙ sym (append_assoc ends.0 s.taken after);
}

-- reading ends with no more left than so many bytes
abbrev pub EndsWithin : {X : Type 0} → Read X → ℕ → Type 0
EndsWithin (Ok x) n = length x.1 ≤ n
EndsWithin (Err b) n = b.left ≤ n

-- that is so of what is read by a form; and where no value of it is empty, reading one ends past the start
pub reads_within : {V : Type 0} (F : V → Type 0) (p : V → List (Rule × List ℕ)) (bytes : List ℕ) (r : Read V) → Reads F p bytes r → EndsWithin r (length bytes)
reads_within F p bytes (Ok x) reads = let t = reads.takes x.0 x.1 refl in omega (arith, ap length t.1, length-append (bytes_of (p x.0)) x.1)
reads_within F p bytes (Err b) reads = let k = reads.breaks b refl in omega (arith, k.left, ap length k.split, length-append k.read k.rest)

pub reads_past : {V : Type 0} (F : V → Type 0) (p : V → List (Rule × List ℕ)) (bytes : List ℕ) (r : Read V) → ((v : V) → 0 < length (bytes_of (p v))) → Reads F p bytes r → EndsPast r (length bytes)
reads_past F p bytes (Ok x) some reads = let t = reads.takes x.0 x.1 refl in omega (arith, some x.0, ap length t.1, length-append (bytes_of (p x.0)) x.1)
reads_past F p bytes (Err b) some reads = let k = reads.breaks b refl in omega (arith, k.left, ap length k.split, length-append k.read k.rest)

-- one reading, and what follows: that ends no earlier
past_then : {Y : Type 0} (r : Read Y) (m n : ℕ) → EndsWithin r m → m < n → EndsPast r n
past_then (Ok y) m n h k = omega (arith, h, k)
past_then (Err b) m n h k = omega (arith, h, k)

past_on : {X Y : Type 0} (r : Read X) (g : X × List ℕ → Read Y) (n : ℕ) → ((x : X) (rest : List ℕ) → EndsWithin (g (x, rest)) (length rest)) → EndsPast r n → EndsPast (r >>= g) n
past_on (Ok x) g n ends h = past_then (g x) (length x.1) n (ends x.0 x.1) h
past_on (Err b) g n ends h = h

within_then : {Y : Type 0} (r : Read Y) (m n : ℕ) → EndsWithin r m → m ≤ n → EndsWithin r n
within_then (Ok y) m n h k = omega (arith, h, k)
within_then (Err b) m n h k = omega (arith, h, k)

pub within_on : {X Y : Type 0} (r : Read X) (g : X × List ℕ → Read Y) (n : ℕ) → ((x : X) (rest : List ℕ) → EndsWithin (g (x, rest)) (length rest)) → EndsWithin r n → EndsWithin (r >>= g) n
within_on (Ok x) g n ends h = within_then (g x) (length x.1) n (ends x.0 x.1) h
within_on (Err b) g n ends h = h

pub off_on : {X Y : Type 0} (bytes : List ℕ) (r : Read X) (g : X × List ℕ → Read Y) (left : List ℕ) → ((x : X) (rest : List ℕ) → EndsWithin (g (x, rest)) (length rest)) → BreaksOff bytes r left → BreaksOff bytes (r >>= g) left
off_on bytes r g left ends off = record { taken = off.taken; are = off.are; past = past_on r g (length left) ends off.past }

-- the inlet failed behind bytes that were read
pub off_behind : {Y : Type 0} (bytes rest : List ℕ) (whole part : Read Y) (left : List ℕ) → EndsWith bytes rest → whole ≡ part → BreaksOff rest part left → BreaksOff bytes whole left
off_behind {Y} bytes rest whole part left ends same off = record {
  taken = ends.0 ++ off.taken;
  are = ends.1 ∙ ap (λ (x : List ℕ). ends.0 ++ x) off.are ∙ sym (append_assoc ends.0 off.taken left);
  past = subst (λ (r : Read Y). EndsPast r (length left)) (sym same) off.past;
}

-- one reading, and what follows by what it gave
pub on_err : {X Y : Type 0} (e : Stopped) (f : List ℕ → Read X) (g : X × List ℕ → Read Y) → ((x : X) (rest : List ℕ) → EndsWithin (g (x, rest)) (length rest)) → (before after : Option (List ℕ))
    → StreamsOf {X = X} (Err e) f before after → StreamsOf {X = Y} (Err e) (λ bytes. f bytes >>= g) before after
on_err e f g ends None after h = tt
on_err {X} {Y} (Refused rule passed) f g ends (Some bytes) after h = (h.0, ap (λ (r : Read X). r >>= g) h.1, h.2)
on_err Failed f g ends (Some bytes) after h = mapped_some after (λ left off. off_on bytes (f bytes) g left ends off) h
on_err OutOfMemory f g ends (Some bytes) after h = tt

pub on_refused : {X Y : Type 0} (whole : Bool) (fault : Fault) (f : List ℕ → Read X) (g : X × List ℕ → Read Y) (before after : Option (List ℕ))
    → StreamsOf {X = X} (Err (refused_in whole fault)) f before after → StreamsOf {X = Y} (Err (refused_in whole fault)) (λ bytes. f bytes >>= g) before after
on_refused whole fault f g None after h = tt
on_refused {X} {Y} whole (faults.Broken b) f g (Some bytes) after h = (h.0, ap (λ (r : Read X). r >>= g) h.1, h.2)
on_refused whole faults.OutOfMemory f g (Some bytes) after h = tt

pub on_ok : {X Y : Type 0} (x : X) (result : Result Y Stopped) (f : List ℕ → Read X) (g : X × List ℕ → Read Y) (before between after : Option (List ℕ))
    → ((bytes rest : List ℕ) → f bytes ≡ Ok (x, rest) → EndsWith bytes rest)
    → StreamsOf (Ok x) f before between → StreamsOf result (λ rest. g (x, rest)) between after → StreamsOf result (λ bytes. f bytes >>= g) before after
on_ok x result f g None between after ends h k = tt
on_ok x result f g (Some bytes) None after ends h k = absurd h
on_ok {X} {Y} x (Ok y) f g (Some bytes) (Some rest) after ends h k = mapped_some after (λ last e. ap (λ (r : Read X). r >>= g) h ∙ e) k
on_ok {X} {Y} x (Err (Refused rule passed)) f g (Some bytes) (Some rest) after ends h k =
    (k.0, ap (λ (r : Read X). r >>= g) h ∙ k.1, mapped_some after (λ last s. stops_behind bytes rest rule passed k.0 last (ends bytes rest h) s) k.2)
on_ok {X} {Y} x (Err Failed) f g (Some bytes) (Some rest) after ends h k =
    mapped_some after (λ left off. off_behind bytes rest (f bytes >>= g) (g (x, rest)) left (ends bytes rest h) (ap (λ (r : Read X). r >>= g) h) off) k
on_ok x (Err OutOfMemory) f g (Some bytes) (Some rest) after ends h k = tt

-- what is read ends the bytes
pub ends_with : {V : Type 0} (F : V → Type 0) (p : V → List (Rule × List ℕ)) (r : List ℕ → Read V) → ((bytes : List ℕ) → Reads F p bytes (r bytes))
    → (v : V) (bytes rest : List ℕ) → r bytes ≡ Ok (v, rest) → EndsWith bytes rest
ends_with F p r reads v bytes rest e = (bytes_of (p v), ((reads bytes).takes v rest e).1)

-- a value made of one that was read
pub made : {X Y : Type 0} (x : X) (f : List ℕ → Read X) (make : X → Y) (before after : Option (List ℕ)) → StreamsOf (Ok x) f before after → StreamsOf (Ok (make x)) (λ bytes. f bytes >>= λ y. Ok (make y.0, y.1)) before after
made x f make None after h = tt
made {X} {Y} x f make (Some bytes) after h = mapped_some after (λ rest e. ap (λ (r : Read X). r >>= λ y. Ok (make y.0, y.1)) e) h

-- a value that needs no bytes
pub at_once : {Y : Type 0} (y : Y) (left : Option (List ℕ)) → StreamsOf (Ok y) (λ bytes. Ok (y, bytes)) left left
at_once y None = tt
at_once y (Some bytes) = refl

-- nothing was taken, for no fault of the bytes
pub untaken : {X : Type 0} (e : Stopped) (front : List ℕ → List ℕ) (f : List ℕ → Read X) → ((bytes : List ℕ) → EndsPast (f bytes) (length bytes)) → (before after : Option (List ℕ))
    → Took (Err e) front before after → StreamsOf {X = X} (Err e) f before after
untaken e front f past None after h = tt
untaken (Refused rule passed) front f past (Some bytes) after h = absurd h
untaken Failed front f past (Some bytes) after h = subst (λ (o : Option (List ℕ)). IsSomeAnd o (BreaksOff bytes (f bytes))) (sym h) (record { taken = []; are = refl; past = past bytes })
untaken OutOfMemory front f past (Some bytes) after h = tt

-- an error that is passed on
pub err_as : {X : Type 0} (r : Result X Stopped) (e : Stopped) (f : List ℕ → Read X) (before after : Option (List ℕ)) → IsErrAnd r (λ x. x ≡ e) → StreamsOf {X = X} (Err e) f before after → StreamsOf r f before after
err_as (Ok x) e f before after same h = absurd same
err_as {X} (Err d) e f before after same h = subst (λ (z : Stopped). StreamsOf {X = X} (Err z) f before after) (sym same) h

-- a line was taken
module _ {V : Type 0} (F : V → Type 0) (p : V → List (Rule × List ℕ)) (r : List ℕ → Read V) (reads : (bytes : List ℕ) → Reads F p bytes (r bytes))
    (lines : (v : V) → F v → IsLine most_line (bytes_of (p v))) where
  pub line_ok : (line : List ℕ) (before after : Option (List ℕ)) → Took (Ok line) (λ bytes. take most_line (line_of bytes)) before after
      → (v : V) (rest : List ℕ) → r line ≡ Ok (v, rest) → StreamsOf (Ok v) r before after
  line_ok line None after h v rest e = tt
  line_ok line (Some bytes) after h v rest e =
      subst (λ (o : Option (List ℕ)). IsSomeAnd o (λ last. r bytes ≡ Ok (v, last))) (sym h.1) (cut_ok F p r reads lines line bytes (drop (length line) bytes) (cut_of line bytes h.0) v rest e)

  pub line_err : (line : List ℕ) (before after : Option (List ℕ)) → Took (Ok line) (λ bytes. take most_line (line_of bytes)) before after
      → (fault : Fault) → Fails fault (r line) → StreamsOf {X = V} (Err (refused_in (is_whole line) fault)) r before after
  line_err line None after h fault e = tt
  line_err line (Some bytes) after h (faults.Broken b) e =
      let k = cut_err F p r reads lines line bytes (drop (length line) bytes) (cut_of line bytes h.0) b e in
      (k.there, k.broken, subst (λ (o : Option (List ℕ)). IsSomeAnd o (StopsAt bytes b.rule (is_whole line) k.there)) (sym h.1) k.stops)
  line_err line (Some bytes) after h faults.OutOfMemory e = tt

-- so many bytes, and the LF behind them
put_is : (size : ℕ) (bytes put : List ℕ) → put ≡ take size bytes → size ≤ length put → put_at size bytes ≡ Ok (put, drop (length put) bytes)
unfolding put_at
put_is size bytes put e long =
    let sizes : length put ≡ min size (length bytes) = ap length e ∙ length-take size bytes in
    let all : length put ≡ size = omega arith in
    let enough : nat_le size (length bytes) ≡ true = le-leb size (length bytes) (omega arith) in
    (λ i. cond (enough i) (Ok (take size bytes, drop size bytes)) (stopped Put [])) ∙ (λ i. Ok (sym e i, drop (sym all i) bytes))

put_short : (size : ℕ) (bytes put : List ℕ) → put ≡ take size bytes → length put < size → (put_at size bytes ≡ stopped Put []) × (drop (length put) bytes ≡ [])
unfolding put_at
put_short size bytes put e short =
    let sizes : length put ≡ min size (length bytes) = ap length e ∙ length-take size bytes in
    let few : nat_le size (length bytes) ≡ false = too_few size (length bytes) (omega arith) in
    ((λ i. cond (few i) (Ok (take size bytes, drop size bytes)) (stopped Put [])), drop_all (length put) bytes (omega arith))
  where
    too_few : (m n : ℕ) → n < m → nat_le m n ≡ false
    too_few m n h = by (nat_le m n) refl
      where
        by : (b : Bool) → nat_le m n ≡ b → b ≡ false
        by true e = let k = leb-true m n e in absurd (omega arith)
        by false e = refl

lf_is : (rest last : List ℕ) → last ≡ take 1 rest → is_whole last ≡ true → literal_at LineFeed (10 ∷ []) rest ≡ Ok (drop (length last) rest)
lf_is [] last e whole = absurd (true≢false (sym whole ∙ ap is_whole e))
lf_is (c ∷ rest) last e whole =
    let same : eqb c 10 ≡ true = ap is_whole (sym e) ∙ whole in
    (λ i. cond (same i) (Ok rest) (stopped LineFeed (c ∷ rest))) ∙ (λ i. Ok (drop (length (sym e i)) (c ∷ rest)))

lf_lacks : (rest last : List ℕ) → last ≡ take 1 rest → is_whole last ≡ false → (literal_at LineFeed (10 ∷ []) rest ≡ stopped LineFeed rest) × (behind_line (drop (length last) rest) ≡ behind_line rest)
lf_lacks [] last e not = (refl, λ i. behind_line (drop (length (e i)) []))
lf_lacks (c ∷ rest) last e not =
    let other : eqb c 10 ≡ false = ap is_whole (sym e) ∙ not in (
      λ i. cond (other i) (Ok rest) (stopped LineFeed (c ∷ rest)),
      (λ i. behind_line (drop (length (e i)) (c ∷ rest))) ∙ sym (behind_line-plain (c ∷ []) rest (eqb-false c 10 other, tt)),
    )

one_plain : (rest last : List ℕ) → last ≡ take 1 rest → is_whole last ≡ false → drop (length last) rest ≡ [] → IsPlain rest
one_plain [] last e not none = tt
one_plain (c ∷ rest) last e not none =
    let other : eqb c 10 ≡ false = ap is_whole (sym e) ∙ not in
    let over : rest ≡ [] = (λ i. drop (length (sym e i)) (c ∷ rest)) ∙ none in
    (eqb-false c 10 other, subst IsPlain (sym over) tt)

-- what was taken next
taken_next : (between after : Option (List ℕ)) (rest last : List ℕ) → between ≡ Some rest → Took (Ok last) (λ bytes. take 1 bytes) between after → (last ≡ take 1 rest) × (after ≡ Some (drop (length last) rest))
taken_next between after rest last is h = subst (λ (o : Option (List ℕ)). IfSome o (λ left. (last ≡ take 1 left) × (after ≡ Some (drop (length last) left)))) is h

pub bytes_few : (size : ℕ) (put : List ℕ) (before after : Option (List ℕ)) → Took (Ok put) (λ bytes. take size bytes) before after → length put < size → StreamsOf {X = List ℕ} (Err (Refused Put false)) (bytes_at size) before after
unfolding bytes_at
bytes_few size put None after h short = tt
bytes_few size put (Some bytes) after h short =
    let k = put_short size bytes put h.0 short in (
      record { left = 0; rule = Put },
      ap (λ (r : Read (List ℕ)). r >>= λ put. literal_at LineFeed (10 ∷ []) put.1 >>= λ rest. Ok (put.0, rest)) k.0,
      subst (λ (o : Option (List ℕ)). IsSomeAnd o (StopsAt bytes Put false (record { left = 0; rule = Put }))) (sym h.1)
          (record {
            rule_is = refl;
            read = bytes;
            unread = [];
            split = sym (append-nil bytes);
            left = refl;
            rest_is = ap behind_line k.1;
            unended = λ lacks none. tt;
            taken = take (length put) bytes;
            are = sym (take-append-drop (length put) bytes);
          }),
    )

-- the LF isn't read before it is taken
past_lf : (put rest : List ℕ) → EndsPast (literal_at LineFeed (10 ∷ []) rest >>= λ rest. done {A = List ℕ × List ℕ} (put, rest)) (length rest)
past_lf put [] = omega arith
past_lf put (c ∷ rest) = by (eqb c 10)
  where
    by : (b : Bool) → EndsPast (cond b (Ok rest) (stopped LineFeed (c ∷ rest)) >>= λ rest. done {A = List ℕ × List ℕ} (put, rest)) (suc (length rest))
    by true = omega arith
    by false = omega arith

pub bytes_cut : (size : ℕ) (put : List ℕ) (before between after : Option (List ℕ)) → size ≤ length put → Took (Ok put) (λ bytes. take size bytes) before between → (e : Stopped) → Took (Err e) (λ bytes. take 1 bytes) between after
    → StreamsOf {X = List ℕ} (Err e) (bytes_at size) before after
unfolding bytes_at
bytes_cut size put None between after long h e k = tt
bytes_cut size put (Some bytes) between after long h (Refused rule passed) k = absurd k
bytes_cut size put (Some bytes) between after long h Failed k =
    let rest : List ℕ = drop (length put) bytes in
    subst (λ (o : Option (List ℕ)). IsSomeAnd o (BreaksOff bytes (bytes_at size bytes))) (sym (k ∙ h.1))
    (record {
      taken = take (length put) bytes;
      are = sym (take-append-drop (length put) bytes);
      past = subst (λ (r : Read (List ℕ)). EndsPast r (length rest))
          (sym (ap (λ (r : Read (List ℕ)). r >>= λ put. literal_at LineFeed (10 ∷ []) put.1 >>= λ rest. Ok (put.0, rest)) (put_is size bytes put h.0 long))) (past_lf put rest);
    })
bytes_cut size put (Some bytes) between after long h OutOfMemory k = tt

module _ (size : ℕ) (put last : List ℕ) (between after : Option (List ℕ)) (long : size ≤ length put) where
  pub bytes_unended : (before : Option (List ℕ)) → Took (Ok put) (λ bytes. take size bytes) before between → Took (Ok last) (λ bytes. take 1 bytes) between after → is_whole last ≡ false
      → StreamsOf {X = List ℕ} (Err (Refused LineFeed false)) (bytes_at size) before after
  unfolding bytes_at
  bytes_unended None h k not = tt
  bytes_unended (Some bytes) h k not =
      let n = taken_next between after (drop (length put) bytes) last h.1 k in
      let lacks = lf_lacks (drop (length put) bytes) last n.0 not in (
        record { left = length (drop (length put) bytes); rule = LineFeed },
        ap (λ (r : Read (List ℕ)). r >>= λ put. literal_at LineFeed (10 ∷ []) put.1 >>= λ rest. Ok (put.0, rest)) (put_is size bytes put h.0 long)
            ∙ ap (λ (r : Result (List ℕ) Broken). r >>= λ rest. done {A = List ℕ × List ℕ} (put, rest)) lacks.0,
        subst (λ (o : Option (List ℕ)). IsSomeAnd o (StopsAt bytes LineFeed false (record { left = length (drop (length put) bytes); rule = LineFeed }))) (sym n.1)
            (record {
              rule_is = refl;
              read = take (length put) bytes;
              unread = drop (length put) bytes;
              split = sym (take-append-drop (length put) bytes);
              left = refl;
              rest_is = lacks.1;
              unended = λ refused none. one_plain (drop (length put) bytes) last n.0 not none;
              taken = take (length put) bytes ++ take (length last) (drop (length put) bytes);
              are = sym (take-append-drop (length put) bytes) ∙ ap (λ (x : List ℕ). take (length put) bytes ++ x) (sym (take-append-drop (length last) (drop (length put) bytes)))
                  ∙ sym (append_assoc (take (length put) bytes) (take (length last) (drop (length put) bytes)) (drop (length last) (drop (length put) bytes)));
            }),
      )

  pub bytes_ended : (before : Option (List ℕ)) → Took (Ok put) (λ bytes. take size bytes) before between → Took (Ok last) (λ bytes. take 1 bytes) between after → is_whole last ≡ true
      → StreamsOf (Ok put) (bytes_at size) before after
  unfolding bytes_at
  bytes_ended None h k whole = tt
  bytes_ended (Some bytes) h k whole =
      let n = taken_next between after (drop (length put) bytes) last h.1 k in
      subst (λ (o : Option (List ℕ)). IsSomeAnd o (λ rest. bytes_at size bytes ≡ Ok (put, rest))) (sym n.1)
      (ap (λ (r : Read (List ℕ)). r >>= λ put. literal_at LineFeed (10 ∷ []) put.1 >>= λ rest. Ok (put.0, rest)) (put_is size bytes put h.0 long)
      ∙ ap (λ (r : Result (List ℕ) Broken). r >>= λ rest. done {A = List ℕ × List ℕ} (put, rest)) (lf_is (drop (length put) bytes) last n.0 whole))
