-- What stands at the front of bytes: a request, or what is refused. There is one reading of them.
use Rattle.std.proofs.Common.{◌≡◌, ℕ, suc, ◌+◌, ◌-◌, ◌<◌, ◌≤◌, Bool, cond, List, [], ◌∷◌, ◌++◌, length, take, drop, refl, sym, ap, subst, ◌∙◌, append_assoc, arith}
use Rattle.std.specs.Prelude.{Some, Ok, Err, slice_get}
use Rattle.std.proofs.lemmas.List.{append-nil, length-append, take_at, drop_at, take-append-drop}
use Rattle.tx_files.specs.declared.edit.Change.TheVariants.{Edit, Remove}
use Rattle.tx_io.specs.Inlet.{behind_line}
use Rattle.tx_script.specs.declared.command.Command.TheVariants.{Change as Lone, Batch, Save, Locate}
use Rattle.tx_script.specs.declared.error.Broken.{Broken}
use Rattle.tx_script.specs.declared.error.Rule.{Rule}
use Rattle.tx_script.proofs.Forms.{Breaks, one_value, ok_or_err}
use Rattle.tx_request.specs.declared.request.Next.TheVariants.{Asks, Refused, Over, Failed, OutOfMemory}
use Rattle.tx_request.specs.declared.request.Request.{Request}
use Rattle.tx_request.specs.declared.request.Request.TheVariants.{Command, File, Page, Log, LogOf}
use Rattle.tx_request.specs.Reading.{request_at}
use Rattle.tx_request.specs.Requests.{request_elements, rules, text, BeginsRequest, IsAtFront, IsFurthest, IsNextRule, IsOnlyReading, IsRefused, IsRequest}
use Rattle.tx_request.specs.Streaming.{StopsAt}
use Rattle.tx_request.proofs.Bodies.{request_reads}

-- the text of a request isn't empty
pub some_text : (r : Request) → 0 < length (text r)
some_text (Command (Lone (Edit e))) = omega arith
some_text (Command (Lone (Remove name))) = omega arith
some_text (Command (Batch changes)) = omega arith
some_text (Command (Save name)) = omega arith
some_text (Command (Locate at)) = omega arith
some_text (File f) = omega arith
some_text (Page k) = omega arith
some_text Log = omega arith
some_text (LogOf k) = omega arith

take_past : (a b : List ℕ) (n : ℕ) → take (length a + n) (a ++ b) ≡ a ++ take n b
take_past [] b n = let e : 0 + n ≡ n = omega arith in ap (λ (k : ℕ). take k b) e
take_past (x ∷ a) b n = let e : suc (length a) + n ≡ suc (length a + n) = omega arith in ap (λ (k : ℕ). take k (x ∷ a ++ b)) e ∙ ap (λ (y : List ℕ). x ∷ y) (take_past a b n)

-- a request was read
pub asked : (bytes rest : List ℕ) (r : Request) → request_at bytes ≡ Ok (r, rest) → IsAtFront (Asks r) bytes rest
asked bytes rest r e = (request_reads bytes).takes r rest e

-- where none is read, the bytes are refused
pub refusal : (bytes rest : List ℕ) (rule : Rule) (passed : Bool) (b : Broken) → (bytes ≡ [] → ⊥) → request_at bytes ≡ Err b → StopsAt bytes rule passed b rest
    → IsRefused bytes rule (cond passed rest (behind_line rest))
refusal bytes rest rule passed b some e s = record {
  some = some;
  none = λ r later fits h. unread r later fits h;
  place = length k.read;
  furthest = record {
    within = omega (arith, ap length k.split, length-append k.read k.rest);
    begins = (k.whose, k.more, k.fits, ap (λ (x : List ℕ). x ++ k.more) front_is ∙ sym k.begins);
    no_further = no_further;
  };
  next = subst (λ (x : Rule). IsNextRule (take (length k.read) bytes) x) s.rule_is next;
  rest_is = s.rest_is ∙ ap behind_line (sym unread_is);
}
  where
    k : Breaks IsRequest request_elements bytes b
    k = (request_reads bytes).breaks b e

    unread : (r : Request) (later : List ℕ) → IsRequest r → bytes ≡ text r ++ later → ⊥
    unread r later fits h = ok_or_err {A = Request × List ℕ} (r, later) b (sym ((request_reads bytes).again r later fits h) ∙ e)

    front_is : take (length k.read) bytes ≡ k.read
    front_is = ap (λ (x : List ℕ). take (length k.read) x) k.split ∙ take_at k.read k.rest (length k.read) refl

    -- both are what is left of the bytes there
    unread_is : drop (length k.read) bytes ≡ s.unread
    unread_is =
        let sizes : length k.read + length k.rest ≡ length s.read + length s.unread = sym (length-append k.read k.rest) ∙ ap length (sym k.split ∙ s.split) ∙ length-append s.read s.unread in
        let left : length k.rest ≡ length s.unread = k.left ∙ sym s.left in
        let same : length s.read ≡ length k.read = omega arith in
        ap (λ (x : List ℕ). drop (length k.read) x) s.split ∙ drop_at s.read s.unread (length k.read) same

    next : IsNextRule (take (length k.read) bytes) b.rule
    next r c more fits h =
        let goes : text r ≡ k.read ++ c ∷ more = sym h ∙ ap (λ (x : List ℕ). x ++ c ∷ more) front_is in
        ap (λ (x : List ℕ). slice_get (rules r) (length x)) front_is ∙ k.next r c more fits goes

    no_further : (longer : ℕ) → length k.read < longer → longer ≤ length bytes → BeginsRequest (take longer bytes) → ⊥
    no_further longer above within h = by k.rest refl
      where
        by : (x : List ℕ) → k.rest ≡ x → ⊥
        by [] is =
            let sizes : length bytes ≡ length k.read + length k.rest = ap length k.split ∙ length-append k.read k.rest in
            omega (arith, ap length is)
        by (c ∷ others) is =
            let place : longer ≡ length k.read + suc (longer - length k.read - 1) = omega arith in
            let long : take longer bytes ≡ k.read ++ c ∷ take (longer - length k.read - 1) others =
            (λ i. take (place i) ((k.split ∙ ap (λ (y : List ℕ). k.read ++ y) is) i)) ∙ take_past k.read (c ∷ others) (suc (longer - length k.read - 1)) in
            k.none h.0 c (take (longer - length k.read - 1) others ++ h.1) others h.2 is
            (sym h.3 ∙ ap (λ (x : List ℕ). x ++ h.1) long ∙ append_assoc k.read (c ∷ take (longer - length k.read - 1) others) h.1)

-- no more bytes than these begin a request, whichever way it is said
one_place : (bytes : List ℕ) (m n : ℕ) → IsFurthest bytes m → IsFurthest bytes n → m ≡ n
one_place bytes m n f g =
    let not_less = λ (h : m < n). f.no_further n h g.within g.begins in
    let not_more = λ (h : n < m). g.no_further m h f.within f.begins in
    omega arith

-- the rule of what lacks there is one
one_rule : (bytes : List ℕ) (m n : ℕ) (one other : Rule) → m ≡ n → ((r : Request) (later : List ℕ) → IsRequest r → bytes ≡ text r ++ later → ⊥)
    → BeginsRequest (take m bytes) → IsNextRule (take m bytes) one → IsNextRule (take n bytes) other → one ≡ other
one_rule bytes m n one other same none begun next next' = by begun.1 begun.3
  where
    some_is : (x y : Rule) → Some x ≡ Some y → x ≡ y
    some_is x y e = cc

    by : (more : List ℕ) → take m bytes ++ more ≡ text begun.0 → one ≡ other
    by [] h = absurd (none begun.0 (drop m bytes) begun.2 (sym (take-append-drop m bytes) ∙ ap (λ (x : List ℕ). x ++ drop m bytes) (sym (append-nil (take m bytes)) ∙ h)))
    by (c ∷ more) h =
        let here = next begun.0 c more begun.2 h in
        let there = next' begun.0 c more begun.2 (ap (λ (k : ℕ). take k bytes ++ c ∷ more) (sym same) ∙ h) in
        some_is one other (sym here ∙ ap (λ (k : ℕ). slice_get (rules begun.0) (length (take k bytes))) same ∙ there)

no_text : (r : Request) (rest : List ℕ) → [] ≡ text r ++ rest → ⊥
no_text r rest e = omega (arith, some_text r, ap length e, length-append (text r) rest)

pub only_reading : (bytes : List ℕ) → IsOnlyReading bytes
only_reading bytes (Asks r) (Asks q) rest later h k =
    let same = one_value IsRequest request_elements request_at request_reads r q rest later h.0 k.0 (sym h.1 ∙ k.1) in
    (ap (λ (x : Request). Asks x) same.0, same.1)
only_reading bytes (Asks r) (Refused rule) rest later h k = absurd (k.none r rest h.0 h.1)
only_reading bytes (Asks r) Over rest later h k = absurd (no_text r rest (sym k.0 ∙ h.1))
only_reading bytes (Asks r) Failed rest later h k = absurd k
only_reading bytes (Asks r) OutOfMemory rest later h k = absurd k
only_reading bytes (Refused rule) (Asks q) rest later h k = absurd (h.none q later k.0 k.1)
only_reading bytes (Refused rule) (Refused rule') rest later h k =
    let same = one_place bytes h.place k.place h.furthest k.furthest in (
      ap (λ (x : Rule). Refused x) (one_rule bytes h.place k.place rule rule' same h.none h.furthest.begins h.next k.next),
      h.rest_is ∙ ap (λ (n : ℕ). behind_line (drop n bytes)) same ∙ sym k.rest_is,
    )
only_reading bytes (Refused rule) Over rest later h k = absurd (h.some k.0)
only_reading bytes (Refused rule) Failed rest later h k = absurd k
only_reading bytes (Refused rule) OutOfMemory rest later h k = absurd k
only_reading bytes Over (Asks q) rest later h k = absurd (no_text q later (sym h.0 ∙ k.1))
only_reading bytes Over (Refused rule) rest later h k = absurd (k.some h.0)
only_reading bytes Over Over rest later h k = (refl, h.1 ∙ sym k.1)
only_reading bytes Over Failed rest later h k = absurd k
only_reading bytes Over OutOfMemory rest later h k = absurd k
only_reading bytes Failed other rest later h k = absurd h
only_reading bytes OutOfMemory other rest later h k = absurd h
