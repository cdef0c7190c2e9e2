-- Each piece of a request, read of an inlet.
use Rattle.std.proofs.Common.{◌≡◌, ℕ, zero, suc, ◌<◌, Bool, cond, List, [], ◌∷◌, length, take, drop, refl, sym, ap, subst, ◌∙◌, arith}
use Rattle.std.specs.Prelude.{Option, Some, None, IsErrAnd, IsSomeAnd, Result, Ok, Err}
use Rattle.std.proofs.lemmas.List.{length-append, length-take}
use Rattle.tx_files.specs.declared.edit.Edit.{Edit as FileEdit}
use Rattle.tx_files.specs.declared.edit.Change.{Change}
use Rattle.tx_files.specs.declared.edit.Change.TheVariants.{Edit, Remove}
use Rattle.tx_io.specs.Inlet.{behind_line, line_len, line_of}
use Rattle.tx_script.specs.declared.command.Command.TheVariants.{Change as Lone, Batch, Save, Locate}
use Rattle.tx_script.specs.declared.command.FilePlace.{FilePlace}
use Rattle.tx_script.specs.declared.error.Fault.{Fault}
use Rattle.tx_script.specs.declared.error.Rule.{Rule}
use Rattle.tx_script.specs.Text.{bytes_of, change_elements}
use Rattle.tx_script.specs.Reading.{Fails}
use Rattle.tx_script.proofs.Changes.{edit_of}
use Rattle.tx_request.specs.declared.head.EditLine.{EditLine}
use Rattle.tx_request.specs.declared.head.ChangeLine.{ChangeLine}
use Rattle.tx_request.specs.declared.head.ChangeLine.TheVariants as lines
use Rattle.tx_request.specs.declared.head.Head.{Head}
use Rattle.tx_request.specs.declared.head.Head.TheVariants as heads
use Rattle.tx_request.specs.declared.request.FileContents.{FileContents}
use Rattle.tx_request.specs.declared.request.Next.{Next}
use Rattle.tx_request.specs.declared.request.Next.TheVariants as nexts
use Rattle.tx_request.specs.declared.request.Request.{Request}
use Rattle.tx_request.specs.declared.request.Request.TheVariants.{Command, File, Page, Log, LogOf}
use Rattle.tx_request.specs.declared.stopped.Stopped.{Stopped}
use Rattle.tx_request.specs.declared.stopped.Stopped.TheVariants.{Refused, Failed, OutOfMemory}
use Rattle.tx_request.specs.Reading.{bytes_at, change_at, change_behind, change_line_at, changes_at, edit_behind, head_at, request_at, request_behind}
use Rattle.tx_request.specs.Requests.{request_elements, IsAtFront, IsBrokenOff, IsNext, IsRefused, IsRequest}
use Rattle.tx_request.specs.Streaming.{is_whole, most_line, refused_in, AsksOf, EndsPast, Refuses, StopsAt, StreamsOf, Took}
use Rattle.tx_request.proofs.Bodies.{bytes_reads, change_reads, put_elements, request_reads, IsShortChange}
use Rattle.tx_request.proofs.BrokenOff.{broken_off, refused_off}
use Rattle.tx_request.proofs.Fronts.{asked, refusal, some_text}
use Rattle.tx_request.proofs.Heads.{change_line_elements, change_line_reads, head_elements, head_reads, IsChangeLine, IsHead}
use Rattle.tx_request.proofs.Lines.{change_line_is, head_is, some_line_len}
use Rattle.tx_request.proofs.Streams.{at_once, ends_with, line_err, line_ok, made, mapped_some, on_err, on_ok, on_refused, reads_past, untaken}

-- an edit
abbrev pub edit_for : EditLine → List ℕ → FileEdit
edit_for l put = edit_of l.place l.removed l.name put

pub edit_fails : (line : EditLine) (e : Stopped) (before after : Option (List ℕ)) → StreamsOf {X = List ℕ} (Err e) (bytes_at line.size) before after → StreamsOf {X = FileEdit} (Err e) (edit_behind line) before after
unfolding edit_behind
edit_fails line e before after h = on_err {X = List ℕ} {Y = FileEdit} e (bytes_at line.size) (λ (put : List ℕ × List ℕ). Ok (edit_for line put.0, put.1)) (λ put rest. omega arith) before after h

pub edit_made : (line : EditLine) (put : List ℕ) (before after : Option (List ℕ)) → StreamsOf (Ok put) (bytes_at line.size) before after → StreamsOf (Ok (edit_for line put)) (edit_behind line) before after
unfolding edit_behind
edit_made line put before after h = made put (bytes_at line.size) (edit_for line) before after h

-- a change, of which the line is known
pub change_fails : (l : ChangeLine) (line : EditLine) → l ≡ lines.Edit line → (e : Stopped) (before after : Option (List ℕ)) → StreamsOf {X = FileEdit} (Err e) (edit_behind line) before after → StreamsOf {X = Change} (Err e) (change_behind l) before after
unfolding change_behind
change_fails l line is e before after h =
    subst (λ (x : ChangeLine). StreamsOf {X = Change} (Err e) (change_behind x) before after) (sym is)
    (on_err {X = FileEdit} {Y = Change} e (edit_behind line) (λ (x : FileEdit × List ℕ). Ok (Edit x.0, x.1)) (λ x rest. omega arith) before after h)

pub change_edits : (l : ChangeLine) (line : EditLine) → l ≡ lines.Edit line → (e : FileEdit) (before after : Option (List ℕ)) → StreamsOf (Ok e) (edit_behind line) before after → StreamsOf (Ok (Edit e)) (change_behind l) before after
unfolding change_behind
change_edits l line is e before after h =
    subst (λ (x : ChangeLine). StreamsOf (Ok (Edit e)) (change_behind x) before after) (sym is) (made e (edit_behind line) (λ (x : FileEdit). Edit x) before after h)

pub change_removes : (l : ChangeLine) (name : List ℕ) → l ≡ lines.Remove name → (left : Option (List ℕ)) → StreamsOf (Ok (Remove name)) (change_behind l) left left
unfolding change_behind
change_removes l name is left = subst (λ (x : ChangeLine). StreamsOf (Ok (Remove name)) (change_behind x) left left) (sym is) (at_once (Remove name) left)

-- a change of a batch, of which the line was taken
pub next_is : (line slice : List ℕ) → slice ≡ line → (found : ChangeLine) (rest : List ℕ) → change_line_at slice ≡ Ok (found, rest) → (before between after : Option (List ℕ))
    → Took (Ok line) (λ bytes. take most_line (line_of bytes)) before between → (result : Result Change Stopped) → StreamsOf result (change_behind found) between after → StreamsOf result change_at before after
unfolding change_at
next_is line slice same found rest e before between after took result h =
    on_ok found result change_line_at (λ (l : ChangeLine × List ℕ). change_behind l.0 l.1) before between after
    (ends_with IsChangeLine change_line_elements change_line_at change_line_reads found)
    (line_ok IsChangeLine change_line_elements change_line_at change_line_reads change_line_is line before between took found rest (ap change_line_at (sym same) ∙ e))
    h

pub next_fails : (line slice again : List ℕ) → slice ≡ line → again ≡ line → (fault : Fault) → Fails fault (change_line_at slice) → (e : Stopped) → e ≡ refused_in (is_whole again) fault → (before after : Option (List ℕ))
    → Took (Ok line) (λ bytes. take most_line (line_of bytes)) before after → StreamsOf {X = Change} (Err e) change_at before after
unfolding change_at
next_fails line slice again same same' fault fails e is before after took =
    subst (λ (x : Stopped). StreamsOf {X = Change} (Err x) change_at before after) (sym (is ∙ ap (λ (x : List ℕ). refused_in (is_whole x) fault) same'))
    (on_refused {X = ChangeLine} {Y = Change} (is_whole line) fault change_line_at (λ (l : ChangeLine × List ℕ). change_behind l.0 l.1) before after
    (line_err IsChangeLine change_line_elements change_line_at change_line_reads change_line_is line before after took fault (subst (λ (x : List ℕ). Fails fault (change_line_at x)) same fails)))

-- a request, behind its line
pub request_changes : (h : Head) (l : ChangeLine) → h ≡ heads.Change l → (c : Change) (before after : Option (List ℕ)) → StreamsOf (Ok c) (change_behind l) before after → StreamsOf (Ok (Command (Lone c))) (request_behind h) before after
unfolding request_behind
request_changes h l is c before after k =
    subst (λ (x : Head). StreamsOf (Ok (Command (Lone c))) (request_behind x) before after) (sym is) (made c (change_behind l) (λ (x : Change). Command (Lone x)) before after k)

pub request_changes_not : (h : Head) (l : ChangeLine) → h ≡ heads.Change l → (e : Stopped) (before after : Option (List ℕ)) → StreamsOf {X = Change} (Err e) (change_behind l) before after → StreamsOf {X = Request} (Err e) (request_behind h) before after
unfolding request_behind
request_changes_not h l is e before after k =
    subst (λ (x : Head). StreamsOf {X = Request} (Err e) (request_behind x) before after) (sym is)
    (on_err {X = Change} {Y = Request} e (change_behind l) (λ (x : Change × List ℕ). Ok (Command (Lone x.0), x.1)) (λ x rest. omega arith) before after k)

pub request_batches : (h : Head) (n : ℕ) → h ≡ heads.Batch n → (changes : List Change) (before after : Option (List ℕ)) → StreamsOf (Ok changes) (changes_at n) before after → StreamsOf (Ok (Command (Batch changes))) (request_behind h) before after
unfolding request_behind
request_batches h n is changes before after k =
    subst (λ (x : Head). StreamsOf (Ok (Command (Batch changes))) (request_behind x) before after) (sym is) (made changes (changes_at n) (λ (x : List Change). Command (Batch x)) before after k)

pub request_batches_not : (h : Head) (n : ℕ) → h ≡ heads.Batch n → (e : Stopped) (before after : Option (List ℕ)) → StreamsOf {X = List Change} (Err e) (changes_at n) before after → StreamsOf {X = Request} (Err e) (request_behind h) before after
unfolding request_behind
request_batches_not h n is e before after k =
    subst (λ (x : Head). StreamsOf {X = Request} (Err e) (request_behind x) before after) (sym is)
    (on_err {X = List Change} {Y = Request} e (changes_at n) (λ (x : List Change × List ℕ). Ok (Command (Batch x.0), x.1)) (λ x rest. omega arith) before after k)

abbrev pub file_for : List ℕ → List ℕ → FileContents
file_for name contents = record { name = name; contents = contents }

pub request_fills : (h : Head) (size : ℕ) (name : List ℕ) → h ≡ heads.File size name → (contents : List ℕ) (before after : Option (List ℕ)) → StreamsOf (Ok contents) (bytes_at size) before after → StreamsOf (Ok (File (file_for name contents))) (request_behind h) before after
unfolding request_behind
request_fills h size name is contents before after k =
    subst (λ (x : Head). StreamsOf (Ok (File (file_for name contents))) (request_behind x) before after) (sym is) (made contents (bytes_at size) (λ (x : List ℕ). File (file_for name x)) before after k)

pub request_fills_not : (h : Head) (size : ℕ) (name : List ℕ) → h ≡ heads.File size name → (e : Stopped) (before after : Option (List ℕ)) → StreamsOf {X = List ℕ} (Err e) (bytes_at size) before after → StreamsOf {X = Request} (Err e) (request_behind h) before after
unfolding request_behind
request_fills_not h size name is e before after k =
    subst (λ (x : Head). StreamsOf {X = Request} (Err e) (request_behind x) before after) (sym is)
    (on_err {X = List ℕ} {Y = Request} e (bytes_at size) (λ (x : List ℕ × List ℕ). Ok (File (file_for name x.0), x.1)) (λ x rest. omega arith) before after k)

-- one that ends with its line
pub request_ends : (h : Head) (r : Request) → ((bytes : List ℕ) → request_behind h bytes ≡ Ok (r, bytes)) → (left : Option (List ℕ)) → StreamsOf (Ok r) (request_behind h) left left
request_ends h r is None = tt
request_ends h r is (Some bytes) = is bytes

pub saves : (h : Head) (name : List ℕ) → h ≡ heads.Save name → (bytes : List ℕ) → request_behind h bytes ≡ Ok (Command (Save name), bytes)
unfolding request_behind
saves h name is bytes = ap (λ (x : Head). request_behind x bytes) is

pub locates : (h : Head) (at : FilePlace) → h ≡ heads.Locate at → (bytes : List ℕ) → request_behind h bytes ≡ Ok (Command (Locate at), bytes)
unfolding request_behind
locates h at is bytes = ap (λ (x : Head). request_behind x bytes) is

pub pages : (h : Head) (k : ℕ) → h ≡ heads.Page k → (bytes : List ℕ) → request_behind h bytes ≡ Ok (Page k, bytes)
unfolding request_behind
pages h k is bytes = ap (λ (x : Head). request_behind x bytes) is

pub logs : (h : Head) → h ≡ heads.Log → (bytes : List ℕ) → request_behind h bytes ≡ Ok (Log, bytes)
unfolding request_behind
logs h is bytes = ap (λ (x : Head). request_behind x bytes) is

pub logs_of : (h : Head) (k : ℕ) → h ≡ heads.LogOf k → (bytes : List ℕ) → request_behind h bytes ≡ Ok (LogOf k, bytes)
unfolding request_behind
logs_of h k is bytes = ap (λ (x : Head). request_behind x bytes) is

-- a request, of which the line was taken
pub request_is : (line slice : List ℕ) → slice ≡ line → (head : Head) (rest : List ℕ) → head_at slice ≡ Ok (head, rest) → (before between after : Option (List ℕ))
    → Took (Ok line) (λ bytes. take most_line (line_of bytes)) before between → (result : Result Request Stopped) → StreamsOf result (request_behind head) between after → StreamsOf result request_at before after
unfolding request_at
request_is line slice same head rest e before between after took result h =
    on_ok head result head_at (λ (l : Head × List ℕ). request_behind l.0 l.1) before between after
    (ends_with IsHead head_elements head_at head_reads head)
    (line_ok IsHead head_elements head_at head_reads head_is line before between took head rest (ap head_at (sym same) ∙ e))
    h

-- nothing was taken: nothing more comes
none_came : (line bytes : List ℕ) → line ≡ take most_line (line_of bytes) → line ≡ [] → bytes ≡ []
none_came line [] e none = refl
none_came line (c ∷ bytes) e none =
    let some = some_line_len c bytes in
    let long = ap length (sym none ∙ e) ∙ length-take most_line (line_of (c ∷ bytes)) in
    let sized = length-take (line_len (c ∷ bytes)) (c ∷ bytes) in
    absurd (omega arith)

none_left : (n : ℕ) → drop {A = ℕ} n [] ≡ []
none_left zero = refl
none_left (suc n) = refl

pub nothing_comes : (line : List ℕ) (before after : Option (List ℕ)) → Took (Ok line) (λ bytes. take most_line (line_of bytes)) before after → line ≡ [] → AsksOf (Ok None) before after
nothing_comes line None after took none = tt
nothing_comes line (Some bytes) after took none =
    let is : bytes ≡ [] = none_came line bytes took.0 none in
    (is, took.1 ∙ ap (λ (x : List ℕ). Some (drop (length line) x)) is ∙ ap (λ (x : List ℕ). Some x) (none_left (length line)))

-- something was taken
some_came : (line bytes : List ℕ) → line ≡ take most_line (line_of bytes) → (line ≡ [] → ⊥) → bytes ≡ [] → ⊥
some_came line bytes e some is = some (e ∙ ap (λ (x : List ℕ). take most_line (line_of x)) is)

pub asks_not : (line : List ℕ) (before between after : Option (List ℕ)) → Took (Ok line) (λ bytes. take most_line (line_of bytes)) before between → (line ≡ [] → ⊥)
    → (e : Stopped) → StreamsOf {X = Request} (Err e) request_at before after → AsksOf (Err e) before after
asks_not line None between after took some e h = tt
asks_not line (Some bytes) between after took some (Refused rule passed) h = (λ is. some_came line bytes took.0 some is, h)
asks_not line (Some bytes) between after took some Failed h = h
asks_not line (Some bytes) between after took some OutOfMemory h = tt

pub asks_as : (r : Result (Option Request) Stopped) (e : Stopped) (before after : Option (List ℕ)) → IsErrAnd r (λ x. x ≡ e) → AsksOf (Err e) before after → AsksOf r before after
asks_as (Ok x) e before after same h = absurd same
asks_as (Err d) e before after same h = subst (λ (z : Stopped). AsksOf (Err z) before after) (sym same) h

pub request_fails : (line slice again : List ℕ) → slice ≡ line → again ≡ line → (fault : Fault) → Fails fault (head_at slice) → (e : Stopped) → e ≡ refused_in (is_whole again) fault → (before after : Option (List ℕ))
    → Took (Ok line) (λ bytes. take most_line (line_of bytes)) before after → StreamsOf {X = Request} (Err e) request_at before after
unfolding request_at
request_fails line slice again same same' fault fails e is before after took =
    subst (λ (x : Stopped). StreamsOf {X = Request} (Err x) request_at before after) (sym (is ∙ ap (λ (x : List ℕ). refused_in (is_whole x) fault) same'))
    (on_refused {X = Head} {Y = Request} (is_whole line) fault head_at (λ (l : Head × List ℕ). request_behind l.0 l.1) before after
    (line_err IsHead head_elements head_at head_reads head_is line before after took fault (subst (λ (x : List ℕ). Fails fault (head_at x)) same fails)))

-- nothing was taken, for no fault of the bytes
request_past : (bytes : List ℕ) → EndsPast (request_at bytes) (length bytes)
request_past bytes = reads_past IsRequest request_elements bytes (request_at bytes) some_text (request_reads bytes)

some_change_text : (c : Change) → 0 < length (bytes_of (change_elements c))
some_change_text (Edit e) = omega arith
some_change_text (Remove name) = omega arith

pub change_untaken : (e : Stopped) (front : List ℕ → List ℕ) (before after : Option (List ℕ)) → Took (Err e) front before after → StreamsOf {X = Change} (Err e) change_at before after
change_untaken e front before after took = untaken e front change_at (λ bytes. reads_past IsShortChange change_elements bytes (change_at bytes) some_change_text (change_reads bytes)) before after took

some_put : (put : List ℕ) → 0 < length (bytes_of (put_elements put))
some_put put = omega (arith, length-append put (10 ∷ []))

pub bytes_untaken : (size : ℕ) (e : Stopped) (front : List ℕ → List ℕ) (before after : Option (List ℕ)) → Took (Err e) front before after → StreamsOf {X = List ℕ} (Err e) (bytes_at size) before after
bytes_untaken size e front before after took = untaken e front (bytes_at size) (λ bytes. reads_past (λ (put : List ℕ). length put ≡ size) put_elements bytes (bytes_at size bytes) some_put (bytes_reads size bytes)) before after took

pub asks_none : (e : Stopped) (front : List ℕ → List ℕ) (before after : Option (List ℕ)) → Took (Err e) front before after → AsksOf (Err e) before after
asks_none e front None after took = tt
asks_none (Refused rule passed) front (Some bytes) after took = absurd took
asks_none Failed front (Some bytes) after took = untaken {X = Request} Failed front request_at request_past (Some bytes) after took
asks_none OutOfMemory front (Some bytes) after took = tt

-- what comes next
pub next_broken : (before after : Option (List ℕ)) → AsksOf (Err Failed) before after → IsNext nexts.Failed before after
next_broken None after h = tt
next_broken (Some bytes) after h = mapped_some after (λ left off. broken_off bytes left off) h

pub next_asks : (r : Request) (before after : Option (List ℕ)) → AsksOf (Ok (Some r)) before after → IsNext (nexts.Asks r) before after
next_asks r None after h = tt
next_asks r (Some bytes) after h = mapped_some after (λ rest e. asked bytes rest r e) h

pub next_refused : (result : Next) (rule : Rule) (passed : Bool) (before between after : Option (List ℕ)) → AsksOf (Err (Refused rule passed)) before between → Refuses result rule passed between after → IsNext result before after
next_refused result rule passed None between after h k = tt
next_refused (nexts.Asks r) rule passed (Some bytes) between after h k = absurd k
next_refused nexts.Over rule passed (Some bytes) between after h k = absurd k
next_refused nexts.OutOfMemory rule passed (Some bytes) between after h k = absurd k
next_refused nexts.Failed rule passed (Some bytes) None after h k = absurd h.1.2
next_refused nexts.Failed rule passed (Some bytes) (Some rest) after h k =
    subst (λ (o : Option (List ℕ)). IsSomeAnd o (IsBrokenOff bytes)) (sym k.1) (refused_off bytes rest rule h.1.0 h.0 h.1.1 (subst (λ (p : Bool). StopsAt bytes rule p h.1.0 rest) k.0 h.1.2))
next_refused (nexts.Refused refused) rule passed (Some bytes) None after h k = absurd h.1.2
next_refused (nexts.Refused refused) rule passed (Some bytes) (Some rest) after h k =
    subst (λ (o : Option (List ℕ)). IsSomeAnd o (IsAtFront (nexts.Refused refused) bytes)) (sym k.1)
    (subst (λ (x : Rule). IsRefused bytes x (cond passed rest (behind_line rest))) (sym k.0) (refusal bytes rest rule passed h.1.0 h.0 h.1.1 h.1.2))
