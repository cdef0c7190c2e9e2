-- Reading what follows the line with which a request begins, and a request.
use Rattle.std.proofs.Common.{◌≡◌, ℕ, ◌≤◌, List, [], ◌∷◌, ◌++◌, length, refl, sym, ap, subst, ◌∙◌, arith}
use Rattle.std.specs.Prelude.{Ok, replicate}
use Rattle.std.specs.List.{flat_map, AllByRecursion}
use Rattle.std.proofs.lemmas.List.{length-replicate}
use Rattle.tx_files.specs.declared.edit.Edit.{Edit as FileEdit}
use Rattle.tx_files.specs.declared.edit.Change.{Change}
use Rattle.tx_files.specs.declared.edit.Change.TheVariants.{Edit, Remove}
use Rattle.tx_script.specs.declared.command.Command.TheVariants.{Change as Lone, Batch, Save, Locate}
use Rattle.tx_script.specs.declared.command.FilePlace.{FilePlace}
use Rattle.tx_script.specs.declared.error.Rule.{Rule}
use Rattle.tx_script.specs.declared.error.Rule.TheVariants.{Put, LineFeed}
use Rattle.tx_script.specs.Text.{change_elements, IsChange, IsEdit}
use Rattle.tx_script.specs.Reading.{◌>>=◌, literal_at, put_at}
use Rattle.tx_script.proofs.Forms.{Reads, after, mapped, renamed}
use Rattle.tx_script.proofs.Changes.{edit_of}
use Rattle.tx_script.proofs.Counts.{IsCount}
use Rattle.tx_script.proofs.Literals.{literal_reads}
use Rattle.tx_script.proofs.Names.{put_reads}
use Rattle.tx_script.proofs.Repeats.{AllSo, many, repeated}
use Rattle.tx_request.specs.declared.head.EditLine.{EditLine}
use Rattle.tx_request.specs.declared.head.ChangeLine.{ChangeLine}
use Rattle.tx_request.specs.declared.head.ChangeLine.TheVariants as lines
use Rattle.tx_request.specs.declared.head.Head.{Head}
use Rattle.tx_request.specs.declared.head.Head.TheVariants as heads
use Rattle.tx_request.specs.declared.request.FileContents.{FileContents}
use Rattle.tx_request.specs.declared.request.Request.{Request}
use Rattle.tx_request.specs.declared.request.Request.TheVariants.{Command, File, Page, Log, LogOf}
use Rattle.tx_request.specs.Reading.{bytes_at, change_at, change_behind, change_line_at, changes_at, edit_behind, head_at, request_at, request_behind}
use Rattle.tx_request.specs.Requests.{most_bytes, request_elements, IsRequest, IsShort}
use Rattle.tx_request.proofs.Heads.{change_line_elements, change_line_reads, head_elements, head_reads, line_of, nothing_reads, IsChangeLine, IsEditLine, IsHead}

-- so many bytes and LF
abbrev pub put_elements : List ℕ → List (Rule × List ℕ)
put_elements put = (Put, put) ∷ (LineFeed, 10 ∷ []) ∷ []

pub bytes_reads : (size : ℕ) (bytes : List ℕ) → Reads (λ put. length put ≡ size) put_elements bytes (bytes_at size bytes)
unfolding bytes_at
bytes_reads size bytes =
    after (λ put. length put ≡ size) (λ put. (Put, put) ∷ []) (λ put u. u ≡ put) (λ u. (LineFeed, 10 ∷ []) ∷ []) (λ put. length put ≡ size) (λ u. u)
    (λ u len. (len, refl))
    (λ put u len is. (ap length is ∙ len, is))
    (λ put len. (put, refl))
    (put_at size) (put_reads size)
    (λ put. literal_at LineFeed (10 ∷ []) put.1 >>= λ rest. Ok (put.0, rest))
    (λ put rest len. literal_reads put LineFeed (10 ∷ []) rest)
    bytes

-- an edit by its line
abbrev edit_line_of : FileEdit → EditLine
edit_line_of e = line_of e.place e.removed (length e.put) e.name

abbrev edit_for : EditLine → List ℕ → FileEdit
edit_for l put = edit_of l.place l.removed l.name put

abbrev Standing : EditLine → FileEdit → Type 0
Standing l e = IsEdit e × (length e.put ≤ most_bytes) × (edit_line_of e ≡ l)

stands : (l : EditLine) → IsEditLine l → (put : List ℕ) → length put ≡ l.size → Standing l (edit_for l put)
stands l h put len =
    let fits : length put ≤ most_bytes = subst (λ (n : ℕ). n ≤ most_bytes) (sym len) h.size in
    (record { place = h.place; removed = h.removed; put = omega arith; is_named = h.is_named }, fits, λ i. line_of l.place l.removed (len i) l.name)

edit_reads : (l : EditLine) → IsEditLine l → (bytes : List ℕ) → Reads (Standing l) (λ e. put_elements e.put) bytes (edit_behind l bytes)
unfolding edit_behind
edit_reads l h bytes =
    mapped (λ put. length put ≡ l.size) put_elements (Standing l) (λ e. put_elements e.put) (λ put. edit_for l put)
    (λ put len. stands l h put len)
    (λ e is. (e.put, ap (λ (x : EditLine). x.size) is.2, λ i. edit_for (is.2 i) e.put))
    (λ put. refl) bytes (bytes_at l.size bytes) (bytes_reads l.size bytes)

-- a change by its line
abbrev change_line_of : Change → ChangeLine
change_line_of (Edit e) = lines.Edit (edit_line_of e)
change_line_of (Remove name) = lines.Remove name

abbrev behind_change_line : Change → List (Rule × List ℕ)
behind_change_line (Edit e) = put_elements e.put
behind_change_line (Remove name) = []

-- one that a request may hold
abbrev pub IsShortChange : Change → Type 0
IsShortChange c = IsChange c × IsShort c

abbrev IsChangeFor : ChangeLine → Change → Type 0
IsChangeFor l c = IsShortChange c × (change_line_of c ≡ l)

edits : (l : EditLine) (c : Change) → IsChangeFor (lines.Edit l) c → (e : FileEdit) × Standing l e × (c ≡ Edit e)
edits l (Edit e) h = (e, (h.0.0, h.0.1, cc), refl)
edits l (Remove name) h = absurd cc

removes : (name : List ℕ) (c : Change) → IsChangeFor (lines.Remove name) c → c ≡ Remove name
removes name (Edit e) h = absurd cc
removes name (Remove other) h = cc

change_behind_reads : (l : ChangeLine) → IsChangeLine l → (bytes : List ℕ) → Reads (IsChangeFor l) behind_change_line bytes (change_behind l bytes)
unfolding change_behind
change_behind_reads (lines.Edit l) h bytes =
    mapped (Standing l) (λ e. put_elements e.put) (IsChangeFor (lines.Edit l)) behind_change_line (λ e. Edit e)
    (λ e is. ((is.0, is.1), ap (λ (x : EditLine). lines.Edit x) is.2))
    (λ c is. edits l c is)
    (λ e. refl) bytes (edit_behind l bytes) (edit_reads l h bytes)
change_behind_reads (lines.Remove name) h bytes = nothing_reads (IsChangeFor (lines.Remove name)) behind_change_line (Remove name) bytes ((h, tt), refl) (removes name) refl

change_fits : (c : Change) → IsShortChange c → IsChangeLine (change_line_of c)
change_fits (Edit e) h = record { place = h.0.place; removed = h.0.removed; size = h.1; is_named = h.0.is_named }
change_fits (Remove name) h = h.0

some_change : (l : ChangeLine) → IsChangeLine l → (c : Change) × IsChangeFor l c
some_change (lines.Edit l) h =
    let s = stands l h (replicate l.size 0) (length-replicate l.size 0) in
    (Edit (edit_for l (replicate l.size 0)), ((s.0, s.1), ap (λ (x : EditLine). lines.Edit x) s.2))
some_change (lines.Remove name) h = (Remove name, ((h, tt), refl))

change_elements_are : (c : Change) → change_line_elements (change_line_of c) ++ behind_change_line c ≡ change_elements c
change_elements_are (Edit e) = refl
change_elements_are (Remove name) = refl

pub change_reads : (bytes : List ℕ) → Reads IsShortChange change_elements bytes (change_at bytes)
unfolding change_at
change_reads bytes =
    renamed IsShortChange (λ c. change_line_elements (change_line_of c) ++ behind_change_line c) change_elements bytes (change_at bytes) change_elements_are
    (after IsChangeLine change_line_elements IsChangeFor behind_change_line IsShortChange change_line_of
    (λ c h. (change_fits c h, (h, refl)))
    (λ l c hl h. h)
    some_change
    change_line_at change_line_reads
    (λ line. change_behind line.0 line.1)
    (λ l rest h. change_behind_reads l h rest)
    bytes)

pub changes_reads : (n : ℕ) (bytes : List ℕ) → Reads (AllSo IsShortChange n) (λ changes. flat_map change_elements changes) bytes (changes_at n bytes)
unfolding changes_at
changes_reads n bytes = repeated IsShortChange change_elements change_at changes_at (λ bytes. refl) (λ n bytes. refl) change_reads n bytes

-- changes that are of two kinds each
both_kinds : (changes : List Change) → AllByRecursion IsShortChange changes → AllByRecursion IsChange changes × AllByRecursion IsShort changes
both_kinds [] h = (tt, tt)
both_kinds (c ∷ changes) h = let k = both_kinds changes h.1 in ((h.0.0, k.0), (h.0.1, k.1))

from_both : (changes : List Change) → AllByRecursion IsChange changes → AllByRecursion IsShort changes → AllByRecursion IsShortChange changes
from_both [] h k = tt
from_both (c ∷ changes) h k = ((h.0, k.0), from_both changes h.1 k.1)

-- a request by its first line
abbrev head_of : Request → Head
head_of (Command (Lone c)) = heads.Change (change_line_of c)
head_of (Command (Batch changes)) = heads.Batch (length changes)
head_of (Command (Save name)) = heads.Save name
head_of (Command (Locate at)) = heads.Locate at
head_of (File f) = heads.File (length f.contents) f.name
head_of (Page k) = heads.Page k
head_of Log = heads.Log
head_of (LogOf k) = heads.LogOf k

abbrev behind_head : Request → List (Rule × List ℕ)
behind_head (Command (Lone c)) = behind_change_line c
behind_head (Command (Batch changes)) = flat_map change_elements changes
behind_head (Command (Save name)) = []
behind_head (Command (Locate at)) = []
behind_head (File f) = put_elements f.contents
behind_head (Page k) = []
behind_head Log = []
behind_head (LogOf k) = []

request_elements_are : (r : Request) → head_elements (head_of r) ++ behind_head r ≡ request_elements r
request_elements_are (Command (Lone (Edit e))) = refl
request_elements_are (Command (Lone (Remove name))) = refl
request_elements_are (Command (Batch changes)) = refl
request_elements_are (Command (Save name)) = refl
request_elements_are (Command (Locate at)) = refl
request_elements_are (File f) = refl
request_elements_are (Page k) = refl
request_elements_are Log = refl
request_elements_are (LogOf k) = refl

abbrev Asking : Head → Request → Type 0
Asking h r = IsRequest r × (head_of r ≡ h)

head_fits : (r : Request) → IsRequest r → IsHead (head_of r)
head_fits (Command (Lone c)) h = change_fits c h
head_fits (Command (Batch changes)) h = (h.0.some, h.0.few)
head_fits (Command (Save name)) h = h.0
head_fits (Command (Locate at)) h = h.0
head_fits (File f) h = h
head_fits (Page k) h = h
head_fits Log h = tt
head_fits (LogOf k) h = h

-- as many changes as a batch has
is_batch : (n : ℕ) → IsCount n → (changes : List Change) → AllSo IsShortChange n changes → Asking (heads.Batch n) (Command (Batch changes))
is_batch n counts changes h =
    let k = both_kinds changes h.0 in
    ((record { some = subst (λ (m : ℕ). 1 ≤ m) (sym h.1) counts.0; few = subst (λ (m : ℕ). m ≤ 100) (sym h.1) counts.1; each = k.0 }, k.1), ap (λ (m : ℕ). heads.Batch m) h.1)

lones : (l : ChangeLine) (r : Request) → Asking (heads.Change l) r → (c : Change) × IsChangeFor l c × (r ≡ Command (Lone c))
lones l (Command (Lone c)) h = (c, (h.0, cc), refl)
lones l (Command (Batch changes)) h = absurd cc
lones l _ h = absurd cc

batches : (n : ℕ) (r : Request) → Asking (heads.Batch n) r → (changes : List Change) × AllSo IsShortChange n changes × (r ≡ Command (Batch changes))
batches n (Command (Batch changes)) h = (changes, (from_both changes h.0.0.each h.0.1, cc), refl)
batches n _ h = absurd cc

saves : (name : List ℕ) (r : Request) → Asking (heads.Save name) r → r ≡ Command (Save name)
saves name (Command (Save other)) h = cc
saves name _ h = absurd cc

locates : (at : FilePlace) (r : Request) → Asking (heads.Locate at) r → r ≡ Command (Locate at)
locates at (Command (Locate other)) h = cc
locates at _ h = absurd cc

abbrev file_for : List ℕ → List ℕ → FileContents
file_for name contents = record { name = name; contents = contents }

files : (size : ℕ) (name : List ℕ) (r : Request) → Asking (heads.File size name) r → (contents : List ℕ) × (length contents ≡ size) × (r ≡ File (file_for name contents))
files size name (File f) h =
    let len : length f.contents ≡ size = cc in
    let same : f.name ≡ name = cc in
    (f.contents, len, λ i. File (file_for (same i) f.contents))
files size name (Command (Lone c)) h = absurd cc
files size name _ h = absurd cc

pages : (k : ℕ) (r : Request) → Asking (heads.Page k) r → r ≡ Page k
pages k (Page other) h = cc
pages k (Command (Lone c)) h = absurd cc
pages k _ h = absurd cc

logs : (r : Request) → Asking heads.Log r → r ≡ Log
logs Log h = refl
logs (Command (Lone c)) h = absurd cc
logs _ h = absurd cc

logs_of : (k : ℕ) (r : Request) → Asking (heads.LogOf k) r → r ≡ LogOf k
logs_of k (LogOf other) h = cc
logs_of k (Command (Lone c)) h = absurd cc
logs_of k _ h = absurd cc

behind_reads : (h : Head) → IsHead h → (bytes : List ℕ) → Reads (Asking h) behind_head bytes (request_behind h bytes)
unfolding request_behind
behind_reads (heads.Change l) fits bytes =
    mapped (IsChangeFor l) behind_change_line (Asking (heads.Change l)) behind_head (λ c. Command (Lone c))
    (λ c h. (h.0, ap (λ (x : ChangeLine). heads.Change x) h.1)) (lones l) (λ c. refl) bytes (change_behind l bytes) (change_behind_reads l fits bytes)
behind_reads (heads.Batch n) fits bytes =
    mapped (AllSo IsShortChange n) (λ changes. flat_map change_elements changes) (Asking (heads.Batch n)) behind_head (λ changes. Command (Batch changes))
    (is_batch n fits) (batches n) (λ changes. refl) bytes (changes_at n bytes) (changes_reads n bytes)
behind_reads (heads.Save name) fits bytes = nothing_reads (Asking (heads.Save name)) behind_head (Command (Save name)) bytes ((fits, tt), refl) (saves name) refl
behind_reads (heads.Locate at) fits bytes = nothing_reads (Asking (heads.Locate at)) behind_head (Command (Locate at)) bytes ((fits, tt), refl) (locates at) refl
behind_reads (heads.File size name) fits bytes =
    mapped (λ contents. length contents ≡ size) put_elements (Asking (heads.File size name)) behind_head (λ contents. File (file_for name contents))
    (λ contents len. ((subst (λ (n : ℕ). n ≤ most_bytes) (sym len) fits.0, fits.1), ap (λ (n : ℕ). heads.File n name) len)) (files size name) (λ contents. refl) bytes (bytes_at size bytes) (bytes_reads size bytes)
behind_reads (heads.Page k) fits bytes = nothing_reads (Asking (heads.Page k)) behind_head (Page k) bytes (fits, refl) (pages k) refl
behind_reads heads.Log fits bytes = nothing_reads (Asking heads.Log) behind_head Log bytes (tt, refl) logs refl
behind_reads (heads.LogOf k) fits bytes = nothing_reads (Asking (heads.LogOf k)) behind_head (LogOf k) bytes (fits, refl) (logs_of k) refl

some_request : (h : Head) → IsHead h → (r : Request) × Asking h r
some_request (heads.Change l) fits = let c = some_change l fits in (Command (Lone c.0), (c.1.0, ap (λ (x : ChangeLine). heads.Change x) c.1.1))
some_request (heads.Batch n) fits =
    let m = many IsShortChange n (Remove (97 ∷ [])) (refl, tt) in
    (Command (Batch m.0), is_batch n fits m.0 m.1)
some_request (heads.Save name) fits = (Command (Save name), ((fits, tt), refl))
some_request (heads.Locate at) fits = (Command (Locate at), ((fits, tt), refl))
some_request (heads.File size name) fits =
    let len = length-replicate size 0 in
    (File (file_for name (replicate size 0)), ((subst (λ (n : ℕ). n ≤ most_bytes) (sym len) fits.0, fits.1), ap (λ (n : ℕ). heads.File n name) len))
some_request (heads.Page k) fits = (Page k, (fits, refl))
some_request heads.Log fits = (Log, (tt, refl))
some_request (heads.LogOf k) fits = (LogOf k, (fits, refl))

pub request_reads : (bytes : List ℕ) → Reads IsRequest request_elements bytes (request_at bytes)
unfolding request_at
request_reads bytes =
    renamed IsRequest (λ r. head_elements (head_of r) ++ behind_head r) request_elements bytes (request_at bytes) request_elements_are
    (after IsHead head_elements Asking behind_head IsRequest head_of
    (λ r h. (head_fits r h, (h, refl)))
    (λ h r fits is. is)
    some_request
    head_at head_reads
    (λ head. request_behind head.0 head.1)
    (λ h rest fits. behind_reads h fits rest)
    bytes)
