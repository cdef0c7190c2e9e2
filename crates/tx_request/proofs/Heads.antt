-- Reading the line with which a request begins, and that of a change.
use Rattle.std.proofs.Common.{◌≡◌, ℕ, ◌≤◌, List, [], ◌∷◌, ◌++◌, length, refl, sym, ap, subst, ◌∙◌, arith}
use Rattle.std.specs.Prelude.{Some, Ok, IsTrue, slice_get}
use Rattle.tx_files.specs.Names.{is_name}
use Rattle.tx_script.specs.declared.command.FilePlace.{FilePlace}
use Rattle.tx_script.specs.declared.element.ChangeWord.{ChangeWord}
use Rattle.tx_script.specs.declared.element.ChangeWord.TheVariants as changing
use Rattle.tx_script.specs.declared.element.CommandWord.{CommandWord}
use Rattle.tx_script.specs.declared.element.CommandWord.TheVariants as commands
use Rattle.tx_script.specs.declared.error.Rule.{Rule}
use Rattle.tx_script.specs.declared.error.Rule.TheVariants.{Word}
use Rattle.tx_script.specs.Text.{bytes_of, counted, greatest, named, number, place_elements, rules_of, IsPlace}
use Rattle.tx_script.specs.Reading.{Read, ◌>>=◌, change_word_at, count_at, file_place_at, name_at, number_at}
use Rattle.tx_script.proofs.Forms.{Reads, after, mapped, ok_is, ok_or_err}
use Rattle.tx_script.proofs.Changes.{change_word_reads, word_text as change_word_text}
use Rattle.tx_script.proofs.Commands.{place_reads}
use Rattle.tx_script.proofs.Counts.{IsCount, count_reads}
use Rattle.tx_script.proofs.Digits.{number_reads}
use Rattle.tx_script.proofs.Names.{name_reads}
use Rattle.tx_request.specs.declared.head.EditLine.{EditLine}
use Rattle.tx_request.specs.declared.head.ChangeLine.{ChangeLine}
use Rattle.tx_request.specs.declared.head.ChangeLine.TheVariants as lines
use Rattle.tx_request.specs.declared.head.Head.{Head}
use Rattle.tx_request.specs.declared.head.Head.TheVariants as heads
use Rattle.tx_request.specs.declared.head.RequestWord.{RequestWord}
use Rattle.tx_request.specs.declared.head.RequestWord.TheVariants as words
use Rattle.tx_request.specs.Reading.{change_line_at, change_rest_at, command_rest_at, edit_line_at, head_at, page_at, request_word_at, rest_at, size_at}
use Rattle.tx_request.specs.Requests.{most_bytes, paged}
use Rattle.tx_request.proofs.Sizes.{page_reads, size_reads}
use Rattle.tx_request.proofs.Words.{request_word_reads, word_text}

-- the line of an edit
pub record IsEditLine (l : EditLine) : Type 0 where
  pub place : l.place ≤ greatest
  pub removed : l.removed ≤ greatest
  pub size : l.size ≤ most_bytes
  pub is_named : IsTrue (is_name l.name)

abbrev pub line_elements : EditLine → List (Rule × List ℕ)
line_elements l = number l.place ∷ number l.removed ∷ number l.size ∷ named l.name ∷ []

abbrev pub line_of : ℕ → ℕ → ℕ → List ℕ → EditLine
line_of place removed size name = record { name = name; place = place; removed = removed; size = size }

-- one of which these are known
abbrev Placed : ℕ → EditLine → Type 0
Placed place l = IsEditLine l × (l.place ≡ place)

abbrev Removing : ℕ → ℕ → EditLine → Type 0
Removing place removed l = IsEditLine l × (l.place ≡ place) × (l.removed ≡ removed)

abbrev Putting : ℕ → ℕ → ℕ → EditLine → Type 0
Putting place removed size l = IsEditLine l × (l.place ≡ place) × (l.removed ≡ removed) × (l.size ≡ size)

after_size : (place removed size : ℕ) → place ≤ greatest → removed ≤ greatest → size ≤ most_bytes → (bytes : List ℕ)
    → Reads (Putting place removed size) (λ l. named l.name ∷ []) bytes (name_at bytes >>= λ name. Ok (line_of place removed size name.0, name.1))
after_size place removed size hp hr hs bytes =
    mapped (λ name. IsTrue (is_name name)) (λ name. named name ∷ []) (Putting place removed size) (λ l. named l.name ∷ []) (λ name. line_of place removed size name)
    (λ name h. (record { place = hp; removed = hr; size = hs; is_named = h }, refl, refl, refl))
    (λ l h. (l.name, h.0.is_named, λ i. line_of (h.1 i) (h.2 i) (h.3 i) l.name))
    (λ name. refl) bytes (name_at bytes) (name_reads bytes)

after_removed : (place removed : ℕ) → place ≤ greatest → removed ≤ greatest → (bytes : List ℕ)
    → Reads (Removing place removed) (λ l. number l.size ∷ named l.name ∷ []) bytes
    (size_at bytes >>= λ size. name_at size.1 >>= λ name. Ok (line_of place removed size.0 name.0, name.1))
after_removed place removed hp hr bytes =
    after (λ n. n ≤ most_bytes) (λ n. number n ∷ []) (Putting place removed) (λ l. named l.name ∷ [])
    (Removing place removed) (λ l. l.size)
    (λ l h. (h.0.size, (h.0, h.1, h.2, refl)))
    (λ size l hs h. ((h.0, h.1, h.2), h.3))
    (λ size hs. (line_of place removed size (97 ∷ []), (record { place = hp; removed = hr; size = hs; is_named = refl }, refl, refl, refl)))
    size_at size_reads
    (λ size. name_at size.1 >>= λ name. Ok (line_of place removed size.0 name.0, name.1))
    (λ size rest hs. after_size place removed size hp hr hs rest)
    bytes

after_place : (place : ℕ) → place ≤ greatest → (bytes : List ℕ)
    → Reads (Placed place) (λ l. number l.removed ∷ number l.size ∷ named l.name ∷ []) bytes
    (number_at bytes >>= λ removed. size_at removed.1 >>= λ size. name_at size.1 >>= λ name. Ok (line_of place removed.0 size.0 name.0, name.1))
after_place place hp bytes =
    after (λ n. n ≤ greatest) (λ n. number n ∷ []) (Removing place) (λ l. number l.size ∷ named l.name ∷ [])
    (Placed place) (λ l. l.removed)
    (λ l h. (h.0.removed, (h.0, h.1, refl)))
    (λ removed l hr h. ((h.0, h.1), h.2))
    (λ removed hr. (line_of place removed 0 (97 ∷ []), (record { place = hp; removed = hr; size = omega arith; is_named = refl }, refl, refl)))
    number_at number_reads
    (λ removed. size_at removed.1 >>= λ size. name_at size.1 >>= λ name. Ok (line_of place removed.0 size.0 name.0, name.1))
    (λ removed rest hr. after_removed place removed hp hr rest)
    bytes

edit_line_reads : (bytes : List ℕ) → Reads IsEditLine line_elements bytes (edit_line_at bytes)
unfolding edit_line_at
edit_line_reads bytes =
    after (λ n. n ≤ greatest) (λ n. number n ∷ []) Placed (λ l. number l.removed ∷ number l.size ∷ named l.name ∷ [])
    IsEditLine (λ l. l.place)
    (λ l h. (h.place, (h, refl)))
    (λ place l hp h. h)
    (λ place hp. (line_of place 0 0 (97 ∷ []), (record { place = hp; removed = omega arith; size = omega arith; is_named = refl }, refl)))
    number_at number_reads
    (λ place. number_at place.1 >>= λ removed. size_at removed.1 >>= λ size. name_at size.1 >>= λ name. Ok (line_of place.0 removed.0 size.0 name.0, name.1))
    (λ place rest hp. after_place place hp rest)
    bytes

-- the line of a change
abbrev pub IsChangeLine : ChangeLine → Type 0
IsChangeLine (lines.Edit l) = IsEditLine l
IsChangeLine (lines.Remove name) = IsTrue (is_name name)

-- by its word
abbrev pub change_word_of : ChangeLine → ChangeWord
change_word_of (lines.Edit l) = changing.Edit
change_word_of (lines.Remove name) = changing.Remove

abbrev pub behind_change_word : ChangeLine → List (Rule × List ℕ)
behind_change_word (lines.Edit l) = line_elements l
behind_change_word (lines.Remove name) = named name ∷ []

abbrev pub change_line_elements : ChangeLine → List (Rule × List ℕ)
change_line_elements l = (Word, change_word_text (change_word_of l)) ∷ behind_change_word l

abbrev IsChangeOf : ChangeWord → ChangeLine → Type 0
IsChangeOf w l = IsChangeLine l × (change_word_of l ≡ w)

edits : (l : ChangeLine) → IsChangeOf changing.Edit l → (e : EditLine) × IsEditLine e × (l ≡ lines.Edit e)
edits (lines.Edit e) h = (e, h.0, refl)
edits (lines.Remove name) h = absurd cc

removes : (l : ChangeLine) → IsChangeOf changing.Remove l → (name : List ℕ) × IsTrue (is_name name) × (l ≡ lines.Remove name)
removes (lines.Edit e) h = absurd cc
removes (lines.Remove name) h = (name, h.0, refl)

pub change_rest_reads : (w : ChangeWord) (bytes : List ℕ) → Reads (IsChangeOf w) behind_change_word bytes (change_rest_at w bytes)
unfolding change_rest_at
change_rest_reads changing.Edit bytes =
    mapped IsEditLine line_elements (IsChangeOf changing.Edit) behind_change_word (λ e. lines.Edit e) (λ e h. (h, refl)) (λ l h. edits l h) (λ e. refl) bytes (edit_line_at bytes) (edit_line_reads bytes)
change_rest_reads changing.Remove bytes =
    mapped (λ name. IsTrue (is_name name)) (λ name. named name ∷ []) (IsChangeOf changing.Remove) behind_change_word (λ name. lines.Remove name) (λ name h. (h, refl)) (λ l h. removes l h) (λ name. refl) bytes (name_at bytes) (name_reads bytes)

some_line : EditLine
some_line = line_of 0 0 0 (97 ∷ [])

is_line : IsEditLine some_line
unfolding some_line
is_line = record { place = omega arith; removed = omega arith; size = omega arith; is_named = refl }

some_change_line : (w : ChangeWord) → Unit {0} → (l : ChangeLine) × IsChangeOf w l
some_change_line changing.Edit h = (lines.Edit some_line, (is_line, refl))
some_change_line changing.Remove h = (lines.Remove (97 ∷ []), (refl, refl))

pub change_line_reads : (bytes : List ℕ) → Reads IsChangeLine change_line_elements bytes (change_line_at bytes)
unfolding change_line_at
change_line_reads bytes =
    after (λ w. Unit {0}) (λ w. (Word, change_word_text w) ∷ []) IsChangeOf behind_change_word IsChangeLine change_word_of
    (λ l h. (tt, (h, refl)))
    (λ w l one h. h)
    some_change_line
    change_word_at change_word_reads
    (λ word. change_rest_at word.0 word.1)
    (λ w rest one. change_rest_reads w rest)
    bytes

-- the line with which a request begins
abbrev pub IsHead : Head → Type 0
IsHead (heads.Change l) = IsChangeLine l
IsHead (heads.Batch n) = IsCount n
IsHead (heads.Save name) = IsTrue (is_name name)
IsHead (heads.Locate at) = IsPlace at
IsHead (heads.File size name) = (size ≤ most_bytes) × IsTrue (is_name name)
IsHead (heads.Page k) = k ≤ greatest
IsHead heads.Log = Unit {0}
IsHead (heads.LogOf k) = k ≤ greatest

-- by its word
abbrev command_of : ChangeWord → CommandWord
command_of changing.Edit = commands.Edit
command_of changing.Remove = commands.Remove

abbrev pub word_of : Head → RequestWord
word_of (heads.Change l) = words.Command (command_of (change_word_of l))
word_of (heads.Batch n) = words.Command commands.Batch
word_of (heads.Save name) = words.Command commands.Save
word_of (heads.Locate at) = words.Command commands.Locate
word_of (heads.File size name) = words.File
word_of (heads.Page k) = words.Page
word_of heads.Log = words.Log
word_of (heads.LogOf k) = words.LogOf

abbrev pub behind_word : Head → List (Rule × List ℕ)
behind_word (heads.Change l) = behind_change_word l
behind_word (heads.Batch n) = counted n ∷ []
behind_word (heads.Save name) = named name ∷ []
behind_word (heads.Locate at) = place_elements at
behind_word (heads.File size name) = number size ∷ named name ∷ []
behind_word (heads.Page k) = paged k ∷ []
behind_word heads.Log = []
behind_word (heads.LogOf k) = paged k ∷ []

abbrev pub head_elements : Head → List (Rule × List ℕ)
head_elements h = (Word, word_text (word_of h)) ∷ behind_word h

abbrev IsOf : RequestWord → Head → Type 0
IsOf w h = IsHead h × (word_of h ≡ w)

-- a value that needs no bytes
pub nothing_reads : {V : Type 0} (G : V → Type 0) (q : V → List (Rule × List ℕ)) (v0 : V) (bytes : List ℕ) → G v0 → ((v : V) → G v → v ≡ v0) → q v0 ≡ [] → Reads G q bytes (Ok (v0, bytes))
nothing_reads {V} G q v0 bytes fits only none = record {
  takes = λ v rest e.
      let same = ok_is {A = V × List ℕ} (v0, bytes) (v, rest) e in
      subst (λ (z : V × List ℕ). G z.0 × (bytes ≡ bytes_of (q z.0) ++ z.1)) same (fits, ap (λ (ps : List (Rule × List ℕ)). bytes_of ps ++ bytes) (sym none));
  again = λ v rest g e.
      let is = only v g in
      let same : bytes ≡ rest = e ∙ ap (λ (z : V). bytes_of (q z) ++ rest) is ∙ ap (λ (ps : List (Rule × List ℕ)). bytes_of ps ++ rest) none in
      λ i. Ok (sym is i, same i);
  breaks = λ b e. absurd (ok_or_err {A = V × List ℕ} (v0, bytes) b e);
}

-- the same elements by another name, of values that fit
relabelled : {V : Type 0} (F : V → Type 0) (p q : V → List (Rule × List ℕ)) (bytes : List ℕ) (r : Read V) → ((v : V) → F v → p v ≡ q v) → Reads F p bytes r → Reads F q bytes r
relabelled {V} F p q bytes r same reads = record {
  takes = λ v rest e. let k = reads.takes v rest e in (k.0, k.1 ∙ ap (λ (ps : List (Rule × List ℕ)). bytes_of ps ++ rest) (same v k.0));
  again = λ v rest fits e. reads.again v rest fits (e ∙ ap (λ (ps : List (Rule × List ℕ)). bytes_of ps ++ rest) (sym (same v fits)));
  breaks = λ b e.
      let k = reads.breaks b e in
      record {
        read = k.read;
        rest = k.rest;
        split = k.split;
        left = k.left;
        whose = k.whose;
        more = k.more;
        fits = k.fits;
        begins = ap bytes_of (sym (same k.whose k.fits)) ∙ k.begins;
        next = λ v c after_ fits eq. subst (λ (ps : List (Rule × List ℕ)). slice_get (rules_of ps) (length k.read) ≡ Some b.rule) (same v fits) (k.next v c after_ fits (ap bytes_of (same v fits) ∙ eq));
        none = λ v c after_ others fits is eq. k.none v c after_ others fits is (ap bytes_of (same v fits) ∙ eq);
      };
}

-- of a lone change
lone : (w : ChangeWord) (h : Head) → IsOf (words.Command (command_of w)) h → (l : ChangeLine) × IsChangeOf w l × (h ≡ heads.Change l)
lone changing.Edit (heads.Change (lines.Edit e)) h = (lines.Edit e, (h.0, refl), refl)
lone changing.Edit (heads.Change (lines.Remove name)) h = absurd cc
lone changing.Remove (heads.Change (lines.Edit e)) h = absurd cc
lone changing.Remove (heads.Change (lines.Remove name)) h = (lines.Remove name, (h.0, refl), refl)
lone changing.Edit _ h = absurd cc
lone changing.Remove _ h = absurd cc

lone_reads : (w : ChangeWord) (bytes : List ℕ) → Reads (IsOf (words.Command (command_of w))) behind_word bytes (change_rest_at w bytes >>= λ line. Ok (heads.Change line.0, line.1))
lone_reads w bytes =
    mapped (IsChangeOf w) behind_change_word (IsOf (words.Command (command_of w))) behind_word (λ l. heads.Change l)
    (λ l h. (h.0, ap (λ (v : ChangeWord). words.Command (command_of v)) h.1)) (λ h is. lone w h is) (λ l. refl) bytes (change_rest_at w bytes) (change_rest_reads w bytes)

batches : (h : Head) → IsOf (words.Command commands.Batch) h → (n : ℕ) × IsCount n × (h ≡ heads.Batch n)
batches (heads.Batch n) h = (n, h.0, refl)
batches (heads.Change (lines.Edit e)) h = absurd cc
batches _ h = absurd cc

saves : (h : Head) → IsOf (words.Command commands.Save) h → (name : List ℕ) × IsTrue (is_name name) × (h ≡ heads.Save name)
saves (heads.Save name) h = (name, h.0, refl)
saves (heads.Change (lines.Edit e)) h = absurd cc
saves _ h = absurd cc

locates : (h : Head) → IsOf (words.Command commands.Locate) h → (at : FilePlace) × IsPlace at × (h ≡ heads.Locate at)
locates (heads.Locate at) h = (at, h.0, refl)
locates (heads.Change (lines.Edit e)) h = absurd cc
locates _ h = absurd cc

pages : (h : Head) → IsOf words.Page h → (k : ℕ) × (k ≤ greatest) × (h ≡ heads.Page k)
pages (heads.Page k) h = (k, h.0, refl)
pages (heads.Change (lines.Edit e)) h = absurd cc
pages _ h = absurd cc

logs : (h : Head) → IsOf words.Log h → h ≡ heads.Log
logs heads.Log h = refl
logs (heads.Change (lines.Edit e)) h = absurd cc
logs _ h = absurd cc

logs_of : (h : Head) → IsOf words.LogOf h → (k : ℕ) × (k ≤ greatest) × (h ≡ heads.LogOf k)
logs_of (heads.LogOf k) h = (k, h.0, refl)
logs_of (heads.Change (lines.Edit e)) h = absurd cc
logs_of _ h = absurd cc

command_rest_reads : (w : CommandWord) (bytes : List ℕ) → Reads (IsOf (words.Command w)) behind_word bytes (command_rest_at w bytes)
unfolding command_rest_at
command_rest_reads commands.Edit bytes = lone_reads changing.Edit bytes
command_rest_reads commands.Remove bytes = lone_reads changing.Remove bytes
command_rest_reads commands.Batch bytes =
    mapped IsCount (λ n. counted n ∷ []) (IsOf (words.Command commands.Batch)) behind_word (λ n. heads.Batch n) (λ n h. (h, refl)) (λ h is. batches h is) (λ n. refl) bytes (count_at bytes) (count_reads bytes)
command_rest_reads commands.Save bytes =
    mapped (λ name. IsTrue (is_name name)) (λ name. named name ∷ []) (IsOf (words.Command commands.Save)) behind_word (λ name. heads.Save name) (λ name h. (h, refl)) (λ h is. saves h is) (λ name. refl) bytes (name_at bytes) (name_reads bytes)
command_rest_reads commands.Locate bytes =
    mapped IsPlace place_elements (IsOf (words.Command commands.Locate)) behind_word (λ at. heads.Locate at) (λ at h. (h, refl)) (λ h is. locates h is) (λ at. refl) bytes (file_place_at bytes) (place_reads bytes)

-- the line of a file's contents, one of which the size is known
abbrev IsFile : Head → Type 0
IsFile h = IsOf words.File h

abbrev size_of : Head → ℕ
size_of (heads.File size name) = size
size_of _ = 0

abbrev name_of : Head → List ℕ
name_of (heads.File size name) = name
name_of _ = []

is_file : (h : Head) → IsFile h → (size_of h ≤ most_bytes) × IsTrue (is_name (name_of h)) × (h ≡ heads.File (size_of h) (name_of h))
is_file (heads.File size name) h = (h.0.0, h.0.1, refl)
is_file (heads.Change (lines.Edit e)) h = absurd cc
is_file _ h = absurd cc

abbrev Sized : ℕ → Head → Type 0
Sized size h = IsFile h × (size_of h ≡ size)

after_file_size : (size : ℕ) → size ≤ most_bytes → (bytes : List ℕ)
    → Reads (Sized size) (λ h. named (name_of h) ∷ []) bytes (name_at bytes >>= λ name. Ok (heads.File size name.0, name.1))
after_file_size size hs bytes =
    mapped (λ name. IsTrue (is_name name)) (λ name. named name ∷ []) (Sized size) (λ h. named (name_of h) ∷ []) (λ name. heads.File size name)
    (λ name h. (((hs, h), refl), refl))
    (λ h is. let k = is_file h is.0 in (name_of h, k.1, k.2 ∙ ap (λ (n : ℕ). heads.File n (name_of h)) is.1))
    (λ name. refl) bytes (name_at bytes) (name_reads bytes)

file_elements : (h : Head) → IsFile h → number (size_of h) ∷ named (name_of h) ∷ [] ≡ behind_word h
file_elements h is = ap behind_word (sym (is_file h is).2)

file_reads : (bytes : List ℕ)
    → Reads IsFile (λ h. number (size_of h) ∷ named (name_of h) ∷ []) bytes (size_at bytes >>= λ size. name_at size.1 >>= λ name. Ok (heads.File size.0 name.0, name.1))
file_reads bytes =
    after (λ n. n ≤ most_bytes) (λ n. number n ∷ []) Sized (λ h. named (name_of h) ∷ []) IsFile size_of
    (λ h is. ((is_file h is).0, (is, refl)))
    (λ size h hs is. is)
    (λ size hs. (heads.File size (97 ∷ []), (((hs, refl), refl), refl)))
    size_at size_reads
    (λ size. name_at size.1 >>= λ name. Ok (heads.File size.0 name.0, name.1))
    (λ size rest hs. after_file_size size hs rest)
    bytes

rest_reads : (w : RequestWord) (bytes : List ℕ) → Reads (IsOf w) behind_word bytes (rest_at w bytes)
unfolding rest_at
rest_reads (words.Command w) bytes = command_rest_reads w bytes
rest_reads words.File bytes = relabelled IsFile (λ h. number (size_of h) ∷ named (name_of h) ∷ []) behind_word bytes _ file_elements (file_reads bytes)
rest_reads words.Page bytes =
    mapped (λ k. k ≤ greatest) (λ k. paged k ∷ []) (IsOf words.Page) behind_word (λ k. heads.Page k) (λ k h. (h, refl)) (λ h is. pages h is) (λ k. refl) bytes (page_at bytes) (page_reads bytes)
rest_reads words.Log bytes = nothing_reads (IsOf words.Log) behind_word heads.Log bytes (tt, refl) logs refl
rest_reads words.LogOf bytes =
    mapped (λ k. k ≤ greatest) (λ k. paged k ∷ []) (IsOf words.LogOf) behind_word (λ k. heads.LogOf k) (λ k h. (h, refl)) (λ h is. logs_of h is) (λ k. refl) bytes (page_at bytes) (page_reads bytes)

some_head : (w : RequestWord) → Unit {0} → (h : Head) × IsOf w h
some_head (words.Command commands.Edit) h = (heads.Change (lines.Edit some_line), (is_line, refl))
some_head (words.Command commands.Remove) h = (heads.Change (lines.Remove (97 ∷ [])), (refl, refl))
some_head (words.Command commands.Batch) h = (heads.Batch 1, ((omega arith, omega arith), refl))
some_head (words.Command commands.Save) h = (heads.Save (97 ∷ []), (refl, refl))
some_head (words.Command commands.Locate) h = (heads.Locate (record { name = 97 ∷ []; place = 0 }), (record { place = omega arith; is_named = refl }, refl))
some_head words.File h = (heads.File 0 (97 ∷ []), ((omega arith, refl), refl))
some_head words.Page h = (heads.Page 0, (omega arith, refl))
some_head words.Log h = (heads.Log, (tt, refl))
some_head words.LogOf h = (heads.LogOf 0, (omega arith, refl))

pub head_reads : (bytes : List ℕ) → Reads IsHead head_elements bytes (head_at bytes)
unfolding head_at
head_reads bytes =
    after (λ w. Unit {0}) (λ w. (Word, word_text w) ∷ []) IsOf behind_word IsHead word_of
    (λ h fits. (tt, (fits, refl)))
    (λ w h one is. is)
    some_head
    request_word_at request_word_reads
    (λ word. rest_at word.0 word.1)
    (λ w rest one. rest_reads w rest)
    bytes
