-- Reading an edit, a change, and so many changes.
use Rattle.std.proofs.Common.{◌≡◌, ℕ, ◌≤◌, Bool, true, false, cond, List, [], ◌∷◌, ◌++◌, length, get_or, refl, sym, subst, arith, ◌⊎◌, inl, inr}
use Rattle.std.specs.Prelude.{Ok, IsTrue, codes, replicate}
use Rattle.std.specs.List.{flat_map}
use Rattle.std.proofs.lemmas.List.{length-replicate}
use Rattle.tx_files.specs.Names.{is_name}
use Rattle.tx_files.specs.declared.edit.Edit.{Edit as FileEdit}
use Rattle.tx_files.specs.declared.edit.Change.{Change}
use Rattle.tx_files.specs.declared.edit.Change.TheVariants.{Edit, Remove}
use Rattle.tx_script.specs.declared.element.ChangeWord.{ChangeWord}
use Rattle.tx_script.specs.declared.element.ChangeWord.TheVariants as changing
use Rattle.tx_script.specs.declared.error.Rule.{Rule}
use Rattle.tx_script.specs.declared.error.Rule.TheVariants.{Word, Put, LineFeed}
use Rattle.tx_script.specs.Text.{edit_elements, change_elements, greatest, number, named, IsEdit, IsChange}
use Rattle.tx_script.specs.Reading.{◌>>=◌, after_change_word, begins_with, change_at, change_word_at, changes_at, edit_at, literal_at, name_at, number_at, put_at}
use Rattle.tx_script.proofs.Forms.{Reads, after, mapped, renamed}
use Rattle.tx_script.proofs.Repeats.{AllSo, repeated}
use Rattle.tx_script.proofs.Literals.{literal_reads}
use Rattle.tx_script.proofs.Digits.{number_reads}
use Rattle.tx_script.proofs.Names.{name_reads, put_reads}
use Rattle.tx_script.proofs.Words.{begins, begins-not, one_word}

-- an edit of which these are known
abbrev Placed : ℕ → FileEdit → Type 0
Placed place e = IsEdit e × (e.place ≡ place)

abbrev Removing : ℕ → ℕ → FileEdit → Type 0
Removing place removed e = IsEdit e × (e.place ≡ place) × (e.removed ≡ removed)

abbrev Putting : ℕ → ℕ → ℕ → FileEdit → Type 0
Putting place removed size e = IsEdit e × (e.place ≡ place) × (e.removed ≡ removed) × (length e.put ≡ size)

abbrev Naming : ℕ → ℕ → ℕ → List ℕ → FileEdit → Type 0
Naming place removed size name e = IsEdit e × (e.place ≡ place) × (e.removed ≡ removed) × (length e.put ≡ size) × (e.name ≡ name)

abbrev pub edit_of : ℕ → ℕ → List ℕ → List ℕ → FileEdit
edit_of place removed name put = record { name = name; place = place; removed = removed; put = put }

zeros : (n : ℕ) → length {A = ℕ} (replicate n 0) ≡ n
zeros n = length-replicate n 0

after_name : (place removed size : ℕ) (name : List ℕ) → place ≤ greatest → removed ≤ greatest → size ≤ greatest → IsTrue (is_name name) → (bytes : List ℕ)
    → Reads (Naming place removed size name) (λ e. (Put, e.put) ∷ (LineFeed, 10 ∷ []) ∷ []) bytes
    (put_at size bytes >>= λ put. literal_at LineFeed (10 ∷ []) put.1 >>= λ rest. Ok (edit_of place removed name put.0, rest))
after_name place removed size name hp hr hs hn bytes =
    after (λ put. length put ≡ size) (λ put. (Put, put) ∷ []) (λ put e. e ≡ edit_of place removed name put) (λ e. (LineFeed, 10 ∷ []) ∷ [])
    (Naming place removed size name) (λ e. e.put)
    (λ e h. (h.3, λ i. edit_of (h.1 i) (h.2 i) (h.4 i) e.put))
    (λ put e len is. subst (λ (x : FileEdit). Naming place removed size name x × (x.put ≡ put)) (sym is)
    ((record { place = hp; removed = hr; put = omega (arith, len, hs); is_named = hn }, refl, refl, len, refl), refl))
    (λ put len. (edit_of place removed name put, refl))
    (put_at size) (put_reads size)
    (λ put. literal_at LineFeed (10 ∷ []) put.1 >>= λ rest. Ok (edit_of place removed name put.0, rest))
    (λ put rest len. literal_reads (edit_of place removed name put) LineFeed (10 ∷ []) rest)
    bytes

after_size : (place removed size : ℕ) → place ≤ greatest → removed ≤ greatest → size ≤ greatest → (bytes : List ℕ)
    → Reads (Putting place removed size) (λ e. named e.name ∷ (Put, e.put) ∷ (LineFeed, 10 ∷ []) ∷ []) bytes
    (name_at bytes >>= λ name. put_at size name.1 >>= λ put. literal_at LineFeed (10 ∷ []) put.1 >>= λ rest. Ok (edit_of place removed name.0 put.0, rest))
after_size place removed size hp hr hs bytes =
    after (λ name. IsTrue (is_name name)) (λ name. named name ∷ []) (Naming place removed size) (λ e. (Put, e.put) ∷ (LineFeed, 10 ∷ []) ∷ [])
    (Putting place removed size) (λ e. e.name)
    (λ e h. (h.0.is_named, (h.0, h.1, h.2, h.3, refl)))
    (λ name e hn h. ((h.0, h.1, h.2, h.3), h.4))
    (λ name hn. (edit_of place removed name (replicate size 0), (record { place = hp; removed = hr; put = omega (arith, zeros size, hs); is_named = hn }, refl, refl, zeros size, refl)))
    name_at name_reads
    (λ name. put_at size name.1 >>= λ put. literal_at LineFeed (10 ∷ []) put.1 >>= λ rest. Ok (edit_of place removed name.0 put.0, rest))
    (λ name rest hn. after_name place removed size name hp hr hs hn rest)
    bytes

after_removed : (place removed : ℕ) → place ≤ greatest → removed ≤ greatest → (bytes : List ℕ)
    → Reads (Removing place removed) (λ e. number (length e.put) ∷ named e.name ∷ (Put, e.put) ∷ (LineFeed, 10 ∷ []) ∷ []) bytes
    (number_at bytes >>= λ size. name_at size.1 >>= λ name. put_at size.0 name.1 >>= λ put. literal_at LineFeed (10 ∷ []) put.1 >>= λ rest. Ok (edit_of place removed name.0 put.0, rest))
after_removed place removed hp hr bytes =
    after (λ n. n ≤ greatest) (λ n. number n ∷ []) (Putting place removed) (λ e. named e.name ∷ (Put, e.put) ∷ (LineFeed, 10 ∷ []) ∷ [])
    (Removing place removed) (λ e. length e.put)
    (λ e h. (h.0.put, (h.0, h.1, h.2, refl)))
    (λ size e hs h. ((h.0, h.1, h.2), h.3))
    (λ size hs. (edit_of place removed (97 ∷ []) (replicate size 0), (record { place = hp; removed = hr; put = omega (arith, zeros size, hs); is_named = refl }, refl, refl, zeros size)))
    number_at number_reads
    (λ size. name_at size.1 >>= λ name. put_at size.0 name.1 >>= λ put. literal_at LineFeed (10 ∷ []) put.1 >>= λ rest. Ok (edit_of place removed name.0 put.0, rest))
    (λ size rest hs. after_size place removed size hp hr hs rest)
    bytes

after_place : (place : ℕ) → place ≤ greatest → (bytes : List ℕ)
    → Reads (Placed place) (λ e. number e.removed ∷ number (length e.put) ∷ named e.name ∷ (Put, e.put) ∷ (LineFeed, 10 ∷ []) ∷ []) bytes
    (number_at bytes >>= λ removed. number_at removed.1 >>= λ size. name_at size.1 >>= λ name. put_at size.0 name.1 >>= λ put. literal_at LineFeed (10 ∷ []) put.1 >>= λ rest. Ok (edit_of place removed.0 name.0 put.0, rest))
after_place place hp bytes =
    after (λ n. n ≤ greatest) (λ n. number n ∷ []) (Removing place) (λ e. number (length e.put) ∷ named e.name ∷ (Put, e.put) ∷ (LineFeed, 10 ∷ []) ∷ [])
    (Placed place) (λ e. e.removed)
    (λ e h. (h.0.removed, (h.0, h.1, refl)))
    (λ removed e hr h. ((h.0, h.1), h.2))
    (λ removed hr. (edit_of place removed (97 ∷ []) [], (record { place = hp; removed = hr; put = omega arith; is_named = refl }, refl, refl)))
    number_at number_reads
    (λ removed. number_at removed.1 >>= λ size. name_at size.1 >>= λ name. put_at size.0 name.1 >>= λ put. literal_at LineFeed (10 ∷ []) put.1 >>= λ rest. Ok (edit_of place removed.0 name.0 put.0, rest))
    (λ removed rest hr. after_removed place removed hp hr rest)
    bytes

pub edit_reads : (bytes : List ℕ) → Reads IsEdit edit_elements bytes (edit_at bytes)
unfolding edit_at
edit_reads bytes =
    after (λ n. n ≤ greatest) (λ n. number n ∷ []) Placed (λ e. number e.removed ∷ number (length e.put) ∷ named e.name ∷ (Put, e.put) ∷ (LineFeed, 10 ∷ []) ∷ [])
    IsEdit (λ e. e.place)
    (λ e h. (h.place, (h, refl)))
    (λ place e hp h. h)
    (λ place hp. (edit_of place 0 (97 ∷ []) [], (record { place = hp; removed = omega arith; put = omega arith; is_named = refl }, refl)))
    number_at number_reads
    (λ place. number_at place.1 >>= λ removed. number_at removed.1 >>= λ size. name_at size.1 >>= λ name. put_at size.0 name.1 >>= λ put. literal_at LineFeed (10 ∷ []) put.1 >>= λ rest. Ok (edit_of place.0 removed.0 name.0 put.0, rest))
    (λ place rest hp. after_place place hp rest)
    bytes

-- a change's word and a space
abbrev pub word_text : ChangeWord → List ℕ
word_text changing.Edit = codes "edit "
word_text changing.Remove = codes "remove "

first_letter : (v : ChangeWord) (rest : List ℕ) → get_or (word_text v ++ rest) 0 0 ≡ get_or (word_text v) 0 0
first_letter changing.Edit rest = refl
first_letter changing.Remove rest = refl

pub change_word_reads : (bytes : List ℕ) → Reads (λ v. Unit {0}) (λ v. (Word, word_text v) ∷ []) bytes (change_word_at bytes)
unfolding change_word_at
change_word_reads bytes = by (begins_with 114 bytes) refl
  where
    is_remove : begins_with 114 bytes ≡ true → (v : ChangeWord) → (v ≡ changing.Remove) ⊎ (get_or bytes 0 0 ≡ get_or (word_text v) 0 0 → ⊥)
    is_remove is changing.Edit = inr (λ e. let first = begins 114 bytes is in omega arith)
    is_remove is changing.Remove = inl refl

    is_edit : begins_with 114 bytes ≡ false → (v : ChangeWord) → (v ≡ changing.Edit) ⊎ (get_or bytes 0 0 ≡ get_or (word_text v) 0 0 → ⊥)
    is_edit is changing.Edit = inl refl
    is_edit is changing.Remove = inr (λ e. begins-not 114 bytes (omega arith) is e)

    by : (b : Bool) → begins_with 114 bytes ≡ b → Reads (λ v. Unit {0}) (λ v. (Word, word_text v) ∷ []) bytes
        (cond b (literal_at Word (codes "remove ") bytes >>= λ rest. Ok (changing.Remove, rest)) (literal_at Word (codes "edit ") bytes >>= λ rest. Ok (changing.Edit, rest)))
    by true is = one_word word_text first_letter changing.Remove bytes (is_remove is)
    by false is = one_word word_text first_letter changing.Edit bytes (is_edit is)

-- a change by its word
abbrev word_of : Change → ChangeWord
word_of (Edit e) = changing.Edit
word_of (Remove name) = changing.Remove

abbrev behind_word : Change → List (Rule × List ℕ)
behind_word (Edit e) = edit_elements e
behind_word (Remove name) = named name ∷ []

IsOf : ChangeWord → Change → Type 0
IsOf w c = IsChange c × (word_of c ≡ w)

edits : (c : Change) → IsChange c → word_of c ≡ changing.Edit → (e : FileEdit) × IsEdit e × (c ≡ Edit e)
edits (Edit e) fits is = (e, fits, refl)
edits (Remove name) fits is = absurd cc

removes : (c : Change) → IsChange c → word_of c ≡ changing.Remove → (name : List ℕ) × IsTrue (is_name name) × (c ≡ Remove name)
removes (Edit e) fits is = absurd cc
removes (Remove name) fits is = (name, fits, refl)

after_word_reads : (w : ChangeWord) (bytes : List ℕ) → Reads (IsOf w) behind_word bytes (after_change_word w bytes)
unfolding IsOf
after_word_reads changing.Edit bytes =
    mapped IsEdit edit_elements (IsOf changing.Edit) behind_word (λ e. Edit e) (λ e h. (h, refl)) (λ c h. edits c h.0 h.1) (λ e. refl) bytes (edit_at bytes) (edit_reads bytes)
after_word_reads changing.Remove bytes =
    mapped (λ name. IsTrue (is_name name)) (λ name. named name ∷ []) (IsOf changing.Remove) behind_word (λ name. Remove name) (λ name h. (h, refl)) (λ c h. removes c h.0 h.1) (λ name. refl) bytes (name_at bytes) (name_reads bytes)

some_change : (w : ChangeWord) → Unit {0} → (c : Change) × IsOf w c
unfolding IsOf
some_change changing.Edit h = (Edit (edit_of 0 0 (97 ∷ []) []), (record { place = omega arith; removed = omega arith; put = omega arith; is_named = refl }, refl))
some_change changing.Remove h = (Remove (97 ∷ []), (refl, refl))

elements_of : (c : Change) → (Word, word_text (word_of c)) ∷ behind_word c ≡ change_elements c
elements_of (Edit e) = refl
elements_of (Remove name) = refl

pub change_reads : (bytes : List ℕ) → Reads IsChange change_elements bytes (change_at bytes)
unfolding change_at IsOf
change_reads bytes =
    renamed IsChange (λ c. (Word, word_text (word_of c)) ∷ behind_word c) change_elements bytes (change_at bytes) elements_of
    (after (λ w. Unit {0}) (λ w. (Word, word_text w) ∷ []) IsOf behind_word IsChange word_of
    (λ c h. (tt, (h, refl)))
    (λ w c one h. h)
    some_change
    change_word_at change_word_reads
    (λ word. after_change_word word.0 word.1)
    (λ w rest one. after_word_reads w rest)
    bytes)

-- so many changes
abbrev pub AreSo : ℕ → List Change → Type 0
AreSo n changes = AllSo IsChange n changes

pub changes_reads : (n : ℕ) (bytes : List ℕ) → Reads (AreSo n) (λ changes. flat_map change_elements changes) bytes (changes_at n bytes)
unfolding changes_at
changes_reads n bytes = repeated IsChange change_elements change_at changes_at (λ bytes. refl) (λ n bytes. refl) change_reads n bytes
