-- Reading a command.
use Rattle.std.proofs.Common.{◌≡◌, ℕ, zero, suc, ◌≤◌, Bool, true, false, cond, List, [], ◌∷◌, ◌++◌, length, get_or, refl, sym, ap, subst, arith, ◌⊎◌, inl, inr}
use Rattle.std.specs.Prelude.{Ok, IsTrue, codes}
use Rattle.std.specs.List.{flat_map}
use Rattle.tx_files.specs.Names.{is_name}
use Rattle.tx_files.specs.declared.edit.Edit.{Edit as FileEdit}
use Rattle.tx_files.specs.declared.edit.Change.{Change}
use Rattle.tx_files.specs.declared.edit.Change.TheVariants.{Edit, Remove}
use Rattle.tx_script.specs.declared.command.Command.{Command}
use Rattle.tx_script.specs.declared.command.Command.TheVariants.{Change as Lone, Batch, Save, Locate}
use Rattle.tx_script.specs.declared.command.FilePlace.{FilePlace}
use Rattle.tx_script.specs.declared.element.CommandWord.{CommandWord}
use Rattle.tx_script.specs.declared.element.CommandWord.TheVariants as words
use Rattle.tx_script.specs.declared.error.Rule.{Rule}
use Rattle.tx_script.specs.declared.error.Rule.TheVariants.{Word}
use Rattle.tx_script.specs.Text.{edit_elements, change_elements, batch_elements, counted, place_elements, elements, greatest, named, number, IsEdit, IsBatch, IsPlace, IsCommand}
use Rattle.tx_script.specs.Reading.{◌>>=◌, after_word, batch_at, begins_with, changes_at, command_at, count_at, edit_at, file_place_at, literal_at, name_at, number_at, word_at}
use Rattle.tx_script.proofs.Changes.{edit_of, edit_reads, AreSo, changes_reads}
use Rattle.tx_script.proofs.Counts.{IsCount, count_reads}
use Rattle.tx_script.proofs.Digits.{number_reads}
use Rattle.tx_script.proofs.Forms.{Reads, after, mapped, refit, renamed}
use Rattle.tx_script.proofs.Names.{name_reads}
use Rattle.tx_script.proofs.Words.{begins, begins-not, one_word}

-- a command's word and a space
abbrev pub word_text : CommandWord → List ℕ
word_text words.Edit = codes "edit "
word_text words.Remove = codes "remove "
word_text words.Batch = codes "batch "
word_text words.Save = codes "save "
word_text words.Locate = codes "locate "

first_letter : (v : CommandWord) (rest : List ℕ) → get_or (word_text v ++ rest) 0 0 ≡ get_or (word_text v) 0 0
first_letter words.Edit rest = refl
first_letter words.Remove rest = refl
first_letter words.Batch rest = refl
first_letter words.Save rest = refl
first_letter words.Locate rest = refl

pub word_reads : (bytes : List ℕ) → Reads (λ v. Unit {0}) (λ v. (Word, word_text v) ∷ []) bytes (word_at bytes)
unfolding word_at
word_reads bytes = by (begins_with 115 bytes) (begins_with 98 bytes) (begins_with 114 bytes) (begins_with 108 bytes) refl refl refl refl
  where
    is_save : begins_with 115 bytes ≡ true → (v : CommandWord) → (v ≡ words.Save) ⊎ (get_or bytes 0 0 ≡ get_or (word_text v) 0 0 → ⊥)
    is_save is words.Edit = inr (λ e. let first = begins 115 bytes is in omega arith)
    is_save is words.Remove = inr (λ e. let first = begins 115 bytes is in omega arith)
    is_save is words.Batch = inr (λ e. let first = begins 115 bytes is in omega arith)
    is_save is words.Save = inl refl
    is_save is words.Locate = inr (λ e. let first = begins 115 bytes is in omega arith)

    is_batch : begins_with 98 bytes ≡ true → (v : CommandWord) → (v ≡ words.Batch) ⊎ (get_or bytes 0 0 ≡ get_or (word_text v) 0 0 → ⊥)
    is_batch is words.Edit = inr (λ e. let first = begins 98 bytes is in omega arith)
    is_batch is words.Remove = inr (λ e. let first = begins 98 bytes is in omega arith)
    is_batch is words.Batch = inl refl
    is_batch is words.Save = inr (λ e. let first = begins 98 bytes is in omega arith)
    is_batch is words.Locate = inr (λ e. let first = begins 98 bytes is in omega arith)

    is_remove : begins_with 114 bytes ≡ true → (v : CommandWord) → (v ≡ words.Remove) ⊎ (get_or bytes 0 0 ≡ get_or (word_text v) 0 0 → ⊥)
    is_remove is words.Edit = inr (λ e. let first = begins 114 bytes is in omega arith)
    is_remove is words.Remove = inl refl
    is_remove is words.Batch = inr (λ e. let first = begins 114 bytes is in omega arith)
    is_remove is words.Save = inr (λ e. let first = begins 114 bytes is in omega arith)
    is_remove is words.Locate = inr (λ e. let first = begins 114 bytes is in omega arith)

    is_locate : begins_with 108 bytes ≡ true → (v : CommandWord) → (v ≡ words.Locate) ⊎ (get_or bytes 0 0 ≡ get_or (word_text v) 0 0 → ⊥)
    is_locate is words.Edit = inr (λ e. let first = begins 108 bytes is in omega arith)
    is_locate is words.Remove = inr (λ e. let first = begins 108 bytes is in omega arith)
    is_locate is words.Batch = inr (λ e. let first = begins 108 bytes is in omega arith)
    is_locate is words.Save = inr (λ e. let first = begins 108 bytes is in omega arith)
    is_locate is words.Locate = inl refl

    is_edit : begins_with 115 bytes ≡ false → begins_with 98 bytes ≡ false → begins_with 114 bytes ≡ false → begins_with 108 bytes ≡ false
        → (v : CommandWord) → (v ≡ words.Edit) ⊎ (get_or bytes 0 0 ≡ get_or (word_text v) 0 0 → ⊥)
    is_edit s b r l words.Edit = inl refl
    is_edit s b r l words.Remove = inr (λ e. begins-not 114 bytes (omega arith) r e)
    is_edit s b r l words.Batch = inr (λ e. begins-not 98 bytes (omega arith) b e)
    is_edit s b r l words.Save = inr (λ e. begins-not 115 bytes (omega arith) s e)
    is_edit s b r l words.Locate = inr (λ e. begins-not 108 bytes (omega arith) l e)

    by : (s b r l : Bool) → begins_with 115 bytes ≡ s → begins_with 98 bytes ≡ b → begins_with 114 bytes ≡ r → begins_with 108 bytes ≡ l → Reads (λ v. Unit {0}) (λ v. (Word, word_text v) ∷ []) bytes
        (cond s (literal_at Word (codes "save ") bytes >>= λ rest. Ok (words.Save, rest))
        (cond b (literal_at Word (codes "batch ") bytes >>= λ rest. Ok (words.Batch, rest))
        (cond r (literal_at Word (codes "remove ") bytes >>= λ rest. Ok (words.Remove, rest))
        (cond l (literal_at Word (codes "locate ") bytes >>= λ rest. Ok (words.Locate, rest)) (literal_at Word (codes "edit ") bytes >>= λ rest. Ok (words.Edit, rest))))))
    by true b r l s_is b_is r_is l_is = one_word word_text first_letter words.Save bytes (is_save s_is)
    by false true r l s_is b_is r_is l_is = one_word word_text first_letter words.Batch bytes (is_batch b_is)
    by false false true l s_is b_is r_is l_is = one_word word_text first_letter words.Remove bytes (is_remove r_is)
    by false false false true s_is b_is r_is l_is = one_word word_text first_letter words.Locate bytes (is_locate l_is)
    by false false false false s_is b_is r_is l_is = one_word word_text first_letter words.Edit bytes (is_edit s_is b_is r_is l_is)

-- a batch of so many changes
abbrev Numbering : ℕ → List Change → Type 0
Numbering n changes = IsBatch changes × (length changes ≡ n)

numbering : (n : ℕ) → IsCount n → (changes : List Change) → AreSo n changes → Numbering n changes
numbering n counts changes h = (record { some = subst (λ k. 1 ≤ k) (sym h.1) counts.0; few = subst (λ k. k ≤ 100) (sym h.1) counts.1; each = h.0 }, h.1)

-- as many removals of one file
removals : ℕ → List Change
removals zero = []
removals (suc n) = Remove (97 ∷ []) ∷ removals n

removals_are : (n : ℕ) → AreSo n (removals n)
unfolding removals
removals_are zero = (tt, refl)
removals_are (suc n) = let k = removals_are n in ((refl, k.0), ap suc k.1)

batch_reads : (bytes : List ℕ) → Reads IsBatch batch_elements bytes (batch_at bytes)
unfolding batch_at
batch_reads bytes =
    after IsCount (λ n. counted n ∷ []) Numbering (λ changes. flat_map change_elements changes) IsBatch (λ changes. length changes)
    (λ changes h. ((h.some, h.few), (h, refl)))
    (λ n changes counts h. h)
    (λ n counts. (removals n, numbering n counts (removals n) (removals_are n)))
    count_at count_reads
    (λ count. changes_at count.0 count.1)
    (λ n rest counts. refit (AreSo n) (Numbering n) (λ changes. flat_map change_elements changes) rest (changes_at n rest) (numbering n counts) (λ changes h. (h.0.each, h.1)) (changes_reads n rest))
    bytes

-- a place of a file
abbrev Standing : ℕ → FilePlace → Type 0
Standing place at = IsPlace at × (at.place ≡ place)

abbrev place_of : ℕ → List ℕ → FilePlace
place_of place name = record { name = name; place = place }

after_its_place : (place : ℕ) → place ≤ greatest → (bytes : List ℕ)
    → Reads (Standing place) (λ at. named at.name ∷ []) bytes (name_at bytes >>= λ name. Ok (place_of place name.0, name.1))
after_its_place place hp bytes =
    mapped (λ name. IsTrue (is_name name)) (λ name. named name ∷ []) (Standing place) (λ at. named at.name ∷ []) (λ name. place_of place name)
    (λ name h. (record { place = hp; is_named = h }, refl))
    (λ at h. (at.name, h.0.is_named, λ i. place_of (h.1 i) at.name))
    (λ name. refl) bytes (name_at bytes) (name_reads bytes)

pub place_reads : (bytes : List ℕ) → Reads IsPlace place_elements bytes (file_place_at bytes)
unfolding file_place_at
place_reads bytes =
    after (λ n. n ≤ greatest) (λ n. number n ∷ []) Standing (λ at. named at.name ∷ []) IsPlace (λ at. at.place)
    (λ at h. (h.place, (h, refl)))
    (λ place at hp h. h)
    (λ place hp. (place_of place (97 ∷ []), (record { place = hp; is_named = refl }, refl)))
    number_at number_reads
    (λ place. name_at place.1 >>= λ name. Ok (place_of place.0 name.0, name.1))
    (λ place rest hp. after_its_place place hp rest)
    bytes

-- a command by its word
abbrev word_of : Command → CommandWord
word_of (Lone (Edit e)) = words.Edit
word_of (Lone (Remove name)) = words.Remove
word_of (Batch changes) = words.Batch
word_of (Save name) = words.Save
word_of (Locate at) = words.Locate

abbrev behind_word : Command → List (Rule × List ℕ)
behind_word (Lone (Edit e)) = edit_elements e
behind_word (Lone (Remove name)) = named name ∷ []
behind_word (Batch changes) = batch_elements changes
behind_word (Save name) = named name ∷ []
behind_word (Locate at) = place_elements at

IsOf : CommandWord → Command → Type 0
IsOf w c = IsCommand c × (word_of c ≡ w)

edits : (c : Command) → IsCommand c → word_of c ≡ words.Edit → (e : FileEdit) × IsEdit e × (c ≡ Lone (Edit e))
edits (Lone (Edit e)) fits is = (e, fits, refl)
edits (Lone (Remove name)) fits is = absurd cc
edits (Batch changes) fits is = absurd cc
edits (Save name) fits is = absurd cc
edits (Locate at) fits is = absurd cc

removes : (c : Command) → IsCommand c → word_of c ≡ words.Remove → (name : List ℕ) × IsTrue (is_name name) × (c ≡ Lone (Remove name))
removes (Lone (Edit e)) fits is = absurd cc
removes (Lone (Remove name)) fits is = (name, fits, refl)
removes (Batch changes) fits is = absurd cc
removes (Save name) fits is = absurd cc
removes (Locate at) fits is = absurd cc

batches : (c : Command) → IsCommand c → word_of c ≡ words.Batch → (changes : List Change) × IsBatch changes × (c ≡ Batch changes)
batches (Lone (Edit e)) fits is = absurd cc
batches (Lone (Remove name)) fits is = absurd cc
batches (Batch changes) fits is = (changes, fits, refl)
batches (Save name) fits is = absurd cc
batches (Locate at) fits is = absurd cc

saves : (c : Command) → IsCommand c → word_of c ≡ words.Save → (name : List ℕ) × IsTrue (is_name name) × (c ≡ Save name)
saves (Lone (Edit e)) fits is = absurd cc
saves (Lone (Remove name)) fits is = absurd cc
saves (Batch changes) fits is = absurd cc
saves (Save name) fits is = (name, fits, refl)
saves (Locate at) fits is = absurd cc

locates : (c : Command) → IsCommand c → word_of c ≡ words.Locate → (at : FilePlace) × IsPlace at × (c ≡ Locate at)
locates (Lone (Edit e)) fits is = absurd cc
locates (Lone (Remove name)) fits is = absurd cc
locates (Batch changes) fits is = absurd cc
locates (Save name) fits is = absurd cc
locates (Locate at) fits is = (at, fits, refl)

after_word_reads : (w : CommandWord) (bytes : List ℕ) → Reads (IsOf w) behind_word bytes (after_word w bytes)
unfolding IsOf
after_word_reads words.Edit bytes =
    mapped IsEdit edit_elements (IsOf words.Edit) behind_word (λ e. Lone (Edit e)) (λ e h. (h, refl)) (λ c h. edits c h.0 h.1) (λ e. refl) bytes (edit_at bytes) (edit_reads bytes)
after_word_reads words.Remove bytes =
    mapped (λ name. IsTrue (is_name name)) (λ name. named name ∷ []) (IsOf words.Remove) behind_word (λ name. Lone (Remove name)) (λ name h. (h, refl)) (λ c h. removes c h.0 h.1) (λ name. refl) bytes (name_at bytes) (name_reads bytes)
after_word_reads words.Batch bytes =
    mapped IsBatch batch_elements (IsOf words.Batch) behind_word (λ changes. Batch changes) (λ changes h. (h, refl)) (λ c h. batches c h.0 h.1) (λ changes. refl) bytes (batch_at bytes) (batch_reads bytes)
after_word_reads words.Save bytes =
    mapped (λ name. IsTrue (is_name name)) (λ name. named name ∷ []) (IsOf words.Save) behind_word (λ name. Save name) (λ name h. (h, refl)) (λ c h. saves c h.0 h.1) (λ name. refl) bytes (name_at bytes) (name_reads bytes)
after_word_reads words.Locate bytes =
    mapped IsPlace place_elements (IsOf words.Locate) behind_word (λ at. Locate at) (λ at h. (h, refl)) (λ c h. locates c h.0 h.1) (λ at. refl) bytes (file_place_at bytes) (place_reads bytes)

some_command : (w : CommandWord) → Unit {0} → (c : Command) × IsOf w c
unfolding IsOf
some_command words.Edit h = (Lone (Edit (edit_of 0 0 (97 ∷ []) [])), (record { place = omega arith; removed = omega arith; put = omega arith; is_named = refl }, refl))
some_command words.Remove h = (Lone (Remove (97 ∷ [])), (refl, refl))
some_command words.Batch h = (Batch (Remove (97 ∷ []) ∷ []), (record { some = omega arith; few = omega arith; each = (refl, tt) }, refl))
some_command words.Save h = (Save (97 ∷ []), (refl, refl))
some_command words.Locate h = (Locate (place_of 0 (97 ∷ [])), (record { place = omega arith; is_named = refl }, refl))

elements_of : (c : Command) → (Word, word_text (word_of c)) ∷ behind_word c ≡ elements c
elements_of (Lone (Edit e)) = refl
elements_of (Lone (Remove name)) = refl
elements_of (Batch changes) = refl
elements_of (Save name) = refl
elements_of (Locate at) = refl

pub command_reads : (bytes : List ℕ) → Reads IsCommand elements bytes (command_at bytes)
unfolding command_at IsOf
command_reads bytes =
    renamed IsCommand (λ c. (Word, word_text (word_of c)) ∷ behind_word c) elements bytes (command_at bytes) elements_of
    (after (λ w. Unit {0}) (λ w. (Word, word_text w) ∷ []) IsOf behind_word IsCommand word_of
    (λ c h. (tt, (h, refl)))
    (λ w c one h. h)
    some_command
    word_at word_reads
    (λ word. after_word word.0 word.1)
    (λ w rest one. after_word_reads w rest)
    bytes)
