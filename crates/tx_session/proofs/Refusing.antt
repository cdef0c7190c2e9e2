-- What a list of changes is answered, one change that is all of a list, and an edit that is.
use Rattle.std.proofs.Common.{◌≡◌, ℕ, Bool, true, false, cond, ◌&&◌, List, [], ◌∷◌, Option, Some, None, Result, Ok, Err, refl, sym, ap, ◌∙◌, subst, true≢false}
use Rattle.std.specs.Result.{IsErrAnd}
use Rattle.tx_bytes.specs.Files.{Files}
use Rattle.tx_files.specs.Changes.{name_of, fits, all_fit, IsAnswerToAll, IsOutside as IsPast}
use Rattle.tx_files.specs.Edits.{fits_in, length_of}
use Rattle.tx_files.specs.declared.before.Before.{Before}
use Rattle.tx_files.specs.declared.edit.BatchRefusal.{BatchRefusal}
use Rattle.tx_files.specs.declared.edit.BatchRefusal.TheVariants as lists
use Rattle.tx_files.specs.declared.edit.Change.{Change}
use Rattle.tx_files.specs.declared.edit.Change.TheVariants.{Edit}
use Rattle.tx_files.specs.declared.edit.Edit.{Edit as FileEdit}
use Rattle.tx_machine.specs.Machine.{Formatter}
use Rattle.tx_session.specs.Held.{Held}
use Rattle.tx_session.specs.Report.{work, turns_of_changes, turns_of_edit}
use Rattle.tx_session.specs.Refusals.{refused, past_end, past_end_alone, may_want, IsEditAnswer, IsBatchAnswer}
use Rattle.tx_session.specs.declared.refusal.Refusal.{Refusal}
use Rattle.tx_session.specs.declared.refusal.Refusal.TheVariants.{Outside, OutOfMemory, BatchOutside}

-- how long the file of an edit is, as the files tell it
pub outside-is : (files : Files) (e : FileEdit) (found : Option ℕ) → IsPast files e found → found ≡ past_end files (Edit e)
outside-is files e None fit = sym (ap (λ b. cond b None (Some (length_of files e.name))) fit)
outside-is files e (Some len) out = ap Some out.1 ∙ sym (ap (λ b. cond b None (Some (length_of files e.name))) out.0)

-- one change alone goes past the end of its file
goes_past : (b : Bool) (n len : ℕ) → cond b None (Some n) ≡ Some len → (b ≡ false) × (n ≡ len)
goes_past true n len is = absurd (let no : ◌≡◌ {A = Option ℕ} None (Some len) = is in cc)
goes_past false n len is = (refl, (let same : Some n ≡ Some len = is in cc))

pub alone-refused : (T : Type 0) (files : Files) (changes : List Change) (len : ℕ) → past_end_alone files changes ≡ Some len → IsBatchAnswer {T = T} files changes (Err (BatchOutside 1 len))
alone-refused T files [] len is = absurd (let no : ◌≡◌ {A = Option ℕ} None (Some len) = is in cc)
alone-refused T files (c ∷ []) len is =
    let past : (fits files c ≡ false) × (length_of files (name_of c) ≡ len) = goes_past (fits files c) (length_of files (name_of c)) len is in
    (ap (λ b. b && true) past.0, ap (λ b. cond b None (Some (1, length_of files (name_of c)))) past.0 ∙ ap (λ n. Some (1, n)) past.1)
alone-refused T files (c ∷ d ∷ changes) len is = absurd (let no : ◌≡◌ {A = Option ℕ} None (Some len) = is in cc)

-- it doesn't, or there are other changes
goes_within : (b : Bool) (n : ℕ) → cond b None (Some n) ≡ None → b ≡ true
goes_within true n is = refl
goes_within false n is = absurd (let no : ◌≡◌ {A = Option ℕ} (Some n) None = is in cc)

pub alone-wants : (files : Files) (changes : List Change) → past_end_alone files changes ≡ None → may_want files changes ≡ true
alone-wants files [] is = refl
alone-wants files (c ∷ []) is = goes_within (fits files c) (length_of files (name_of c)) is
alone-wants files (c ∷ d ∷ changes) is = refl

-- a list that can be made
alone_fits : (b : Bool) → (b && true) ≡ true → b ≡ true
alone_fits true fit = refl
alone_fits false fit = fit

pub fit-wants : (files : Files) (changes : List Change) → all_fit files changes ≡ true → may_want files changes ≡ true
fit-wants files [] fit = refl
fit-wants files (c ∷ []) fit = alone_fits (fits files c) fit
fit-wants files (c ∷ d ∷ changes) fit = refl

-- as the files are answered, so is the batch
refused_so : (T : Type 0) (files : Files) (changes : List Change) (refusal : BatchRefusal) → may_want files changes ≡ true → IsAnswerToAll {T = Before} files changes (Err refusal) → IsBatchAnswer {T = T} files changes (Err (refused refusal))
refused_so T files changes (lists.Outside index len) wants answer = answer
refused_so T files changes lists.OutOfMemory wants answer = wants

pub files-refused : {T : Type 0} (files : Files) (changes : List Change) (r : Result T Refusal) (refusal : BatchRefusal) → IsErrAnd r (λ x. x ≡ refused refusal) → may_want files changes ≡ true → IsAnswerToAll {T = Before} files changes (Err refusal)
    → IsBatchAnswer files changes r
files-refused files changes (Ok value) refusal same wants answer = absurd same
files-refused {T = T} files changes (Err x) refusal same wants answer = subst (λ (y : Refusal). IsBatchAnswer {T = T} files changes (Err y)) (sym same) (refused_so T files changes refusal wants answer)

stays_refused : (T U : Type 0) (files : Files) (changes : List Change) (refusal : Refusal) → IsBatchAnswer {T = T} files changes (Err refusal) → IsBatchAnswer {T = U} files changes (Err refusal)
stays_refused T U files changes (Outside len) answer = answer
stays_refused T U files changes OutOfMemory answer = answer
stays_refused T U files changes (BatchOutside index len) answer = answer

pub batch-refused : {T : Type 0} (files : Files) (changes : List Change) (r : Result T Refusal) (refusal : Refusal) → IsErrAnd r (λ x. x ≡ refusal) → IsBatchAnswer {T = Before} files changes (Err refusal) → IsBatchAnswer files changes r
batch-refused files changes (Ok value) refusal same answer = absurd same
batch-refused {T = T} files changes (Err x) refusal same answer = subst (λ (y : Refusal). IsBatchAnswer {T = T} files changes (Err y)) (sym same) (stays_refused Before T files changes refusal answer)

-- an edit that fits is answered as the list of it alone
pub edit-answer : {T : Type 0} (files : Files) (e : FileEdit) (r : Result T Refusal) → fits_in files e ≡ true → IsBatchAnswer files (Edit e ∷ []) r → IsEditAnswer files e r
edit-answer files e (Ok value) fit answer = fit
edit-answer files e (Err (Outside len)) fit answer = absurd answer
edit-answer files e (Err OutOfMemory) fit answer = fit
edit-answer files e (Err (BatchOutside index len)) fit answer = absurd (true≢false (sym (ap (λ b. b && true) fit) ∙ answer.0))

-- and for want of memory only where it fits
pub edit-memory : {T : Type 0} (files : Files) (e : FileEdit) (r : Result T Refusal) → IsErrAnd r (λ x. x ≡ OutOfMemory) → fits_in files e ≡ true → IsEditAnswer files e r
edit-memory files e (Ok value) same fit = absurd same
edit-memory {T = T} files e (Err x) same fit = subst (λ (y : Refusal). IsEditAnswer {T = T} files e (Err y)) (sym same) fit

-- the turns of a list that can be made, and of one that is an edit
pub made-turns : {S : Type 0} (m : Formatter S) (held : Held) (changes : List Change) → all_fit held.files changes ≡ true → work m held changes ≡ turns_of_changes m held changes
made-turns m held changes fit = sym (ap (λ b. cond b (work m held changes) 0) fit)

pub edit-turns : {S : Type 0} (m : Formatter S) (held : Held) (e : FileEdit) → turns_of_changes m held (Edit e ∷ []) ≡ turns_of_edit m held e
edit-turns m held e = by (fits_in held.files e)
  where
    by : (b : Bool) → cond (b && true) (work m held (Edit e ∷ [])) 0 ≡ cond b (work m held (Edit e ∷ [])) 0
    by true = refl
    by false = refl
