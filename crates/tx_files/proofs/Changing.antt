-- The changes of a list that were made so far, and those that are left, are all of them; and a list that is one edit.
use Rattle.std.proofs.Common.{◌≡◌, ℕ, ◌+◌, ◌<◌, ◌≤◌, ◌^◌, true, cond, ◌&&◌, List, [], ◌∷◌, length, drop, get_or, Some, None, Result, Ok, Err, refl, sym, ap, subst, ◌∙◌}
use Rattle.std.specs.Prelude.{OnOk}
use Rattle.std.proofs.lemmas.List.{drop_more, drop_all}
use Rattle.tx_bytes.specs.Files.{Files}
use Rattle.tx_files.specs.Edits.{length_of, fits_in, edited, IsAnswerTo}
use Rattle.tx_files.specs.Changes.{name_of, fits, changed, all_fit, all_changed, outside_from, AreSmall, numbered, IsAnswerToOne, IsAnswerToAll}
use Rattle.tx_files.specs.declared.edit.Edit.{Edit as FileEdit}
use Rattle.tx_files.specs.declared.edit.Change.{Change}
use Rattle.tx_files.specs.declared.edit.Change.TheVariants.{Edit}
use Rattle.tx_files.specs.declared.edit.Refusal.{Refusal}
use Rattle.tx_files.specs.declared.edit.Refusal.TheVariants as edits
use Rattle.tx_files.specs.declared.edit.BatchRefusal.{BatchRefusal}
use Rattle.tx_files.specs.declared.edit.BatchRefusal.TheVariants.{Outside, OutOfMemory}

pub record Changing (begun here : Files) (changes : List Change) (k : ℕ) : Type 0 where
  pub fit : all_fit here (drop k changes) ≡ all_fit begun changes
  pub at : outside_from (k + 1) here (drop k changes) ≡ outside_from 1 begun changes
  pub made : all_changed here (drop k changes) ≡ all_changed begun changes
  pub small : AreSmall here (drop k changes) → AreSmall begun changes

pub changing-begun : (files : Files) (changes : List Change) → Changing files files changes 0
changing-begun files changes = record { fit = refl; at = refl; made = refl; small = λ are. are }

module _ {begun here : Files} {changes : List Change} {k : ℕ} (so_far : Changing begun here changes k) where
  -- the next change
  module _ {c : Change} (more : k < length changes) (is : c ≡ get_or changes k c) where
    abbrev rest : List Change
    rest = drop (k + 1) changes

    left : drop k changes ≡ c ∷ rest
    left = drop_more changes k c more ∙ ap (λ x. x ∷ drop (k + 1) changes) (sym is)

    -- it was made
    pub changing-on : {next : Files} → fits here c ≡ true → next ≡ changed here c → length_of next (name_of c) < 2 ^ 64 → Changing begun next changes (k + 1)
    changing-on {next = next} fit made small = record {
      fit = ap (λ files. all_fit files rest) made ∙ sym (ap (λ b. b && all_fit (changed here c) rest) fit) ∙ sym (ap (all_fit here) left) ∙ so_far.fit;
      at = ap (λ files. outside_from (k + 1 + 1) files rest) made
          ∙ sym (ap (λ b. cond b (outside_from (k + 1 + 1) (changed here c) rest) (Some (k + 1, length_of here (name_of c)))) fit)
          ∙ sym (ap (outside_from (k + 1) here) left) ∙ so_far.at;
      made = ap (λ files. all_changed files rest) made ∙ sym (ap (all_changed here) left) ∙ so_far.made;
      small = λ later. so_far.small (subst (AreSmall here) (sym left)
          (subst (λ files. length_of files (name_of c) < 2 ^ 64) made small, subst (λ files. AreSmall files rest) made later));
    }

    -- it was refused
    pub changing-stops : (T U : Type 0) (refusal : BatchRefusal) → IsAnswerToOne {T = T} here c (k + 1) (Err refusal) → IsAnswerToAll {T = U} begun changes (Err refusal)
    changing-stops T U (Outside index len) answer = (
      sym so_far.fit ∙ ap (all_fit here) left ∙ ap (λ b. b && all_fit (changed here c) rest) answer.0,
      sym so_far.at ∙ ap (outside_from (k + 1) here) left
          ∙ ap (λ b. cond b (outside_from (k + 1 + 1) (changed here c) rest) (Some (k + 1, length_of here (name_of c)))) answer.0
          ∙ (λ i. Some (sym answer.1 i, sym answer.2 i)),
    )
    changing-stops T U OutOfMemory answer = tt

  -- all were made
  module _ (past : length changes ≤ k) where
    none : drop k changes ≡ []
    none = drop_all k changes past

    pub changing-fits : (all_fit begun changes ≡ true) × (outside_from 1 begun changes ≡ None)
    changing-fits = (sym so_far.fit ∙ ap (all_fit here) none, sym so_far.at ∙ ap (outside_from (k + 1) here) none)

    pub changing-made : here ≡ all_changed begun changes
    changing-made = sym (ap (all_changed here) none) ∙ so_far.made

    pub changing-small : AreSmall begun changes
    changing-small = so_far.small (subst (AreSmall here) (sym none) tt)

-- an edit that is the change of a number
pub edit-answer : (T U : Type 0) (files : Files) (e : FileEdit) (number : ℕ) (refusal : Refusal) → IsAnswerTo {T = T} files e (Err refusal) → IsAnswerToOne {T = U} files (Edit e) number (Err (numbered number refusal))
edit-answer T U files e number (edits.Outside len) answer = (answer.0, refl, answer.1)
edit-answer T U files e number edits.OutOfMemory answer = tt

-- an edit that is all of a list
pub alone-refused : (T U : Type 0) (files : Files) (e : FileEdit) (refusal : Refusal) → IsAnswerTo {T = T} files e (Err refusal) → IsAnswerToAll {T = U} files (Edit e ∷ []) (Err (numbered 1 refusal))
alone-refused T U files e (edits.Outside len) answer = (
  ap (λ b. b && true) answer.0,
  ap (λ b. cond b None (Some (1, length_of files e.name))) answer.0 ∙ ap (λ n. Some (1, n)) (sym answer.1),
)
alone-refused T U files e edits.OutOfMemory answer = tt

pub alone-fits : (files : Files) (e : FileEdit) → fits_in files e ≡ true → (all_fit files (Edit e ∷ []) ≡ true) × (outside_from 1 files (Edit e ∷ []) ≡ None)
alone-fits files e fit = (ap (λ b. b && true) fit, ap (λ b. cond b None (Some (1, length_of files e.name))) fit)

-- where both are so of what was made, a third is
pub on-both : {T E : Type 0} (r : Result T E) {P Q R : Type 0} → (P → Q → R) → OnOk r P → OnOk r Q → OnOk r R
on-both (Ok x) f p q = f p q
on-both (Err x) f p q = tt

pub alone-small : (files after : Files) (e : FileEdit) → after ≡ edited files e → length_of after e.name < 2 ^ 64 → AreSmall files (Edit e ∷ [])
alone-small files after e is small = (subst (λ f. length_of f e.name < 2 ^ 64) is small, tt)
