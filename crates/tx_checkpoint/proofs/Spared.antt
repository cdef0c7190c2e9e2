-- What a list of changes leaves of the sights of a turn, it leaves of the replies in it.
use Rattle.std.proofs.Common.{◌≡◌, true, List, [], ◌∷◌, take, Some, refl, sym, ap, ◌∙◌, subst, unwrap_or}
use Rattle.std.proofs.lemmas.Bool.{and_parts}
use Rattle.tx_bytes.specs.Files.{Files}
use Rattle.tx_files.specs.Changes.{fits, changed, all_fit, all_changed}
use Rattle.tx_files.specs.declared.edit.Change.{Change}
use Rattle.tx_files.specs.declared.edit.Change.TheVariants.{Edit, Remove}
use Rattle.tx_event.specs.declared.types.Ask.{Ask}
use Rattle.tx_machine.specs.declared.types.OpenFile.{OpenFile}
use Rattle.tx_machine.specs.Notes.{notes_of}
use Rattle.tx_machine.specs.Opens.{bytes_of, innermost}
use Rattle.tx_checkpoint.proofs.Untouched.{AreLeftBy, AreLeft}
use Rattle.tx_checkpoint.proofs.Edited.{SameAsk, edited-is, same-ask, same-read}
use Rattle.tx_checkpoint.proofs.Removed.{removed-others, same-removed}
use Rattle.tx_checkpoint.proofs.Within.{IsWithin, AreWithin, within-innermost}

-- replies whose sights are left are the same, and so are the bytes that were read of the innermost file
pub record Spared (before after : Files) (changes : List Change) : Type 0 where
  pub asks : (opens : List OpenFile) (ask : Ask) → AreLeft changes (notes_of before opens ask) → SameAsk before after opens ask
  pub reads : (opens : List OpenFile) (file : OpenFile) → innermost opens ≡ Some file → AreWithin changes opens → take file.offset (bytes_of after file.name) ≡ take file.offset (bytes_of before file.name)

-- one change
one_ask : (c : Change) (files : Files) → fits files c ≡ true → (opens : List OpenFile) (ask : Ask) → AreLeftBy c (notes_of files opens ask) → SameAsk files (changed files c) opens ask
one_ask (Edit e) files fit opens ask left = same-ask (edited-is files e fit) opens ask left
one_ask (Remove gone) files fit opens ask left = same-removed files gone opens ask left

one_read : (c : Change) (files : Files) → fits files c ≡ true → (file : OpenFile) → IsWithin c file → take file.offset (bytes_of (changed files c) file.name) ≡ take file.offset (bytes_of files file.name)
one_read (Edit e) files fit file within = same-read (edited-is files e fit) file.name file.offset within
one_read (Remove gone) files fit file within = ap (λ held. take file.offset (unwrap_or held [])) (removed-others files gone file.name within)

-- the same sights are left of the files after a change
pub spared-all : (changes : List Change) (files : Files) → all_fit files changes ≡ true → Spared files (all_changed files changes) changes
spared-all [] files fit = record { asks = λ opens ask left. record { reply = refl; notes = refl }; reads = λ opens file is within. refl }
spared-all (c ∷ changes) files fit =
    let parts = and_parts (fits files c) (all_fit (changed files c) changes) fit in
    let rest : Spared (changed files c) (all_changed (changed files c) changes) changes = spared-all changes (changed files c) parts.1 in
    record {
      asks = λ opens ask left.
          (let one : SameAsk files (changed files c) opens ask = one_ask c files parts.0 opens ask left.0 in
          let more : SameAsk (changed files c) (all_changed (changed files c) changes) opens ask = rest.asks opens ask (subst (AreLeft changes) (sym one.notes) left.1) in
          record { reply = more.reply ∙ one.reply; notes = more.notes ∙ one.notes });
      reads = λ opens file is within. rest.reads opens file is within.1 ∙ one_read c files parts.0 file (within-innermost (IsWithin c) opens file is within.0);
    }
