-- What is read of a DVI file, from a source that tells what it holds or doesn't.
use Rattle.std.proofs.Common.{◌≡◌, ℕ, List, Option, Some, None, Result, refl, sym, ap, ◌∙◌, subst}
use Rattle.std.specs.Prelude.{IfSome}
use Rattle.std.specs.FinMap.{empty, insert, get-empty}
use Rattle.tx_bytes.specs.Files.{Files, content}
use Rattle.tx_dvitype.specs.declared.error.DviRule.{DviRule}
use Rattle.tx_dvitype.specs.declared.reader.ReadPage.{ReadPage}
use Rattle.tx_io.specs.Output.{Output}
use Rattle.tx_call.specs.declared.listed.Listed.{Listed}
use Rattle.tx_call.specs.declared.listed.Listed.TheVariants.{Brings, Stops}
use Rattle.tx_call.specs.declared.trouble.Interruption.{Interruption}
use Rattle.tx_call.specs.Listing.{HasNoPages, HoldsNoDvi, IsListed, NamesNoDvi, ReadsDvi, listed_as}
use Rattle.tx_call.specs.Outcome.{ForHeld, listing}
use Rattle.tx_call.specs.Trouble.{Does}
use Rattle.tx_call.proofs.Held.{for_held}
use Rattle.tx_call.proofs.ListedFiles.{content-same}

-- where the source tells nothing, it may be taken to hold just what it gave
for_content : (holds : Option Files) (name : List ℕ) (bytes : Option (List ℕ)) → IfSome holds (λ held. content held name ≡ bytes) → ForHeld holds (λ held. content held name ≡ bytes)
for_content (Some held) name bytes told = record { held = held; are_told = refl; so = told }
for_content None name None told = record { held = empty; are_told = tt; so = get-empty _ name }
for_content None name (Some bytes) told = record { held = insert empty name bytes; are_told = tt; so = content-same empty name bytes }

-- what is done of what was read is done of what the source holds
pub listed_does : (holds : Option Files) (name : List ℕ) (listed : Listed) {r : Result ℕ Interruption} {before after : Option Output} {steps steps' : ℕ} → ReadsDvi holds name listed → Does r (listing listed) before after steps steps'
    → ForHeld holds (λ held. Does r (listing (listed_as (content held name))) before after steps steps')
listed_does holds name listed {r = r} {before = before} {after = after} {steps = steps} {steps' = steps'} reads does =
    for_held (for_content holds name reads.bytes reads.are_told)
    (λ held is. subst (λ (l : Listed). Does r (listing l) before after steps steps') (reads.reading ∙ ap listed_as (sym is)) does)

-- a file that was refused is none
refused_none : (bytes : Option (List ℕ)) (place : ℕ) (rule : DviRule) → IsListed bytes (Stops place rule) → HasNoPages bytes
refused_none None place rule is = tt
refused_none (Some bytes) place rule is = is.none

pub names_none : (holds : Option Files) (name : List ℕ) (place : ℕ) (rule : DviRule) → ReadsDvi holds name (Stops place rule) → NamesNoDvi holds (Some name)
names_none holds name place rule reads = record { name = name; named = refl; bytes = reads.bytes; are_told = reads.are_told; none = refused_none reads.bytes place rule reads.is_so }

-- and one that brings pages is one
brought_some : (bytes : Option (List ℕ)) (pages : List ReadPage) → IsListed bytes (Brings pages) → HasNoPages bytes → ⊥
brought_some None pages is none = is
brought_some (Some bytes) pages is none = none pages is

pub brings_some : (holds : Option Files) (name : List ℕ) (pages : List ReadPage) → ReadsDvi holds name (Brings pages) → HoldsNoDvi holds (Some name) → ⊥
brings_some holds name pages reads hold =
    let named : Some name ≡ Some hold.name = hold.named in
    let same : hold.name ≡ name = cc in
    let told : content hold.held name ≡ reads.bytes = subst (λ (o : Option Files). IfSome o (λ held. content held name ≡ reads.bytes)) hold.told reads.are_told in
    brought_some reads.bytes pages reads.is_so (subst (λ (bytes : Option (List ℕ)). HasNoPages bytes) (ap (λ (n : List ℕ). content hold.held n) same ∙ told) hold.none)
