-- A script's file has one reading.
use Rattle.std.proofs.Common.{◌≡◌, ℕ, ◌<◌, flat_map, List, [], ◌∷◌, ◌++◌, take, Option, Some, None, refl, sym, ap, ◌∙◌, subst, arith, append-nil}
use Rattle.std.specs.Prelude.{codes, IfSome}
use Rattle.std.proofs.lemmas.Grind.{flat_map-append}
use Rattle.tx_bytes.specs.Files.{Files, content}
use Rattle.tx_script.specs.declared.command.Command.{Command}
use Rattle.tx_script.specs.declared.command.Command.TheVariants.{Save}
use Rattle.tx_script.specs.declared.error.Rule.{Rule}
use Rattle.tx_script.specs.declared.error.Rule.TheVariants.{File}
use Rattle.tx_script.specs.Text.{bytes_of, elements, text, IsScript, IsTextOf, IsNextRule, IsRefusal}
use Rattle.tx_call.specs.declared.scripted.Scripted.{Scripted}
use Rattle.tx_call.specs.declared.scripted.Scripted.TheVariants.{Plays, Refused}
use Rattle.tx_call.specs.Scripts.{IsReading, Reads, HasNoScript, NamesNoScript, HoldsNoScript}

-- a script with one command more
abbrev saved : Command
saved = Save (codes "a")

script-more : (script : List Command) → IsScript script → IsScript (script ++ saved ∷ [])
script-more [] all = (refl, tt)
script-more (c ∷ script) all = (all.0, script-more script all.1)

text-more : (script : List Command) → text (script ++ saved ∷ []) ≡ text script ++ codes "save a\n"
text-more script = ap bytes_of (flat_map-append elements script (saved ∷ [])) ∙ flat_map-append (λ e. e.1) (flat_map elements script) (elements saved)

same_some : (a b : Rule) → Some a ≡ Some b → a ≡ b
same_some a b same = cc

-- what comes next after the front of a script is of one rule
one_rule : (front : List ℕ) (a b : Rule) → IsNextRule front a → IsNextRule front b → (script : List Command) (more : List ℕ) → IsTextOf (front ++ more) script → a ≡ b
one_rule front a b next next' script (c ∷ more) is = same_some a b (sym (next script c more is) ∙ next' script c more is)
one_rule front a b next next' script [] is =
    let longer : IsTextOf (front ++ codes "save a\n") (script ++ saved ∷ []) =
    (script-more script is.0, ap (λ t. t ++ codes "save a\n") (sym (append-nil front) ∙ is.1) ∙ sym (text-more script)) in
    same_some a b (sym (next (script ++ saved ∷ []) 115 (codes "ave a\n") longer) ∙ next' (script ++ saved ∷ []) 115 (codes "ave a\n") longer)

-- and it comes at one place
one_place : (bytes : List ℕ) (p q : ℕ) (a b : Rule) → IsRefusal bytes p a → IsRefusal bytes q b → p ≡ q
one_place bytes p q a b first second = go p q (λ less. first.furthest.no_further q less second.furthest.within second.furthest.begins) (λ less. second.furthest.no_further p less first.furthest.within first.furthest.begins)
  where
    go : (p q : ℕ) → (p < q → ⊥) → (q < p → ⊥) → p ≡ q
    go p q before behind = omega arith

one_refusal : (bytes : List ℕ) (p q : ℕ) (a b : Rule) → IsRefusal bytes p a → IsRefusal bytes q b → Refused q b ≡ Refused p a
one_refusal bytes p q a b first second =
    let same : q ≡ p = one_place bytes q p b a second first in
    let next : IsNextRule (take p bytes) b = subst (λ (n : ℕ). IsNextRule (take n bytes) b) same second.next in
    let begins = first.furthest.begins in
    λ i. Refused (same i) (one_rule (take p bytes) b a next first.next begins.0 begins.1 begins.2 i)

pub only_plays : (bytes : List ℕ) (commands : List Command) → ((other : List Command) → IsTextOf bytes other → commands ≡ other) → IsTextOf bytes commands → (other : Scripted) → IsReading (Some bytes) other → other ≡ Plays commands
only_plays bytes commands only is (Plays other) reading = ap Plays (sym (only other reading))
only_plays bytes commands only is (Refused place rule) reading = absurd (reading.none commands is)

pub only_refused : (bytes : List ℕ) (place : ℕ) (rule : Rule) → IsRefusal bytes place rule → (other : Scripted) → IsReading (Some bytes) other → other ≡ Refused place rule
only_refused bytes place rule is (Plays other) reading = absurd (is.none other reading)
only_refused bytes place rule is (Refused place' rule') reading = one_refusal bytes place place' rule rule' is reading

no_script_of : (bytes : Option (List ℕ)) (place : ℕ) (rule : Rule) → IsReading bytes (Refused place rule) → HasNoScript bytes
no_script_of None place rule is = tt
no_script_of (Some bytes) place rule is = is.none

-- where a script is refused, the words name a file that is none
pub names_none : {holds : Option Files} (script : Option (List ℕ)) (place : ℕ) (rule : Rule) → Reads holds script (Refused place rule) → NamesNoScript holds script
names_none None place rule is = absurd (let no : Refused place rule ≡ Plays [] = is in cc)
names_none (Some name) place rule is = record { name = name; named = refl; bytes = is.bytes; are_told = is.are_told; none = no_script_of is.bytes place rule is.reading }

has_script : (bytes : Option (List ℕ)) (commands : List Command) → IsReading bytes (Plays commands) → HasNoScript bytes → ⊥
has_script None commands is none = let no : Plays commands ≡ Refused 0 File = is in cc
has_script (Some bytes) commands is none = none commands is

told_content : (holds : Option Files) (held : Files) (name : List ℕ) (bytes : Option (List ℕ)) → holds ≡ Some held → IfSome holds (λ held. content held name ≡ bytes) → content held name ≡ bytes
told_content holds held name bytes told are = let are_some : IfSome (Some held) (λ held. content held name ≡ bytes) = subst (λ (h : Option Files). IfSome h (λ held. content held name ≡ bytes)) told are in are_some

same_name : (a b : List ℕ) → Some a ≡ Some b → a ≡ b
same_name a b same = cc

-- and where it is read, they don't
pub plays_some : {holds : Option Files} (script : Option (List ℕ)) (commands : List Command) → Reads holds script (Plays commands) → HoldsNoScript holds script → ⊥
plays_some None commands is none = let no : None ≡ Some none.name = none.named in cc
plays_some {holds = holds} (Some name) commands is none =
    let same : name ≡ none.name = same_name name none.name none.named in
    let are : content none.held name ≡ is.bytes = told_content holds none.held name is.bytes none.told is.are_told in
    has_script is.bytes commands is.reading (subst HasNoScript (ap (content none.held) (sym same) ∙ are) none.none)
