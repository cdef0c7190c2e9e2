-- To pass over the spaces that a text begins with is to take plain turns.
use Rattle.std.proofs.Common.{◌≡◌, ℕ, zero, suc, ◌∷◌, List, drop, Result, Ok, Err, refl, sym, ap, ◌∙◌, subst}
use Rattle.std.specs.Prelude.{OnErr}
use Rattle.tx_dvi.specs.declared.page.DateParameters.{DateParameters}
use Rattle.tx_machine.specs.Plain.{ArePlain, IsPlain}
use Rattle.line_machine.specs.declared.state.Phase.TheVariants.{Reads}
use Rattle.line_machine.specs.declared.state.State.{State}
use Rattle.line_machine.specs.State.{Meaning, meaning_of}
use Rattle.line_machine.specs.Turns.{line_machine, reads, HasSpaces}

-- the state in which this is left of a line
abbrev pub behind : DateParameters → List ℕ → Meaning
behind date text = record { date = date; phase = Reads text }

space-plain : (date : DateParameters) (text rest : List ℕ) → text ≡ 32 ∷ rest → IsPlain line_machine (behind date text) (behind date rest)
unfolding line_machine
space-plain date text rest is = record {
  costs = refl;
  went = ap (λ t. (reads (behind date text) t).event) is;
  silent = ap (λ t. (reads (behind date text) t).said) is;
  next = ap (λ t. (reads (behind date text) t).next) is;
}

pub spaces-plain : (date : DateParameters) (text : List ℕ) (count : ℕ) → HasSpaces text count → ArePlain line_machine count (behind date text) (behind date (drop count text))
spaces-plain date text zero spaces = refl
spaces-plain date text (suc more) spaces = (behind date (drop more text), (spaces-plain date text more spaces.0, space-plain date (drop more text) (drop (suc more) text) spaces.1))

-- so it is in a state that reads a text, of which this is left behind them
pub passed-plain : (s : State) (text slice rest : List ℕ) (count : ℕ) → s.phase ≡ Reads text → slice ≡ text → HasSpaces slice count → rest ≡ drop count slice → ArePlain line_machine count (meaning_of s) (behind s.date rest)
passed-plain s text slice rest count reads is spaces left =
    let from : behind s.date slice ≡ meaning_of s = λ i. record { date = s.date; phase = (ap Reads is ∙ sym reads) i } in
    subst (λ (to : List ℕ). ArePlain line_machine count (meaning_of s) (behind s.date to)) (sym left)
    (subst (λ (at : Meaning). ArePlain line_machine count at (behind s.date (drop count slice))) from (spaces-plain s.date slice count spaces))

pub on-err : {T E P : Type 0} (r : Result T E) → P → OnErr r P
on-err (Ok t) p = tt
on-err (Err e) p = p
