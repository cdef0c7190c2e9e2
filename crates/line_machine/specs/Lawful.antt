-- The machine keeps the laws of every machine.
use Rattle.std.specs.Prelude.{◌≡◌, ℕ, Bool, true, false, cond, List, [], ◌∷◌, length, nat_le, ◌==◌, refl}
use Rattle.std.proofs.Common.{arith}
use Rattle.tx_event.specs.declared.types.Reply.{Reply}
use Rattle.tx_event.specs.declared.types.Reply.TheVariants.{Found, Absent, Line, Ended, Whole, Closed}
use Rattle.tx_event.specs.Turns.{Stepped, Ready, mode_after}
use Rattle.tx_machine.specs.Machine.{IsLawful}
use Rattle.line_machine.specs.declared.state.Phase.{Phase}
use Rattle.line_machine.specs.declared.state.Phase.TheVariants.{Begins, Reads, Fails, Waits, Halted}
use Rattle.tx_machine.specs.Same.{same-tells}
use Rattle.line_machine.specs.Codes.{meaning_code}
use Rattle.line_machine.specs.State.{Meaning, mode_of}
use Rattle.line_machine.specs.Turns.{line_machine, reads, ships, steps, is_lone, heard}

-- the mode after a turn is that of its event
abbrev Leads : Stepped Meaning → Type 0
Leads t = mode_of t.next.phase ≡ mode_after t.event

choice-leads : (b : Bool) (t u : Stepped Meaning) → Leads t → Leads u → Leads (cond b t u)
choice-leads true t u first second = first
choice-leads false t u first second = second

ship-leads : (s : Meaning) (text : List ℕ) (first : ℕ) → Leads (ships s text first)
ship-leads s text first = choice-leads (nat_le (length text) 200000) _ _ refl refl

read-leads : (s : Meaning) (text : List ℕ) → Leads (reads s text)
read-leads s [] = refl
read-leads s (first ∷ rest) = choice-leads (first == 32) _ _ refl (choice-leads (is_lone 46 first rest) _ _ refl (choice-leads (is_lone 41 first rest) _ _ refl (choice-leads (first == 40) _ _ refl (ship-leads s (first ∷ rest) first))))

step-leads : (s : Meaning) (phase : Phase) → Leads (steps s phase)
step-leads s (Begins name) = refl
step-leads s (Reads text) = read-leads s text
step-leads s (Fails error) = refl
step-leads s (Waits kind) = refl
step-leads s Halted = refl

reply-leads : (reply : Reply) → mode_of (heard reply) ≡ Ready
reply-leads Found = refl
reply-leads Absent = refl
reply-leads (Line bytes) = refl
reply-leads Ended = refl
reply-leads (Whole bytes) = refl
reply-leads Closed = refl

pub line-machine-lawful : IsLawful line_machine
unfolding line_machine
line-machine-lawful = record {
  begins = λ date name. refl;
  costs = λ s. omega arith;
  turns = λ s ready. step-leads s s.phase;
  takes = λ s kind reply waits fit. reply-leads reply;
  tells = same-tells meaning_code;
}
