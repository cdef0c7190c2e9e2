-- TeX keeps the laws of every machine, whatever its stomach does.
use Rattle.std.specs.Prelude.{◌≡◌, ◌≤◌, List, [], ◌∷◌, refl}
use Rattle.std.proofs.Common.{arith}
use Rattle.tx_event.specs.declared.types.AskKind.{AskKind}
use Rattle.tx_event.specs.declared.types.Reply.{Reply}
use Rattle.tx_event.specs.Turns.{Stepped, Ready, Awaits, mode_after}
use Rattle.tx_machine.specs.Machine.{IsLawful}
use Rattle.tx_parts.specs.declared.parts.Due.{Due}
use Rattle.tx_parts.specs.declared.parts.Due.TheVariants.{OpenMain, FileAbsent, FileEnded, MainClosed, LoadFont, Boxes}
use Rattle.tx_box.specs.declared.parts.Work.TheVariants.{Build, Copy, CopyList, Ship, ShipPage}
use Rattle.tx_state.specs.Outcomes.{Outcome, Leaves, Asks, Ships, Fails, Ends, stepped}
use Rattle.tx_machine.specs.Same.{same-tells}
use Rattle.tx_state.specs.Codes.{meaning_code}
use Rattle.tx_state.specs.State.{Meaning, Runs, Waits, Stops, mode_of}
use Rattle.tx_turn.specs.Effects.{Effects}
use Rattle.tx_turn.specs.Turns.{tex_with, cost, due_cost, outcome, takes}

-- the mode after a turn is that of its event
abbrev Leads : Stepped Meaning → Type 0
Leads t = mode_of t.next ≡ mode_after t.event

stepped-leads : (o : Outcome) → Leads (stepped o)
stepped-leads (Leaves s said) = refl
stepped-leads (Asks ask s) = refl
stepped-leads (Ships page s) = refl
stepped-leads (Fails error said) = refl
stepped-leads Ends = refl

due-costs : (due : List Due) → 1 ≤ due_cost due
due-costs [] = omega arith
due-costs (OpenMain name ∷ due) = omega arith
due-costs (FileAbsent ∷ due) = omega arith
due-costs (FileEnded ∷ due) = omega arith
due-costs (MainClosed ∷ due) = omega arith
due-costs (LoadFont request ∷ due) = omega arith
due-costs (Boxes (Copy box target) ∷ due) = omega arith
due-costs (Boxes (CopyList list) ∷ due) = omega arith
due-costs (Boxes (Ship box) ∷ due) = omega arith
due-costs (Boxes (ShipPage box) ∷ due) = omega arith
due-costs (Boxes Build ∷ due) = omega arith

turn-costs : (m : Meaning) → 1 ≤ cost m
turn-costs (Runs s) = due-costs s.due
turn-costs (Waits kind s) = omega arith
turn-costs Stops = omega arith

reply-leads : (m : Meaning) (kind : AskKind) (reply : Reply) → mode_of m ≡ Awaits kind → mode_of (takes m reply) ≡ Ready
reply-leads (Runs s) kind reply waits = refl
reply-leads (Waits other s) kind reply waits = refl
reply-leads Stops kind reply waits = absurd (cc)

pub lawful-with : (effects : Effects) → IsLawful (tex_with effects)
unfolding tex_with
lawful-with effects = record {
  begins = λ date name. refl;
  costs = turn-costs;
  turns = λ m ready. stepped-leads (outcome effects m);
  takes = λ m kind reply waits fit. reply-leads m kind reply waits;
  tells = same-tells meaning_code;
}
