-- An answer needs and waits for as much with the command that it tells as without it.
use Rattle.std.proofs.Common.{◌≡◌, ℕ, refl}
use Rattle.tx_prim.specs.declared.family.Shorthand.{Shorthand}
use Rattle.tx_seen.specs.declared.fed.Fed.{Fed}
use Rattle.tx_seen.specs.declared.fed.Fed.TheVariants as fed
use Rattle.tx_seen.specs.declared.fed.Kind.{Kind}
use Rattle.tx_seen.specs.declared.place.Place.{Place}
use Rattle.tx_scan.specs.Mapped.{mapped}
use Rattle.tx_scan.specs.Supplied.{NeedsFewer, NeedsNoMore}
use Rattle.tx_scan.proofs.Mappings.{fewer-mapped, needs-mapped}
use Rattle.tx_assign.specs.Rests.{told as told_assigning}
use Rattle.tx_command.specs.declared.scans.Scans.{Scans}
use Rattle.tx_command.specs.declared.scans.Stage.{Stage}
use Rattle.tx_command.specs.declared.scans.Stage.TheVariants as stage
use Rattle.tx_command.specs.declared.scans.Whole.{Whole}
use Rattle.tx_command.specs.declared.scans.Whole.TheVariants as whole
use Rattle.tx_command.specs.declared.types.Command.{Command}
use Rattle.tx_command.specs.declared.types.Command.TheVariants.{Assign}
use Rattle.tx_command.specs.declared.types.Head.{Head}
use Rattle.tx_command.specs.declared.types.Head.TheVariants.{Defining}
use Rattle.tx_command.specs.declared.types.Prefixes.{Prefixes}
use Rattle.tx_command.specs.Rests.{told, whole_command, GoesOn, IsNoName, IsPart, NeedsValues}
use Rattle.tx_command.specs.Taken.{IsEnd}

-- the answer to a token of an assignment
pub told-assigned : (scans : Scans) (made : Command) (answer : Fed (Unit {0})) → told scans made (mapped (λ _. whole.Assignment) answer) ≡ mapped Assign (told_assigning scans.assignment answer)
told-assigned scans made (fed.More want) = refl
told-assigned scans made (fed.Need kind) = refl
told-assigned scans made (fed.Done value back) = refl
told-assigned scans made (fed.Wrong error) = refl

pub goes-mapped : {A B : Type 0} (f : A → B) (new : Scans) (answer : Fed A) → GoesOn new answer → GoesOn new (mapped f answer)
goes-mapped f new (fed.More want) k = k
goes-mapped f new (fed.Need kind) k = k
goes-mapped f new (fed.Done value back) k = tt
goes-mapped f new (fed.Wrong error) k = tt

-- with the command
pub told-needs : (scans : Scans) (made : Command) (few most : ℕ) (answer : Fed Whole) → NeedsNoMore few most answer → NeedsNoMore few most (told scans made answer)
told-needs scans made few most answer k = needs-mapped (whole_command scans made) few most answer k

pub told-fewer : (scans : Scans) (made : Command) (few most : ℕ) (answer : Fed Whole) → NeedsFewer few most answer → NeedsFewer few most (told scans made answer)
told-fewer scans made few most answer k = fewer-mapped (whole_command scans made) few most answer k

pub told-end : (scans : Scans) (made : Command) (answer : Fed Whole) → IsEnd answer → IsEnd (told scans made answer)
told-end scans made (fed.More want) k = k
told-end scans made (fed.Need kind) k = k
told-end scans made (fed.Done value back) k = k
told-end scans made (fed.Wrong error) k = k

pub told-no-need : (scans : Scans) (made : Command) (answer : Fed Whole) → ((kind : Kind) → answer ≡ fed.Need kind → ⊥) → (kind : Kind) → told scans made answer ≡ fed.Need kind → ⊥
told-no-need scans made (fed.More want) h kind e = absurd (cc)
told-no-need scans made (fed.Need other) h kind e = h other refl
told-no-need scans made (fed.Done value back) h kind e = absurd (cc)
told-no-need scans made (fed.Wrong error) h kind e = absurd (cc)

-- without it
pub plain-needs : (scans : Scans) (made : Command) (few most : ℕ) (answer : Fed Whole) → NeedsNoMore few most (told scans made answer) → NeedsNoMore few most answer
plain-needs scans made few most (fed.More want) k = k
plain-needs scans made few most (fed.Need kind) k = k
plain-needs scans made few most (fed.Done value back) k = tt
plain-needs scans made few most (fed.Wrong error) k = tt

pub plain-goes : (new scans : Scans) (made : Command) (answer : Fed Whole) → GoesOn new (told scans made answer) → GoesOn new answer
plain-goes new scans made (fed.More want) k = k
plain-goes new scans made (fed.Need kind) k = k
plain-goes new scans made (fed.Done value back) k = tt
plain-goes new scans made (fed.Wrong error) k = tt

-- what is neither the first token, nor an assignment, nor what boxes and their kin take
pub is-part : (s : Stage) → (s ≡ stage.Assign → ⊥) → (s ≡ stage.Shape → ⊥) → (s ≡ stage.Start → ⊥) → IsPart s
is-part stage.Start a h b = b refl
is-part stage.Assign a h b = a refl
is-part stage.Shape a h b = h refl
is-part _ a h b = tt

pub waiting-part : (s : Stage) (scans : Scans) → (s ≡ stage.Assign → ⊥) → (s ≡ stage.Shape → ⊥) → NeedsValues s scans → IsPart s
waiting-part stage.Start scans a h w = w
waiting-part stage.Assign scans a h w = a refl
waiting-part stage.Shape scans a h w = h refl
waiting-part _ scans a h w = tt

pub no-name : (head : Head) → ((prefixes : Prefixes) (name : Place) (kind : Shorthand) → head ≡ Defining prefixes name kind → ⊥) → IsNoName head
no-name (Defining prefixes name kind) h = h prefixes name kind refl
no-name _ h = tt
