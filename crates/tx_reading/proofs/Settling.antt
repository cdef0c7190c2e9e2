-- A token that ends a command, and isn't given back, needn't be kept.
use Rattle.std.proofs.Common.{◌≡◌, ◌≤◌, ◌+◌, List, [], ◌∷◌, ◌++◌, length, ap, sym, ◌∙◌}
use Rattle.tx_prim.specs.declared.modes.Mode.{Mode}
use Rattle.tx_seen.specs.declared.fed.Fed.{Fed}
use Rattle.tx_seen.specs.declared.fed.Fed.TheVariants as fed
use Rattle.tx_seen.specs.declared.fed.Kind.{Kind}
use Rattle.tx_seen.specs.declared.fed.Value.{Value}
use Rattle.tx_seen.specs.declared.item.Item.{Item}
use Rattle.tx_seen.specs.declared.item.Item.TheVariants.{Took, Gave}
use Rattle.tx_seen.specs.declared.place.Place.{Place}
use Rattle.tx_seen.specs.declared.seen.Seen.{Seen}
use Rattle.tx_seen.specs.Readings.{last, tokens}
use Rattle.tx_scan.specs.Rests.{HasTakenBy, IsFedBy, IsGivenBehind}
use Rattle.tx_scan.specs.Settled.{tokens_of}
use Rattle.tx_scan.specs.Supplied.{value_for, NeedsFewer, NeedsNoMore}
use Rattle.tx_scan.proofs.Answering.{ending-none}
use Rattle.tx_scan.proofs.Settling.{token-pending, value-answered}
use Rattle.tx_command.specs.declared.scans.Scans.{Scans}
use Rattle.tx_command.specs.declared.scans.Whole.{Whole}
use Rattle.tx_command.specs.declared.types.Command.{Command}
use Rattle.tx_command.specs.declared.types.Head.{Head}
use Rattle.tx_command.specs.Commands.{command}
use Rattle.tx_command.specs.Rests.{command_rest, held, more_needed, told}
use Rattle.tx_command.specs.Taken.{joined, IsEnd, IsSettled, IsPending}
use Rattle.tx_scan.proofs.Behind.{behind-answers}
use Rattle.tx_reading.proofs.Told.{told-end, told-fewer, told-needs}

ended-by : (at : Place → Value) (mode : Mode) (head : Head) (items taken now : List Item) (new : Scans) (answer : Fed Command) → IsEnd answer → IsPending at mode head items now new answer → IsSettled mode head items taken new answer
ended-by at mode head items taken now new (fed.More want) ends p = absurd ends
ended-by at mode head items taken now new (fed.Need kind) ends p = absurd ends
ended-by at mode head items taken now new (fed.Done c back) ends p =
    let none : (xs : List Item) → last back xs ≡ [] = λ xs. ap (λ n. last n xs) ends ∙ ending-none (tokens xs) in
    (p.0, ap tokens_of (none taken ∙ sym (none items)))
ended-by at mode head items taken now new (fed.Wrong e) ends p = p

-- a token that is taken, by an answer with the command that it tells
pub token-told : (at : Place → Value) (mode : Mode) (head : Head) (taken : List Item) (t : Seen) (old new : Scans) (made : Command) (answer : Fed Whole) → HasTakenBy (command_rest mode head) held (command mode head) old taken → more_needed old ≤ length taken + 1 → IsFedBy (command_rest mode head) held old t new (told new made answer) → NeedsNoMore (more_needed old) (more_needed new) answer → IsPending at mode head (joined at mode head taken t) (taken ++ Took t ∷ []) new (told new made answer)
token-told at mode head taken t old new made answer reads few fits n =
    token-pending at (command_rest mode head) held more_needed (command mode head) taken t old new (told new made answer) reads few fits
    (told-needs new made (more_needed old) (more_needed new) answer n)

pub token-ends : (at : Place → Value) (mode : Mode) (head : Head) (taken : List Item) (t : Seen) (old new : Scans) (made : Command) (answer : Fed Whole) → IsEnd answer → HasTakenBy (command_rest mode head) held (command mode head) old taken → more_needed old ≤ length taken + 1 → IsFedBy (command_rest mode head) held old t new (told new made answer) → NeedsNoMore (more_needed old) (more_needed new) answer → IsSettled mode head (joined at mode head taken t) taken new (told new made answer)
token-ends at mode head taken t old new made answer ends reads few fits n =
    ended-by at mode head (joined at mode head taken t) taken (taken ++ Took t ∷ []) new (told new made answer) (told-end new made answer ends)
    (token-told at mode head taken t old new made answer reads few fits n)

-- behind a value another one may be needed
pub value-behind : (at : Place → Value) (mode : Mode) (head : Head) (items taken : List Item) (kind : Kind) (old new : Scans) (made : Command) (t : Seen) (answer : Fed Whole) → IsPending at mode head items taken old (fed.Need kind) → held old ≤ 1 → last 1 taken ≡ Took t ∷ [] → IsGivenBehind (command_rest mode head) held old (value_for at kind) t new (told new made answer) → NeedsFewer (more_needed old) (more_needed new) answer → IsPending at mode head items (taken ++ Gave (value_for at kind) ∷ []) new (told new made answer)
value-behind at mode head items taken kind old new made t answer p few l fits n =
    value-answered at (command mode head) (HasTakenBy (command_rest mode head) held (command mode head)) more_needed items taken kind old new (told new made answer) p
    (behind-answers (command_rest mode head) held (command mode head) old new taken (value_for at kind) t (told new made answer) p.1.1.1.1.0 few l fits) (told-fewer new made (more_needed old) (more_needed new) answer n)
