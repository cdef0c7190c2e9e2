-- What comes of a token that is a command by itself.
use Rattle.std.proofs.Common.{◌≡◌, ◌++◌, List, [], ◌∷◌, Result, Ok, Err, IfOk, ap, sym, ◌∙◌}
use Rattle.tx_expand.specs.Values.{value_now}
use Rattle.tx_event.specs.declared.types.Event.{Event}
use Rattle.tx_scan.specs.Supplied.{supplied, unless_needed, value_for}
use Rattle.tx_seen.specs.declared.item.Item.{Item}
use Rattle.tx_seen.specs.declared.item.Item.TheVariants.{Took, Gave}
use Rattle.tx_seen.specs.declared.seen.Seen.{Seen}
use Rattle.tx_seen.specs.Readings.{Reading, Done}
use Rattle.tx_reading.specs.declared.single.AtOnce.{AtOnce}
use Rattle.tx_command.specs.declared.types.Command.{Command}
use Rattle.tx_reading.specs.AtOnce.{whole, IsWhole}
use Rattle.tx_command.specs.Commands.{command}
use Rattle.tx_state.specs.declared.state.State.{State}
use Rattle.tx_state.specs.Meanings.{IsStepped, state_of}
use Rattle.tx_state.specs.State.{TexState}
use Rattle.tx_turn.specs.Effects.{Effects}
use Rattle.tx_turn.specs.Turns.{joining, known_of, scanned, supplying, taking}

-- the items of a token, by what reading it gives
abbrev items_by : TexState → Seen → Reading Command → List Item
items_by s t reading =
    unless_needed reading (Took t ∷ []) (λ kind. supplied 1 (value_now (known_of s)) (command s.mode s.head) (Took t ∷ Gave (value_for (value_now (known_of s)) kind) ∷ []))

pub takes-at-once : (effects : Effects) (s : TexState) (t : Seen) (c : Command) → s.taken ≡ [] → command s.mode s.head (Took t ∷ []) ≡ Done c [] → taking effects s t ≡ effects.effect s c
takes-at-once effects s t c none is =
    ap (λ (taken : List Item). supplying effects s (taken ++ Took t ∷ [])) none
    ∙ ap (λ (reading : Reading Command). joining effects s (items_by s t reading)) is
    ∙ ap (scanned effects s (Took t ∷ [])) is
    ∙ ap (λ (taken : List Item). effects.effect (record s { taken = taken }) c) (sym none)

-- what one token is
pub takes-whole-at-once : {E : Type 0} (effects : Effects) (s new : State) (t : Seen) (found : AtOnce) (answer : Result Event E) → IsWhole s.scan t found → IfOk answer (λ event. IsStepped (effects.effect (state_of s) (whole found)) s event new) → IfOk answer (λ event. IsStepped (taking effects (state_of s) t) s event new)
takes-whole-at-once effects s new t found (Ok event) by did = rw (takes-at-once effects (state_of s) t (whole found) by.between by.is) did
takes-whole-at-once effects s new t found (Err e) by did = tt
