-- The v-part of an entry is read to its end, and a command that is open goes on up to it.
use Rattle.std.proofs.Common.{◌≡◌, Bool, true, false, not, ◌||◌, Result, IfOk, refl, ap, sym, ◌∙◌}
use Rattle.std.specs.Prelude.{◌↔◌, IsTrue}
use Rattle.tx_command.specs.Commands.{is_begun, is_fresh}
use Rattle.tx_command.specs.declared.types.Head.{Head}
use Rattle.tx_command.specs.declared.types.Head.TheVariants.{Fresh}
use Rattle.tx_expand.specs.declared.types.Expanded.TheVariants as answer
use Rattle.tx_expand.specs.Turns.{frozen}
use Rattle.tx_event.specs.declared.types.Event.{Event}
use Rattle.tx_pending.specs.declared.next.ColumnPart.TheVariants.{V}
use Rattle.tx_pending.specs.Elements.{Input, with_part_end}
use Rattle.tx_seen.specs.declared.seen.Seen.{Seen}
use Rattle.tx_state.specs.declared.state.State.{State}
use Rattle.tx_state.specs.Meanings.{IsStepped, state_of}
use Rattle.tx_state.specs.State.{TexState}
use Rattle.tx_state.proofs.Outcomes.{outcome-by}
use Rattle.tx_turn.specs.Effects.{Effects}
use Rattle.tx_turn.specs.Turns.{answered, before_token, is_open, part_over, taking}
use Rattle.tx_turn.proofs.turn.end_part.Goals as goal
use Rattle.tx_turn.proofs.turn.end_part.Goals.{then-is_begun-via-then-is_begun, then-is_begun-via-else-is_begun+then-not-is_fresh}

-- whether nothing stands before the open command
fresh-by : (found : Bool) (head : Head) → (IsTrue found ↔ (head ≡ Fresh)) → found ≡ is_fresh head
fresh-by true head k = sym (ap is_fresh (k.0 refl))
fresh-by false Fresh k = absurd (cc (k.1 refl))
fresh-by false _ k = refl

begun-open : (s : TexState) (begun : Bool) → begun ≡ is_begun s.taken → begun ≡ true → is_open s ≡ true
begun-open s begun begun_is is = ap (λ (b : Bool). b || not (is_fresh s.head)) (sym begun_is ∙ is)

behind-open : (s : TexState) (begun fresh : Bool) → begun ≡ is_begun s.taken → begun ≡ false → (IsTrue fresh ↔ (s.head ≡ Fresh)) → fresh ≡ false → is_open s ≡ true
behind-open s begun fresh begun_is none fresh_is behind =
    ap (λ (b : Bool). b || not (is_fresh s.head)) (sym begun_is ∙ none) ∙ ap not (sym (fresh-by fresh s.head fresh_is) ∙ behind)

-- the command that is open goes on
goes-on : {E : Type 0} (effects : Effects) (s new : State) (input : Input) (t : Seen) (given : Result Event E) → is_open (state_of s) ≡ true → input ≡ with_part_end s.input V → t ≡ frozen → IfOk given (λ event. IsStepped (taking effects (before_token effects (state_of (record s { input = input })) t) t) (record s { input = input }) event new) → IfOk given (λ event. IsStepped (answered effects (state_of s) answer.PartEnded) s event new)
goes-on effects s new input t given is input_is t_is did =
    outcome-by (taking effects (before_token effects (state_of (record s { input = input })) t) t) (answered effects (state_of s) answer.PartEnded) s (record s { input = input }) new given
    ((λ i. taking effects (before_token effects (state_of (record s { input = input_is i })) (t_is i)) (t_is i)) ∙ ap (part_over effects (state_of s)) (sym is))
    refl did

pub returns-then-is_begun : goal.returns-then-is_begun
returns-then-is_begun g c =
    let is : is_open (state_of c.args.s.now) ≡ true = elim c.then-is_begun.branch [
      | then-is_begun-via-then-is_begun w ↦ begun-open (state_of c.args.s.now) c.is_begun.result c.is_begun.ensures w.if-is_begun.true
      | then-is_begun-via-else-is_begun+then-not-is_fresh w ↦ behind-open (state_of c.args.s.now) c.is_begun.result w.is_fresh.result c.is_begun.ensures w.if-is_begun.false w.is_fresh.ensures w.if-not-is_fresh.true
    ] in
    goes-on g.T.Stomach.effects c.args.s.now c.take_command.new.s c.push_part_end.new.self c.part_end.result c.take_command.result is c.in_ok-push_part_end.ensures.ok c.part_end.ensures c.take_command.ensures
