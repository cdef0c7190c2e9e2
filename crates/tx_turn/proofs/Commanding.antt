-- Turns of characters that join the open command.
use Rattle.std.proofs.Common.{◌≡◌, ℕ, ◌||◌, ◌++◌, [], Option, Some, None, Result, Ok, Err, IfOk, if◌then◌else◌, refl, ap, sym, subst, ◌∙◌, append-nil}
use Rattle.tx_char.specs.declared.category.Cat.{Cat}
use Rattle.tx_expand.specs.declared.state.Expander.{Expander}
use Rattle.tx_expand.specs.Expanding.{reader}
use Rattle.tx_lex.specs.declared.types.PlainToken.{PlainToken}
use Rattle.tx_lex.specs.Plain.{category_of, code_of, state_behind}
use Rattle.tx_event.specs.declared.types.Event.{Event}
use Rattle.tx_event.specs.declared.types.Event.TheVariants.{Went}
use Rattle.tx_machine.specs.Plain.{IsPlain, IsTaken}
use Rattle.tx_pending.specs.Elements.{Input}
use Rattle.tx_pending.specs.Plain.{behind_first}
use Rattle.tx_seen.specs.declared.seen.Seen.{Seen}
use Rattle.tx_seen.specs.Seen.{continues_word}
use Rattle.tx_state.specs.declared.parts.Phase.TheVariants.{Running}
use Rattle.tx_state.specs.declared.state.State.{State}
use Rattle.tx_state.specs.Meanings.{IsStepped, meaning_of, state_of}
use Rattle.tx_state.specs.Outcomes.{Outcome, stepped}
use Rattle.tx_state.specs.State.{Meaning as TexMeaning, Runs}
use Rattle.tx_turn.specs.Effects.{Effects}
use Rattle.tx_turn.specs.Going.{HasGoneOn, HasJoined, HasTurned, IsCommanding, IsFed, IsNextOf}
use Rattle.tx_turn.specs.Turns.{due_cost, outcome, taken_by, taking, tex_with}
use Rattle.tx_turn.proofs.Characters.{comes-next, plain-means}
use Rattle.tx_turn.proofs.MainLoop.{behind, plain-goes-on, plain-turn, reads-plain, runs-as, seen}

-- a command that goes on takes a turn of which the outside need know nothing
pub joined-steps : (effects : Effects) (s new : State) (t : Seen) → s.phase ≡ Running → HasJoined effects t s new → IsStepped (taking effects (state_of s) t) s Went new
joined-steps effects s new t running joined = record {
  event_is = ap (λ (o : Outcome). (stepped o).event) (sym joined.goes);
  state_is = runs-as new (joined.phase ∙ running) ∙ ap Runs joined.state ∙ ap (λ (o : Outcome). (stepped o).next) (sym joined.goes);
  said_is = joined.said ∙ sym (append-nil s.said) ∙ ap (λ (o : Outcome). s.said ++ (stepped o).said) (sym joined.goes);
}

pub fed-goes : (effects : Effects) (s new : State) (t : Seen) (event : Option Event) → s.phase ≡ Running → event ≡ None → IsFed effects t event s new → IsStepped (taking effects (state_of s) t) s Went new
fed-goes effects s new t None running none fed = joined-steps effects s new t running fed
fed-goes effects s new t (Some event) running none fed = absurd (cc none)

pub fed-steps : (effects : Effects) (s new : State) (t : Seen) (event : Option Event) (which : Event) → event ≡ Some which → IsFed effects t event s new → IsStepped (taking effects (state_of s) t) s which new
fed-steps effects s new t None which some fed = absurd (cc some)
fed-steps effects s new t (Some event) which some fed =
    let same : event ≡ which = cc in
    subst (λ (e : Event). IsStepped (taking effects (state_of s) t) s e new) same fed

-- a character that comes next joins the command that is begun
abbrev pub passed_state : State → PlainToken → State
passed_state s first = record s { input = behind_first (state_behind first) s.input }

next-joins : (effects : Effects) (s : State) (first : PlainToken) → IsCommanding s → IsNextOf s first → outcome effects (Runs (state_of s)) ≡ taking effects (state_of (passed_state s first)) (seen (code_of first) (category_of s.table.table.categories first))
next-joins effects s first commanding next =
    let code : ℕ = code_of first in
    let kind : Cat = category_of s.table.table.categories first in
    let left : Input = behind_first (state_behind first) s.input in
    reads-plain effects (state_of s) left code kind commanding.due commanding.begun (plain-means s.table.table first next.comes.set) (plain-goes-on s.table.table.categories first next.comes.set) (comes-next s.table.table.categories s.input first next.comes)
    ∙ ap (taken_by effects (behind (state_of s) left) (seen code kind)) commanding.text
    ∙ (λ i. taking effects (if next.begun i || continues_word (seen code kind) then behind (state_of s) left else effects.word_ended (behind (state_of s) left)) (seen code kind))
    ∙ (λ i. taking effects (record (state_of s) { reader = reader (sym commanding.begun i) left (state_of s).reader.conditionals (state_of s).reader.job }) (seen code kind))

-- what has come of it
pub turned-event : (effects : Effects) (s mid new : State) (o : Outcome) (event : Event) → s.phase ≡ Running → s.due ≡ [] → outcome effects (Runs (state_of s)) ≡ o → mid.said ≡ s.said → IsStepped o mid event new → IsTaken (tex_with effects) event (meaning_of s) (meaning_of new) s.said new.said
unfolding tex_with
turned-event effects s mid new o event running due goes said did =
    let from : meaning_of s ≡ Runs (state_of s) = runs-as s running in
    let taken : IsTaken (tex_with effects) event (Runs (state_of s)) (meaning_of new) s.said new.said = record {
      costs = ap due_cost due;
      event_is = did.event_is ∙ ap (λ (o : Outcome). (stepped o).event) (sym goes);
      next = did.state_is ∙ ap (λ (o : Outcome). (stepped o).next) (sym goes);
      said = did.said_is ∙ (λ i. said i ++ (stepped (sym goes i)).said);
    } in
    subst (λ (m : TexMeaning). IsTaken (tex_with effects) event m (meaning_of new) s.said new.said) (sym from) taken

turned-joined : (effects : Effects) (s mid new : State) (t : Seen) → IsCommanding s → mid.phase ≡ s.phase → mid.due ≡ s.due → mid.text ≡ s.text → mid.expander ≡ s.expander → mid.said ≡ s.said → outcome effects (Runs (state_of s)) ≡ taking effects (state_of mid) t → HasJoined effects t mid new → HasGoneOn effects s new
turned-joined effects s mid new t commanding phase due text begun said goes joined =
    let from : meaning_of s ≡ Runs (state_of s) = runs-as s commanding.running in
    let to : meaning_of new ≡ Runs joined.next = runs-as new (joined.phase ∙ phase ∙ commanding.running) ∙ ap Runs joined.state in
    let went : IsPlain (tex_with effects) (Runs (state_of s)) (Runs joined.next) = plain-turn effects (state_of s) joined.next commanding.due (goes ∙ joined.goes) in
    record {
      turn = subst (λ (m : TexMeaning). IsPlain (tex_with effects) m (meaning_of new)) (sym from) (subst (λ (m : TexMeaning). IsPlain (tex_with effects) (Runs (state_of s)) m) (sym to) went);
      said = joined.said ∙ said;
      commanding = record {
        running = joined.phase ∙ phase ∙ commanding.running;
        due = joined.due ∙ due ∙ commanding.due;
        text = joined.text ∙ text ∙ commanding.text;
        begun = ap (λ (e : Expander). e.begun) (joined.begun ∙ begun) ∙ commanding.begun;
      };
    }

turned-by : (effects : Effects) (s mid new : State) (t : Seen) (event : Option Event) → IsCommanding s → mid.phase ≡ s.phase → mid.due ≡ s.due → mid.text ≡ s.text → mid.expander ≡ s.expander → mid.said ≡ s.said → outcome effects (Runs (state_of s)) ≡ taking effects (state_of mid) t → IsFed effects t event mid new → HasTurned effects event s new
turned-by effects s mid new t None commanding phase due text begun said goes fed = turned-joined effects s mid new t commanding phase due text begun said goes fed
turned-by effects s mid new t (Some event) commanding phase due text begun said goes fed = turned-event effects s mid new (taking effects (state_of mid) t) event commanding.running commanding.due goes said fed

-- it is told by code which character it is
pub next-turned : (effects : Effects) (s new : State) (first : PlainToken) (code : ℕ) (kind : Cat) (input : Input) (event : Option Event) → IsCommanding s → IsNextOf s first → code ≡ code_of first → kind ≡ category_of s.table.table.categories first → input ≡ behind_first (state_behind first) s.input → IsFed effects (seen code kind) event (record s { input = input }) new → HasTurned effects event s new
next-turned effects s new first code kind input event commanding next code_is kind_is input_is fed =
    let mid : State = record s { input = input } in
    let goes : outcome effects (Runs (state_of s)) ≡ taking effects (state_of mid) (seen code kind) =
    next-joins effects s first commanding next ∙ (λ i. taking effects (state_of (record s { input = sym input_is i })) (seen (sym code_is i) (sym kind_is i)))
    in
    turned-by effects s mid new (seen code kind) event commanding refl refl refl refl refl goes fed

pub turned-ok : {E : Type 0} (effects : Effects) (s new : State) (first : PlainToken) (code : ℕ) (kind : Cat) (input : Input) (answer : Result (Option Event) E) → IsCommanding s → IsNextOf s first → code ≡ code_of first → kind ≡ category_of s.table.table.categories first → input ≡ behind_first (state_behind first) s.input
    → IfOk answer (λ event. IsFed effects (seen code kind) event (record s { input = input }) new) → IfOk answer (λ event. HasTurned effects event s new)
turned-ok effects s new first code kind input (Ok event) commanding next code_is kind_is input_is fed = next-turned effects s new first code kind input event commanding next code_is kind_is input_is fed
turned-ok effects s new first code kind input (Err e) commanding next code_is kind_is input_is fed = tt
