-- Turns of the main loop, and turns at one go.
use Rattle.std.proofs.Common.{◌≡◌, ◌+◌, ◌≤◌, ℕ, Bool, true, false, List, [], Some, None, if◌then◌else◌, refl, ap, sym, subst, ◌∙◌, suc, add-one}
use Rattle.tx_char.specs.declared.category.Cat.{Cat}
use Rattle.tx_char.specs.declared.category.Cat.TheVariants.{Letter, Other, Space}
use Rattle.tx_char.specs.declared.tokens.Token.TheVariants as token
use Rattle.tx_char.specs.Category.{category}
use Rattle.tx_lex.specs.declared.types.PlainToken.{PlainToken}
use Rattle.tx_lex.specs.declared.types.PlainToken.TheVariants.{Set, Blank}
use Rattle.tx_lex.specs.Plain.{IsSet, category_of, is_set}
use Rattle.tx_reading.specs.declared.single.AtOnce.{AtOnce}
use Rattle.tx_reading.specs.declared.single.AtOnce.TheVariants as at_once
use Rattle.tx_reading.specs.AtOnce.{IsAloneIn, IsWhole, whole}
use Rattle.tx_command.specs.Begun.{Begun as Beginning}
use Rattle.tx_command.specs.Standing.{standing_in}
use Rattle.tx_reading.proofs.Alone.{at-once}
use Rattle.tx_eqtb.specs.declared.table.Table.{Table}
use Rattle.tx_eqtb.specs.Table.{token_meaning}
use Rattle.tx_expand.specs.declared.begun.Begun.{Begun}
use Rattle.tx_expand.specs.declared.types.Expanded.TheVariants as answer
use Rattle.tx_expand.specs.declared.types.Wanted.{Wanted}
use Rattle.tx_expand.specs.Expanding.{reader, world_of}
use Rattle.tx_expand.specs.Reader.{Goes, Reader, World}
use Rattle.tx_expand.specs.Turns.{at_entry, category_ends, entry_end_in, is_expanding, met, token_read, turn, with_front}
use Rattle.tx_machine.specs.Plain.{ArePlain, HasPassed, IsPlain}
use Rattle.tx_machine.specs.Steps.{raised}
use Rattle.tx_machine.proofs.Going.{raised-raised, raised-zero}
use Rattle.tx_pending.specs.declared.next.Next.TheVariants as front
use Rattle.tx_pending.specs.Elements.{Input, is_at_entry, step}
use Rattle.tx_prim.specs.declared.modes.Mode.{Mode}
use Rattle.tx_prim.specs.declared.modes.Mode.TheVariants as mode_of
use Rattle.tx_prim.specs.declared.modes.ModeTest.TheVariants as tests
use Rattle.tx_prim.specs.declared.modes.Standing.TheVariants.{Stands}
use Rattle.tx_prim.specs.Modes.{holds}
use Rattle.tx_seen.specs.declared.meaning.Meaning.{Meaning}
use Rattle.tx_seen.specs.declared.meaning.Meaning.TheVariants as meaning
use Rattle.tx_seen.specs.declared.seen.Seen.{Seen}
use Rattle.tx_state.specs.declared.parts.Phase.{Phase}
use Rattle.tx_state.specs.declared.parts.Phase.TheVariants.{Running}
use Rattle.tx_state.specs.declared.state.State.{State}
use Rattle.tx_state.specs.Meanings.{meaning_of, state_of}
use Rattle.tx_state.specs.Outcomes.{Outcome, leaves, stepped}
use Rattle.tx_state.specs.State.{Meaning as TexMeaning, TexState, Runs, meaning_in}
use Rattle.tx_turn.specs.Effects.{Effects}
use Rattle.tx_turn.specs.declared.going.Going.{Going}
use Rattle.tx_turn.specs.Going.{GoesOn, HasGone, HasRun, IsGoing}
use Rattle.tx_turn.specs.MainLoop.{AwaitsToken}
use Rattle.tx_turn.specs.Turns.{due_cost, goes_on, known_of, outcome, taken_by, taking, tex_with, turned, wanted_by}
use Rattle.tx_turn.proofs.AtOnce.{takes-at-once}

-- a character that is set means itself, goes on with a word, and is a command by itself
pub meaning-set : (table : Table) (code : ℕ) (kind : Cat) → is_set kind ≡ true → token_meaning table (token.Character code kind) ≡ meaning.Character code kind
meaning-set table code Letter set = refl
meaning-set table code Other set = refl
meaning-set table code _ set = cc

abbrev pub seen : ℕ → Cat → Seen
seen code kind = record { token = token.Character code kind; meaning = meaning.Character code kind }

stands-there : (mode : Mode) (meant : Meaning) → holds tests.Horizontal mode ≡ true → standing_in mode_of.Horizontal meant ≡ Stands → standing_in mode_of.RestrictedHorizontal meant ≡ Stands → standing_in mode meant ≡ Stands
stands-there mode_of.Horizontal meant e h r = h
stands-there mode_of.RestrictedHorizontal meant e h r = r
stands-there mode_of.Vertical meant e h r = cc
stands-there mode_of.InternalVertical meant e h r = cc
stands-there mode_of.Math meant e h r = cc
stands-there mode_of.DisplayMath meant e h r = cc

pub alone-set : (mode : Mode) (code : ℕ) (kind : Cat) → holds tests.Horizontal mode ≡ true → is_set kind ≡ true → IsAloneIn mode (meaning.Character code kind) (at_once.Character code)
alone-set mode code Letter horizontal set = record { stands = stands-there mode (meaning.Character code Letter) horizontal refl refl; is = refl }
alone-set mode code Other horizontal set = record { stands = stands-there mode (meaning.Character code Other) horizontal refl refl; is = refl }
alone-set mode code _ horizontal set = absurd (cc set)

pub alone-space : (mode : Mode) → holds tests.Horizontal mode ≡ true → IsAloneIn mode (meaning.Character 32 Space) at_once.Space
alone-space mode horizontal = record { stands = stands-there mode (meaning.Character 32 Space) horizontal refl refl; is = refl }

same-either : {A : Type 0} (b : Bool) (x : A) → (if b then x else x) ≡ x
same-either true x = refl
same-either false x = refl

-- a reader that has begun nothing, with this input
abbrev pub idle : Reader → Input → Reader
idle r input = reader [] input r.conditionals r.job

-- a token that ends no entry is read
read-on : (w : World) (wanted : Wanted) (t : Seen) (r : Reader) → entry_end_in r.input t.meaning ≡ None → met w wanted t r ≡ token_read w wanted t r
read-on w wanted t r none = rw none refl

-- neither a character that is set nor a space ends one
pub set-goes-on : (kind : Cat) → is_set kind ≡ true → category_ends kind ≡ None
set-goes-on Letter set = refl
set-goes-on Other set = refl
set-goes-on _ set = absurd (cc set)

pub plain-goes-on : (codes : List Cat) (first : PlainToken) → IsSet codes first → category_ends (category_of codes first) ≡ None
plain-goes-on codes (Set code) set = set-goes-on (category codes code) set
plain-goes-on codes Blank set = refl

-- a turn of it gives a character that means itself
turn-character : (w : World) (wanted : Wanted) (r : Reader) (left : Input) (code : ℕ) (kind : Cat) → w.meaning (token.Character code kind) ≡ meaning.Character code kind → category_ends kind ≡ None → step w.codes r.input ≡ record { next = front.Token (token.Character code kind); left = left }
    → turn w wanted (idle r r.input) ≡ Goes (answer.Got (seen code kind)) (idle r left)
turn-character w wanted r left code kind means none comes =
    ap (with_front w wanted (idle r r.input)) comes
    ∙ ap (λ (m : Meaning). met w wanted (record { token = token.Character code kind; meaning = m }) (idle r left)) means
    ∙ read-on w wanted (seen code kind) (idle r left) (ap (at_entry (is_at_entry left)) none)
    ∙ same-either (is_expanding wanted.want) (Goes (answer.Got (seen code kind)) (idle r left))

-- the state behind it, before it takes effects.effect
abbrev pub behind : TexState → Input → TexState
behind s left = record s { reader = idle s.reader left }

pub awaits-behind : (s : TexState) (left : Input) → AwaitsToken s → AwaitsToken (behind s left)
awaits-behind s left awaits = record { due = awaits.due; text = awaits.text; begun = refl; head = awaits.head; taken = awaits.taken; horizontal = awaits.horizontal }

pub reads-plain : (effects : Effects) (s : TexState) (left : Input) (code : ℕ) (kind : Cat) → s.due ≡ [] → s.reader.begun ≡ [] → token_meaning s.table.table (token.Character code kind) ≡ meaning.Character code kind → category_ends kind ≡ None → step s.table.table.categories s.reader.input ≡ record { next = front.Token (token.Character code kind); left = left }
    → outcome effects (Runs s) ≡ taken_by effects (behind s left) (seen code kind) s.text
reads-plain effects s left code kind due begun means none comes =
    ap (goes_on effects s) due
    ∙ ap (λ (opened : List Begun). turned effects s (turn (world_of (known_of s) s.mode) (wanted_by s s.text) (reader opened s.reader.input s.reader.conditionals s.reader.job))) begun
    ∙ ap (turned effects s) (turn-character (world_of (known_of s) s.mode) (wanted_by s s.text) s.reader left code kind means none comes)

pub reads-character : (effects : Effects) (s : TexState) (left : Input) (code : ℕ) (kind : Cat) → AwaitsToken s → token_meaning s.table.table (token.Character code kind) ≡ meaning.Character code kind → category_ends kind ≡ None → step s.table.table.categories s.reader.input ≡ record { next = front.Token (token.Character code kind); left = left }
    → outcome effects (Runs s) ≡ taken_by effects (behind s left) (seen code kind) None
reads-character effects s left code kind awaits means none comes =
    reads-plain effects s left code kind awaits.due awaits.begun means none comes
    ∙ ap (taken_by effects (behind s left) (seen code kind)) awaits.text

-- it is a command by itself
pub takes-alone : (effects : Effects) (s : TexState) (code : ℕ) (kind : Cat) (found : AtOnce) → AwaitsToken s → IsAloneIn s.mode (meaning.Character code kind) found → taking effects s (seen code kind) ≡ effects.effect s (whole found)
takes-alone effects s code kind found awaits alone =
    let scan : Beginning = record { mode = s.mode; head = s.head; taken = s.taken } in
    let all : IsWhole scan (seen code kind) found = at-once scan s.mode (seen code kind) (Some found) awaits.taken awaits.head refl alone in
    takes-at-once effects s (seen code kind) (whole found) all.between all.is

-- a turn that leaves a state and tells nothing is plain
pub plain-turn : (effects : Effects) (s next : TexState) → s.due ≡ [] → outcome effects (Runs s) ≡ leaves next → IsPlain (tex_with effects) (Runs s) (Runs next)
unfolding tex_with
plain-turn effects s next due goes = record {
  costs = ap due_cost due;
  went = ap (λ (o : Outcome). (stepped o).event) goes;
  silent = ap (λ (o : Outcome). (stepped o).said) goes;
  next = ap (λ (o : Outcome). (stepped o).next) goes;
}

pub runs-as : (s : State) → s.phase ≡ Running → meaning_of s ≡ Runs (state_of s)
runs-as s running = ap (λ (p : Phase). meaning_in p (state_of s)) running

-- turns at one go went on by one that leaves this state
pub gone : (effects : Effects) (s new : State) (next : TexState) (going : Going) → s.phase ≡ Running → s.due ≡ [] → outcome effects (Runs (state_of s)) ≡ leaves next → state_of new ≡ next → new.phase ≡ s.phase → new.said ≡ s.said → IsGoing going new → HasGone effects going s new
gone effects s new next going running due goes is phase said still =
    let from : meaning_of s ≡ Runs (state_of s) = runs-as s running in
    let to : meaning_of new ≡ Runs next = runs-as new (phase ∙ running) ∙ ap Runs is in
    let went : IsPlain (tex_with effects) (Runs (state_of s)) (Runs next) = plain-turn effects (state_of s) next due goes in
    record {
      turn = subst (λ (m : TexMeaning). IsPlain (tex_with effects) m (meaning_of new)) (sym from) (subst (λ (m : TexMeaning). IsPlain (tex_with effects) (Runs (state_of s)) m) (sym to) went);
      said = said;
      goes = still;
    }

-- what it answers
pub goes-true : (effects : Effects) (went : Bool) (going : Going) (s new : State) → went ≡ true → GoesOn effects went going s new → HasGone effects going s new
goes-true effects true going s new is goes = goes
goes-true effects false going s new is goes = absurd (cc is)

pub goes-false : (effects : Effects) (went : Bool) (going : Going) (s new : State) → went ≡ false → GoesOn effects went going s new → (meaning_of new ≡ meaning_of s) × (new.said ≡ s.said)
goes-false effects true going s new is goes = absurd (cc is)
goes-false effects false going s new is goes = goes

-- by no turn, by one more, and by as many as were counted
pub run-none : (effects : Effects) (s : State) (counted : ℕ) → HasRun effects 0 s s counted counted
run-none effects s counted = record { turns = refl; said = refl; steps = sym (raised-zero counted) }

pub run-more : (effects : Effects) (count : ℕ) (s mid new : State) (going : Going) (before counted after : ℕ) → HasRun effects count s mid before counted → HasGone effects going mid new → after ≡ raised counted 1 → HasRun effects (count + 1) s new before after
run-more effects count s mid new going before counted after run last ticked =
    let turns : ArePlain (tex_with effects) (suc count) (meaning_of s) (meaning_of new) = (meaning_of mid, (run.turns, last.turn)) in
    record {
      turns = subst (λ (n : ℕ). ArePlain (tex_with effects) n (meaning_of s) (meaning_of new)) (sym (add-one count)) turns;
      said = last.said ∙ run.said;
      steps = ticked ∙ ap (λ (n : ℕ). raised n 1) run.steps ∙ raised-raised before count 1;
    }

pub run-still : (effects : Effects) (count : ℕ) (s mid new : State) (before after : ℕ) → HasRun effects count s mid before after → (meaning_of new ≡ meaning_of mid) × (new.said ≡ mid.said) → HasRun effects count s new before after
run-still effects count s mid new before after run is = record {
  turns = subst (λ (m : TexMeaning). ArePlain (tex_with effects) count (meaning_of s) m) (sym is.0) run.turns;
  said = is.1 ∙ run.said;
  steps = run.steps;
}

pub run-passed : (effects : Effects) (count most : ℕ) (s new : State) (before after : ℕ) → HasRun effects count s new before after → count ≤ most → HasPassed (tex_with effects) most (meaning_of s) before after
run-passed effects count most s new before after run within = record { count = count; to = meaning_of new; within = within; turns = run.turns; steps = run.steps }
