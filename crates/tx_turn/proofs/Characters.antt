-- Turns of characters that join a text, an argument, or text that is skipped.
use Rattle.std.proofs.Common.{◌≡◌, ℕ, Bool, true, false, List, [], Option, Some, refl, ap, sym, ◌∙◌}
use Rattle.tx_char.specs.declared.category.Cat.{Cat}
use Rattle.tx_char.specs.declared.category.Cat.TheVariants.{Letter, Other}
use Rattle.tx_char.specs.declared.tokens.Token.{Token}
use Rattle.tx_char.specs.declared.tokens.Token.TheVariants.{Character}
use Rattle.tx_char.specs.Category.{category}
use Rattle.tx_lex.specs.declared.types.PlainToken.{PlainToken}
use Rattle.tx_lex.specs.declared.types.PlainToken.TheVariants.{Set, Blank}
use Rattle.tx_lex.specs.declared.types.ReadState.{ReadState}
use Rattle.tx_lex.specs.Plain.{IsSet, category_of, code_of, is_set, plain_token, state_behind}
use Rattle.tx_eqtb.specs.declared.table.Table.{Table}
use Rattle.tx_eqtb.specs.Table.{token_meaning}
use Rattle.tx_expand.specs.declared.state.Expander.{Expander}
use Rattle.tx_expand.specs.declared.types.Expanded.TheVariants as answer
use Rattle.tx_expand.specs.declared.types.Wanted.{Wanted}
use Rattle.tx_expand.specs.Expanding.{reader, reader_of, world_of}
use Rattle.tx_expand.specs.Reader.{Goes, Reader, World}
use Rattle.tx_expand.specs.Taken.{HasTakenIn, IsTakenIn, character}
use Rattle.tx_expand.specs.Turns.{at_entry, turn}
use Rattle.tx_expand.proofs.Turning.{none-ended, token-turned}
use Rattle.tx_pending.specs.declared.next.Next.TheVariants as front
use Rattle.tx_pending.specs.Elements.{Input, Step, is_at_entry, step}
use Rattle.tx_pending.specs.Plain.{IsNext, behind_first}
use Rattle.tx_seen.specs.declared.meaning.Meaning.TheVariants as meaning
use Rattle.tx_seen.specs.Magnified.{noted}
use Rattle.tx_parts.specs.declared.parts.OpenText.{OpenText}
use Rattle.tx_state.specs.declared.state.State.{State}
use Rattle.tx_state.specs.Meanings.{meaning_of, state_of}
use Rattle.tx_state.specs.Outcomes.{leaves}
use Rattle.tx_state.specs.State.{Runs, TexState, meaning_in}
use Rattle.tx_state.specs.Texts.{HasJoinedSome, is_within, with_ordinary}
use Rattle.tx_state.proofs.Ordinary.{is_ordinary, ordinary-joins, ordinary-open}
use Rattle.tx_turn.specs.Effects.{Effects}
use Rattle.tx_turn.specs.declared.going.Going.TheVariants.{Text, Within}
use Rattle.tx_turn.specs.Going.{HasGone, IsIdle, IsReading}
use Rattle.tx_turn.specs.MainLoop.{behind_plain}
use Rattle.tx_turn.specs.Turns.{goes_on, known_of, outcome, taken_by, texting, turned, wanted_by}
use Rattle.tx_turn.proofs.MainLoop.{behind, gone, meaning-set, plain-goes-on, reads-plain, seen}
use Rattle.tx_turn.proofs.TextTurns.{goes-on}

-- characters that are tokens as they stand are neither braces nor stand for #, and mean themselves
set-ordinary : (kind : Cat) → is_set kind ≡ true → is_ordinary kind ≡ true
set-ordinary Letter set = refl
set-ordinary Other set = refl
set-ordinary _ set = absurd (cc set)

plain-ordinary : (codes : List Cat) (first : PlainToken) → IsSet codes first → is_ordinary (category_of codes first) ≡ true
plain-ordinary codes (Set code) set = set-ordinary (category codes code) set
plain-ordinary codes Blank set = refl

pub plain-means : (table : Table) (first : PlainToken) → IsSet table.categories first → token_meaning table (Character (code_of first) (category_of table.categories first)) ≡ meaning.Character (code_of first) (category_of table.categories first)
plain-means table (Set code) set = meaning-set table code (category table.categories code) set
plain-means table Blank set = refl

plain-is : (codes : List Cat) (first : PlainToken) → plain_token codes first ≡ Character (code_of first) (category_of codes first)
plain-is codes (Set code) = refl
plain-is codes Blank = refl

-- such a one comes next
pub comes-next : (codes : List Cat) (input : Input) (first : PlainToken) → IsNext codes input first → step codes input ≡ record { next = front.Token (Character (code_of first) (category_of codes first)); left = behind_first (state_behind first) input }
comes-next codes input first comes =
    let after : Token → Step = λ t. record { next = front.Token t; left = behind_first (state_behind first) input } in
    comes.next ∙ ap after (plain-is codes first)

-- it joins the text that is open
text-goes : (effects : Effects) (s : TexState) (first : PlainToken) (text : OpenText) → s.due ≡ [] → s.reader.begun ≡ [] → s.text ≡ Some text → is_within text ≡ true → IsNext s.table.table.categories s.reader.input first → outcome effects (Runs s) ≡ leaves (record (behind_plain s first) { text = Some (with_ordinary text (Character (code_of first) (category_of s.table.table.categories first))) })
text-goes effects s first text due begun is_open within comes =
    let code : ℕ = code_of first in
    let kind : Cat = category_of s.table.table.categories first in
    let left : Input = behind_first (state_behind first) s.reader.input in
    let whole : OpenText = with_ordinary text (Character code kind) in
    reads-plain effects s left code kind due begun (plain-means s.table.table first comes.set) (plain-goes-on s.table.table.categories first comes.set) (comes-next s.table.table.categories s.reader.input first comes)
    ∙ ap (taken_by effects (behind s left) (seen code kind)) is_open
    ∙ ap (texting effects (behind s left)) (ordinary-joins text code kind (plain-ordinary s.table.table.categories first comes.set) within)
    ∙ goes-on effects (behind s left) whole (ordinary-open text (Character code kind) within)
    ∙ (λ i. leaves (record s { reader = reader (sym begun i) left s.reader.conditionals s.reader.job; text = Some whole }))

-- which character it is, as code tells it
pub record IsFirst (s : State) (first : PlainToken) (code : ℕ) (kind : Cat) (behind : ReadState) : Type 0 where
  pub code_is : code ≡ code_of first
  pub kind_is : kind ≡ category_of s.table.table.categories first
  pub behind_is : behind ≡ state_behind first

pub text-gone : (effects : Effects) (s : State) (first : PlainToken) (code : ℕ) (kind : Cat) (state : ReadState) (new : Option OpenText) (input : Input) (joined : Bool) → IsIdle s → IsNext s.table.table.categories s.input first → IsFirst s first code kind state → joined ≡ true → HasJoinedSome s.text (Character code kind) joined new → input ≡ behind_first state s.input → HasGone effects Text s (record s { text = new; input = input })
text-gone effects s first code kind state new input true idle comes is went k passed =
    let text : OpenText = k.0 in
    let token_is : Character code kind ≡ Character (code_of first) (category_of s.table.table.categories first) = ap (λ (n : ℕ). Character n kind) is.code_is ∙ ap (λ (c : Cat). Character (code_of first) c) is.kind_is in
    let new_is : new ≡ Some (with_ordinary text (Character (code_of first) (category_of s.table.table.categories first))) = k.1.1.1 ∙ ap (λ (t : Token). Some (with_ordinary text t)) token_is in
    let input_is : input ≡ behind_first (state_behind first) s.input = passed ∙ ap (λ (r : ReadState). behind_first r s.input) is.behind_is in
    let next : TexState = record (behind_plain (state_of s) first) { text = Some (with_ordinary text (Character (code_of first) (category_of s.table.table.categories first))) } in
    let same : state_of (record s { text = new; input = input }) ≡ next = λ i. record (state_of s) { text = new_is i; reader = reader_of s.expander (input_is i) } in
    gone effects s (record s { text = new; input = input }) next Text idle.running idle.due
    (text-goes effects (state_of s) first text idle.due idle.begun k.1.0 k.1.1.0 comes) same refl refl
    (record { running = idle.running; due = idle.due; begun = idle.begun })
text-gone effects s first code kind state new input false idle comes is went k passed = absurd (cc went)

pub text-stays : (s : State) (new : Option OpenText) (t : Token) (joined : Bool) → joined ≡ false → HasJoinedSome s.text t joined new → (meaning_of (record s { text = new }) ≡ meaning_of s) × (s.said ≡ s.said)
text-stays s new t true went k = absurd (cc went)
text-stays s new t false went k = (ap (λ (x : Option OpenText). meaning_of (record s { text = x })) k, refl)

-- it joins what the innermost expansion takes
within-turned : (s : State) (first : PlainToken) (new : Expander) → IsNext s.table.table.categories s.input first → IsTakenIn s.expander (character (code_of first) (category_of s.table.table.categories first)) new
    → turn (world_of (known_of (state_of s)) s.scan.mode) (wanted_by (state_of s) s.text) (reader_of s.expander s.input) ≡ Goes answer.Went (reader_of new (behind_first (state_behind first) s.input))
within-turned s first new comes k =
    let codes : List Cat = s.table.table.categories in
    let code : ℕ = code_of first in
    let kind : Cat = category_of codes first in
    let w : World = world_of (known_of (state_of s)) s.scan.mode in
    let wanted : Wanted = wanted_by (state_of s) s.text in
    let left : Input = behind_first (state_behind first) s.input in
    let given : step codes s.input ≡ record { next = front.Token (Character code kind); left = left } = comes-next codes s.input first comes in
    token-turned w wanted s.expander s.input left codes (front.Token (Character code kind)) (Character code kind) (meaning.Character code kind) k.opening refl
    (sym (ap (λ (x : Step). x.next) given)) (sym (ap (λ (x : Step). x.left) given)) refl (sym (plain-means s.table.table first comes.set))
    ∙ none-ended w wanted (character code kind) (reader_of s.expander left) (ap (at_entry (is_at_entry left)) (plain-goes-on codes first comes.set))
    ∙ k.reads w wanted left

within-goes : (effects : Effects) (s : State) (first : PlainToken) (new : Expander) → s.due ≡ [] → IsNext s.table.table.categories s.input first → IsTakenIn s.expander (character (code_of first) (category_of s.table.table.categories first)) new → outcome effects (Runs (state_of s)) ≡ leaves (record (state_of s) { reader = reader_of new (behind_first (state_behind first) s.input) })
within-goes effects s first new due comes k =
    ap (goes_on effects (state_of s)) due
    ∙ ap (turned effects (state_of s)) (within-turned s first new comes k)
    ∙ ap (λ (m : Option ℕ). leaves (record (state_of s) { reader = reader_of new (behind_first (state_behind first) s.input); magnification = noted s.magnification m })) k.silent

pub within-gone : (effects : Effects) (s : State) (first : PlainToken) (code : ℕ) (kind : Cat) (state : ReadState) (new : Expander) (input : Input) (taken : Bool) → IsReading s → IsNext s.table.table.categories s.input first → IsFirst s first code kind state → taken ≡ true → HasTakenIn s.expander (character code kind) taken new → input ≡ behind_first state s.input → HasGone effects Within s (record s { expander = new; input = input })
within-gone effects s first code kind state new input true reading comes is went k passed =
    let in_new : IsTakenIn s.expander (character (code_of first) (category_of s.table.table.categories first)) new = rw (is.code_is, is.kind_is) at k in
    let input_is : input ≡ behind_first (state_behind first) s.input = passed ∙ ap (λ (r : ReadState). behind_first r s.input) is.behind_is in
    let same : state_of (record s { expander = new; input = input }) ≡ record (state_of s) { reader = reader_of new (behind_first (state_behind first) s.input) } = λ i. record (state_of s) { reader = reader_of new (input_is i) } in
    gone effects s (record s { expander = new; input = input }) (record (state_of s) { reader = reader_of new (behind_first (state_behind first) s.input) }) Within reading.running reading.due
    (within-goes effects s first new reading.due comes in_new) same refl refl
    (record { running = reading.running; due = reading.due })
within-gone effects s first code kind state new input false reading comes is went k passed = absurd (cc went)

pub within-stays : (s : State) (new : Expander) (code : ℕ) (kind : Cat) (taken : Bool) → taken ≡ false → HasTakenIn s.expander (character code kind) taken new → (meaning_of (record s { expander = new }) ≡ meaning_of s) × (s.said ≡ s.said)
within-stays s new code kind true went k = absurd (cc went)
within-stays s new code kind false went k = (ap (λ (r : Reader). meaning_in s.phase (record (state_of s) { reader = r })) (k s.input), refl)
