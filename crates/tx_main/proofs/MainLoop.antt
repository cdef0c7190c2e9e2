-- What characters and spaces of the main loop make of the state, where the main loop goes on.
use Rattle.std.proofs.Common.{◌≡◌, ◌||◌, append-nil, ℕ, Bool, true, false, List, [], ◌∷◌, Some, if◌then◌else◌, refl, ap, sym, subst, ◌∙◌}
use Rattle.tx_char.specs.declared.category.Cat.{Cat}
use Rattle.tx_char.specs.declared.category.Cat.TheVariants.{Letter, Other, Space}
use Rattle.tx_char.specs.Category.{category}
use Rattle.tx_lex.specs.declared.types.ReadState.TheVariants.{M, S}
use Rattle.tx_lex.specs.Plain.{is_set}
use Rattle.tx_box.specs.declared.parts.Lists.{Lists}
use Rattle.tx_box.specs.Sources.{appended}
use Rattle.tx_reading.specs.declared.single.AtOnce.TheVariants as at_once
use Rattle.tx_command.specs.declared.types.Command.TheVariants as command
use Rattle.tx_command.specs.declared.types.Head.{Head}
use Rattle.tx_command.specs.declared.types.Head.TheVariants.{Fresh}
use Rattle.tx_command.specs.Commands.{delimiting_before, is_accenting}
use Rattle.tx_expand.specs.Expanding.{reader}
use Rattle.tx_nest.specs.Changed.{with_nodes}
use Rattle.tx_nest.specs.Lending.{with_top}
use Rattle.tx_node.specs.Items.{Item, plain}
use Rattle.tx_node.specs.declared.plain.Plain.TheVariants.{Glue}
use Rattle.tx_num.specs.Glue.{GlueSpec}
use Rattle.tx_pending.specs.Elements.{Input}
use Rattle.tx_pending.specs.Plain.{behind_first}
use Rattle.tx_seen.specs.Seen.{continues_word}
use Rattle.tx_tfm.specs.Fonts.{has_character}
use Rattle.tx_word.specs.Collecting.{collected, font_of}
use Rattle.tx_word.specs.Factors.{factor_behind}
use Rattle.tx_word.specs.Spaces.{space_between}
use Rattle.tx_state.specs.declared.state.State.{State}
use Rattle.tx_state.specs.Meanings.{state_of}
use Rattle.tx_state.specs.Outcomes.{Outcome, leaves}
use Rattle.tx_state.specs.State.{TexState, Runs}
use Rattle.tx_turn.specs.declared.going.Going.TheVariants.{Letters}
use Rattle.tx_turn.specs.Going.{HasGone}
use Rattle.tx_turn.specs.MainLoop.{AwaitsToken, IsLooping}
use Rattle.tx_turn.specs.Turns.{outcome, taking}
use Rattle.tx_turn.proofs.MainLoop.{alone-set, alone-space, awaits-behind, behind, gone, meaning-set, reads-character, seen, set-goes-on, takes-alone}
use Rattle.tx_lettering.specs.Words.{before_token, collecting_into, current_font, factor_now, factored, gluing, in_paragraph, space_code, spacing, with_more, word_ended, word_params}
use Rattle.tx_lettering.proofs.Collects.{collected_by}
use Rattle.tx_main.specs.Effects.{character_by, character_in, effect}
use Rattle.tx_main.specs.MainLoop.{IsLetterNext, IsSpaceNext, lettered, spaced}
use Rattle.tx_main.specs.Turns.{tex_effects}

continues-set : (code : ℕ) (kind : Cat) → is_set kind ≡ true → continues_word (seen code kind) ≡ true
continues-set code Letter set = refl
continues-set code Other set = refl
continues-set code _ set = cc

-- one that is set ends no word, and a space does
stays : (s : TexState) (code : ℕ) (kind : Cat) → AwaitsToken s → is_set kind ≡ true → before_token s (seen code kind) ≡ s
stays s code kind awaits set = λ i. if awaits.taken i || continues-set code kind set i then s else word_ended s

ends : (s : TexState) → AwaitsToken s → before_token s (seen 32 Space) ≡ word_ended s
ends s awaits = λ i. if awaits.taken i || false then s else word_ended s

-- no item more is nothing
appended-none : (lists : Lists) → appended lists [] ≡ lists
appended-none lists = ap (λ (nodes : List Item). record lists { nest = with_top lists.nest (with_nodes lists.nest.innermost nodes) }) (append-nil lists.nest.innermost.nodes)

-- what comes of a character that is set, in a list of this space factor
abbrev set_by : TexState → Bool → ℕ → ℕ → ℕ → Outcome
set_by s there font factor code = collecting_into s code (collected_by there s.words (in_paragraph s) font code) (factor_behind factor (space_code s.table.table code))

sets : (s : TexState) (font factor code : ℕ) → s.head ≡ Fresh → font ≡ current_font s.table.table → factor_now s ≡ Some factor → has_character s.words.fonts (font_of s.words.word font) code ≡ true → effect s (command.Character code) ≡ set_by s true font factor code
sets s font factor code fresh is_font has_factor has =
    ap (λ (head : Head). character_by s code (is_accenting head) (delimiting_before head)) fresh
    ∙ ap (character_in s code) has_factor
    ∙ (λ i. collecting_into s code (collected s.words (in_paragraph s) (sym is_font i) code) (factor_behind factor (space_code s.table.table code)))
    ∙ ap (λ (there : Bool). set_by s there font factor code) has

set-behind : (s : TexState) (font factor code : ℕ) → s.reader.begun ≡ [] → set_by (behind s (behind_first M s.reader.input)) true font factor code ≡ leaves (lettered s font factor code)
set-behind s font factor code begun =
    let lists : Lists = factored s.lists (factor_behind factor (space_code s.table.table code)) in
    λ i. leaves (record (lettered s font factor code) { reader = reader (sym begun i) (behind_first M s.reader.input) s.reader.conditionals s.reader.job; lists = appended-none lists i })

letter-goes : (s : TexState) (font factor code : ℕ) → AwaitsToken s → font ≡ current_font s.table.table → factor_now s ≡ Some factor → IsLetterNext s font code → outcome tex_effects (Runs s) ≡ leaves (lettered s font factor code)
letter-goes s font factor code awaits is_font has_factor next =
    let kind : Cat = category s.table.table.categories code in
    let left : Input = behind_first M s.reader.input in
    reads-character tex_effects s left code kind awaits (meaning-set s.table.table code kind next.comes.set) (set-goes-on kind next.comes.set) next.comes.next
    ∙ ap (λ (t : TexState). taking tex_effects t (seen code kind)) (stays (behind s left) code kind (awaits-behind s left awaits) next.comes.set)
    ∙ takes-alone tex_effects (behind s left) code kind (at_once.Character code) (awaits-behind s left awaits) (alone-set s.mode code kind awaits.horizontal next.comes.set)
    ∙ sets (behind s left) font factor code awaits.head is_font has_factor next.has
    ∙ set-behind s font factor code awaits.begun

-- what comes of a space there
spaces : (s : TexState) (font factor : ℕ) (glue : GlueSpec) → font ≡ current_font s.table.table → factor_now s ≡ Some factor → space_between s.words.fonts (word_params s.table.table) font factor ≡ Some glue → effect s command.Space ≡ leaves (with_more s (plain (Glue glue) ∷ []))
spaces s font factor glue is_font has_factor is_glue =
    ap (spacing s) has_factor
    ∙ (λ i. gluing s (space_between s.words.fonts (word_params s.table.table) (sym is_font i) factor))
    ∙ ap (gluing s) is_glue

space-behind : (s : TexState) (glue : GlueSpec) → s.reader.begun ≡ [] → leaves (with_more (word_ended (behind s (behind_first S s.reader.input))) (plain (Glue glue) ∷ [])) ≡ leaves (spaced s glue)
space-behind s glue begun = λ i. leaves (record (spaced s glue) { reader = reader (sym begun i) (behind_first S s.reader.input) s.reader.conditionals s.reader.job })

awaits-ended : (s : TexState) → AwaitsToken s → AwaitsToken (word_ended s)
awaits-ended s awaits = record { due = awaits.due; text = awaits.text; begun = awaits.begun; head = awaits.head; taken = awaits.taken; horizontal = awaits.horizontal }

space-goes : (s : TexState) (font factor : ℕ) (glue : GlueSpec) → AwaitsToken s → font ≡ current_font s.table.table → factor_now s ≡ Some factor → IsSpaceNext s font factor glue → outcome tex_effects (Runs s) ≡ leaves (spaced s glue)
space-goes s font factor glue awaits is_font has_factor next =
    let left : Input = behind_first S s.reader.input in
    reads-character tex_effects s left 32 Space awaits refl refl next.comes.next
    ∙ ap (λ (t : TexState). taking tex_effects t (seen 32 Space)) (ends (behind s left) (awaits-behind s left awaits))
    ∙ takes-alone tex_effects (word_ended (behind s left)) 32 Space at_once.Space (awaits-ended (behind s left) (awaits-behind s left awaits)) (alone-space s.mode awaits.horizontal)
    ∙ spaces (word_ended (behind s left)) font factor glue is_font has_factor next.glue_is
    ∙ space-behind s glue awaits.begun

-- the main loop goes on from there
loops-on : (s new : State) (next : TexState) (font : ℕ) → IsLooping s font → AwaitsToken next → current_font s.table.table ≡ current_font next.table.table → state_of new ≡ next → new.phase ≡ s.phase → IsLooping new font
loops-on s new next font looping awaits same_font is phase = record {
  running = phase ∙ looping.running;
  awaits = subst (λ (t : TexState). AwaitsToken t) (sym is) awaits;
  font_is = looping.font_is ∙ same_font ∙ ap (λ (t : TexState). current_font t.table.table) (sym is);
}

pub letter-gone : (s new : State) (font factor code : ℕ) → IsLooping s font → factor_now (state_of s) ≡ Some factor → IsLetterNext (state_of s) font code → state_of new ≡ lettered (state_of s) font factor code → new.phase ≡ s.phase → new.said ≡ s.said → HasGone tex_effects (Letters font) s new
letter-gone s new font factor code looping has_factor next is phase said =
    let after : TexState = lettered (state_of s) font factor code in
    let awaits : AwaitsToken after = record { due = looping.awaits.due; text = looping.awaits.text; begun = looping.awaits.begun; head = looping.awaits.head; taken = looping.awaits.taken; horizontal = looping.awaits.horizontal } in
    gone tex_effects s new after (Letters font) looping.running looping.awaits.due (letter-goes (state_of s) font factor code looping.awaits looping.font_is has_factor next) is phase said
    (loops-on s new after font looping awaits refl is phase)

pub space-gone : (s new : State) (font factor : ℕ) (glue : GlueSpec) → IsLooping s font → factor_now (state_of s) ≡ Some factor → IsSpaceNext (state_of s) font factor glue → state_of new ≡ spaced (state_of s) glue → new.phase ≡ s.phase → new.said ≡ s.said → HasGone tex_effects (Letters font) s new
space-gone s new font factor glue looping has_factor next is phase said =
    let after : TexState = spaced (state_of s) glue in
    let awaits : AwaitsToken after = record { due = looping.awaits.due; text = looping.awaits.text; begun = looping.awaits.begun; head = looping.awaits.head; taken = looping.awaits.taken; horizontal = looping.awaits.horizontal } in
    gone tex_effects s new after (Letters font) looping.running looping.awaits.due (space-goes (state_of s) font factor glue looping.awaits looping.font_is has_factor next) is phase said
    (loops-on s new after font looping awaits refl is phase)
