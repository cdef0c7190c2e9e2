use Rattle.std.proofs.Common.{refl, sym, if◌then◌else◌}
use Rattle.tx_prim.specs.declared.family.TextUse.TheVariants.{Hyphenation, Patterns}
use Rattle.tx_seen.specs.declared.error.TexError.TheVariants.{BadHyphenation}
use Rattle.tx_state.specs.Ended.{assigned}
use Rattle.tx_state.specs.declared.state.State.{State}
use Rattle.tx_state.specs.Meanings.{state_of}
use Rattle.tx_state.specs.Outcomes.{fails, leaves}
use Rattle.tx_state.proofs.Outcomes.{outcome-by}
use Rattle.tx_lettering.specs.Texts.{using_text}
use Rattle.tx_lettering.proofs.texts.use_text.Goals as goal

pub returns-in-Message : goal.returns-in-Message
returns-in-Message c = rw (c.in-Message.is, ← c.into_tokens-tokens.ensures) (c.print_message.ensures c.args.s.now c.requires)

pub returns-in-UpperCase : goal.returns-in-UpperCase
returns-in-UpperCase c = rw (c.in-UpperCase.is, ← c.into_tokens-tokens.ensures) (c.change_letters.ensures c.args.s.now c.requires)

pub returns-in-LowerCase : goal.returns-in-LowerCase
returns-in-LowerCase c = rw (c.in-LowerCase.is, ← c.into_tokens-tokens.ensures) (c.change_letters-in-LowerCase.ensures c.args.s.now c.requires)

pub returns-in_ok-learned-in-Patterns : goal.returns-in_ok-learned-in-Patterns
returns-in_ok-learned-in-Patterns c =
    let mid : State = record c.args.s.now { hyphenation = c.learn_patterns.new.known } in
    rw (c.in-Patterns.is, ← c.into_tokens-tokens.ensures)
    (outcome-by (if c.in_ok-learned-in-Patterns.learned then leaves (assigned (state_of mid)) else fails BadHyphenation) (using_text (state_of c.args.s.now) Patterns c.into_tokens-tokens.result) c.args.s.now mid c.end_learning.new.s c.end_learning.result
    (sym (c.in_ok-learned-in-Patterns.ensures c.args.s.now refl refl)) refl c.end_learning.ensures)

pub returns-in_ok-learned-in-Hyphenation : goal.returns-in_ok-learned-in-Hyphenation
returns-in_ok-learned-in-Hyphenation c =
    let mid : State = record c.args.s.now { hyphenation = c.learn_exceptions.new.known } in
    rw (c.in-Hyphenation.is, ← c.into_tokens-tokens.ensures)
    (outcome-by (if c.in_ok-learned-in-Hyphenation.learned then leaves (assigned (state_of mid)) else fails BadHyphenation) (using_text (state_of c.args.s.now) Hyphenation c.into_tokens-tokens.result) c.args.s.now mid c.end_learning-in-Hyphenation.new.s c.end_learning-in-Hyphenation.result
    (sym (c.in_ok-learned-in-Hyphenation.ensures c.args.s.now refl refl)) refl c.end_learning-in-Hyphenation.ensures)
