use Rattle.std.proofs.Common.{◌≡◌, true, false, ◌∙◌, sym, refl, arith}
use Rattle.std.proofs.lemmas.Int.{ints}
use Rattle.tx_linebreak.specs.Steps.{line_below, line_level}
use Rattle.tx_linebreak.proofs.Levels.{beats-less, beats-level, beats-more}
use Rattle.tx_linebreak.proofs.chains.Chains.beats.Goals as goal

pub returns-then-link-other : goal.returns-then-link-other
returns-then-link-other c = beats-less _ _ c.args.link.now.total c.args.other.now.total c.requires.link.total_is c.requires.other.total_is (omega (arith, ints))

pub returns-then-other-link : goal.returns-then-other-link
returns-then-other-link c = beats-more _ _ c.args.link.now.total c.args.other.now.total c.requires.link.total_is c.requires.other.total_is (omega (arith, ints))

pub returns-then-is_below : goal.returns-then-is_below
returns-then-is_below c =
    let is : line_below c.args.other.now.line c.args.link.now.line ≡ true = sym c.is_below.ensures ∙ c.if-is_below.true in
    beats-level c.args.link.now.line c.args.other.now.line _ _ c.args.link.now.total c.args.other.now.total true c.requires.link.total_is c.requires.other.total_is (omega (arith, ints)) (omega (arith, ints)) (rw is refl)

pub returns-then-is_level : goal.returns-then-is_level
returns-then-is_level c =
    let is : line_below c.args.other.now.line c.args.link.now.line ≡ false = sym c.is_below.ensures ∙ c.if-is_below.false in
    let also : line_level c.args.other.now.line c.args.link.now.line ≡ true = sym c.is_level.ensures ∙ c.if-is_level.true in
    beats-level c.args.link.now.line c.args.other.now.line _ _ c.args.link.now.total c.args.other.now.total c.is_below-then-is_level.result c.requires.link.total_is c.requires.other.total_is (omega (arith, ints)) (omega (arith, ints)) (rw (is, also) c.is_below-then-is_level.ensures)

pub returns-else-is_level : goal.returns-else-is_level
returns-else-is_level c =
    let is : line_below c.args.other.now.line c.args.link.now.line ≡ false = sym c.is_below.ensures ∙ c.if-is_below.false in
    let also : line_level c.args.other.now.line c.args.link.now.line ≡ false = sym c.is_level.ensures ∙ c.if-is_level.false in
    beats-level c.args.link.now.line c.args.other.now.line _ _ c.args.link.now.total c.args.other.now.total c.is_level.result c.requires.link.total_is c.requires.other.total_is (omega (arith, ints)) (omega (arith, ints)) (rw (is, also) c.if-is_level.false)
