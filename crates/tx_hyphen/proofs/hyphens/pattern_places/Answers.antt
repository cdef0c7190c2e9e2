use Rattle.std.proofs.Common.{◌∙◌}
use Rattle.tx_hyphen.proofs.Odd.{odd-places-lent}
use Rattle.tx_hyphen.proofs.hyphens.pattern_places.Goals as goal

pub returns : goal.returns
returns c =
    c.in_ok-places.ensures
    ∙ odd-places-lent c.args.patterns.now c.args.letters.now c.as_slice.result.now c.in_ok-levels.levels
    c.as_slice-2.result.now c.args.first c.args.end c.requires.within (c.as_slice.ensures ∙ c.in_ok-text.ensures)
    c.as_slice-2.ensures c.in_ok-levels.ensures.0 c.in_ok-levels.ensures.1
