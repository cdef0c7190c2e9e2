use Rattle.std.proofs.Common.{◌≡◌, ◌∙◌, false, true, rules, sym}
use Rattle.tx_word.specs.Dividing.{last_in, seam_in}
use Rattle.tx_word.specs.Divisions.{seam_above, seam_below}
use Rattle.tx_word.proofs.Divided.{inside-not, inside-so}
use Rattle.tx_word.proofs.dividing.Dividing.inside.Goals as goal

pub returns-then-not-is_least : goal.returns-then-not-is_least
returns-then-not-is_least c =
    let w = c.args.self.now in
    let fails : c.is_least.result ≡ false = search rules in
    sym (inside-not w.places.now c.args.place c.in_ok-from.from (seam_below (seam_in w) c.args.place) (seam_above (seam_in w) (last_in w) c.args.place) c.in_ok-from.ensures.value (sym c.is_least.ensures ∙ fails))

pub returns : goal.returns
returns c =
    let w = c.args.self.now in
    let holds : c.is_least.result ≡ true = search rules in
    c.between_seams.ensures
    ∙ inside-so w.places.now c.args.place c.in_ok-from.from c.in_ok-to.to (seam_below (seam_in w) c.args.place) (seam_above (seam_in w) (last_in w) c.args.place) c.in_ok-from.ensures.value c.in_ok-to.ensures (sym c.is_least.ensures ∙ holds)
