use Rattle.std.proofs.Common.{◌≡◌, ◌≤◌, ◌<◌, ◌+◌, ◌-◌, ◌∙◌, ℕ, suc, length, sym, ap, arith}
use Rattle.tx_word.specs.Dividing.{last_in, seam_in}
use Rattle.tx_word.specs.Divisions.{seam_from}
use Rattle.tx_word.proofs.Divided.{from-found, from-more, from-over}
use Rattle.tx_word.proofs.dividing.Dividing.seam_above.Goals as goal

pub loop-at-init : goal.loop-at-init
loop-at-init c =
    let w = c.args.self.now in
    let next : c.args.place + 1 ≡ suc c.args.place = omega arith in
    (omega (arith, c.requires.within), ap (λ (n : ℕ). seam_from (seam_in w) (last_in w) n (length w.chars.now - n)) next)

pub loop-at-preserved : goal.loop-at-preserved
loop-at-preserved c =
    let w = c.args.self.now in
    let below : c.loop-at.at < length w.chars.now = omega arith in (
      omega (arith, below),
      sym (from-more (seam_in w) (last_in w) c.loop-at.at (length w.chars.now) below (sym c.in_ok-found.ensures.value ∙ c.in_default.is)) ∙ c.loop-at.invariant.1,
    )

pub returns-in-Some : goal.returns-in-Some
returns-in-Some c =
    let w = c.args.self.now in
    sym (from-found (seam_in w) (last_in w) c.loop-at.at (length w.chars.now) c.in-Some.seam (omega arith) (sym c.in_ok-found.ensures.value ∙ c.in-Some.is)) ∙ c.loop-at.invariant.1

pub returns : goal.returns
returns c =
    let w = c.args.self.now in
    let over : length w.chars.now ≤ c.loop-at.at = omega arith in
    c.last_seam.ensures ∙ sym (from-over (seam_in w) (last_in w) c.loop-at.at (length w.chars.now) over) ∙ c.loop-at.invariant.1
