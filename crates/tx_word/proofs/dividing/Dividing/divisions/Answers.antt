use Rattle.std.proofs.Common.{◌+◌, ◌++◌, drop, sym, ap, ◌∙◌}
use Rattle.std.specs.List.{filter_map}
use Rattle.std.proofs.lemmas.List.Elements.{All-get_or}
use Rattle.tx_word.specs.Dividing.{last_in, seam_in}
use Rattle.tx_word.specs.Divisions.{IsBetween, division_at}
use Rattle.tx_word.proofs.Divided.{division-not, division-more, divisions-all}
use Rattle.tx_word.proofs.dividing.Dividing.divisions.Goals as goal
use Rattle.tx_word.proofs.dividing.Dividing.divisions.Goals.{in-None, in-Some+in_ok-push-in-Some}

pub returns : goal.returns
returns c =
    let w = c.args.self.now in
    divisions-all (division_at (seam_in w) (last_in w) w.places.now) w.places.now c.loop-place.place-index c.loop-place.divisions _ c.loop-place-test.false c.loop-place.invariant

pub division_at-requires-clause-within : goal.division_at-requires-clause-within
division_at-requires-clause-within c =
    let w = c.args.self.now in
    (All-get_or (IsBetween w.chars.now) w.places.now c.loop-place.place-index _ c.loop-place-test.true c.requires.between).1

pub loop-place-preserved : goal.loop-place-preserved
loop-place-preserved c =
    let w = c.args.self.now in
    let at = division_at (seam_in w) (last_in w) w.places.now in
    elim c.match-branch-2.branch [
      | in-None v ↦
          ap (λ divisions. divisions ++ filter_map at (drop (c.loop-place.place-index + 1) w.places.now)) v.divisions-is
          ∙ division-not at w.places.now c.loop-place.place-index c.loop-place-test.true c.loop-place.divisions _ c.loop-place.invariant
          (sym c.in_ok-division_at.ensures ∙ v.in-None.is)
      | in-Some+in_ok-push-in-Some v ↦
          division-more at w.places.now c.loop-place.place-index c.loop-place-test.true c.loop-place.divisions _ c.loop-place.invariant
          v.in-Some.division (sym c.in_ok-division_at.ensures ∙ v.in-Some.is) c.match-branch-2.divisions (v.divisions-is ∙ v.in_ok-push-in-Some.ensures.ok)
    ]
