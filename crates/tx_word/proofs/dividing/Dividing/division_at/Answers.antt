use Rattle.std.proofs.Common.{◌≡◌, ◌∙◌, Option, Some, sym, ap}
use Rattle.std.proofs.lemmas.Result.{IfOk-weaker}
use Rattle.tx_ligkern.specs.declared.seam.Seam.{Seam}
use Rattle.tx_word.specs.declared.division.Division.{Division}
use Rattle.tx_word.specs.Dividing.{last_in, seam_in}
use Rattle.tx_word.specs.Divisions.{division_by, inside, seam_above, seam_below}
use Rattle.tx_word.proofs.dividing.Dividing.division_at.Goals as goal

pub returns-in-Some : goal.returns-in-Some
returns-in-Some c =
    let w = c.args.self.now in
    let other : Option Division = inside w.places.now c.args.place (seam_below (seam_in w) c.args.place) (seam_above (seam_in w) (last_in w) c.args.place) in
    ap (λ (d : Division). Some d) c.at_seam.ensures ∙ ap (λ (o : Option Seam). division_by o other) (sym c.in-Some.is ∙ c.in_ok-seam.ensures.value)

pub returns-in-None : goal.returns-in-None
returns-in-None c =
    let w = c.args.self.now in
    let other : Option Division = inside w.places.now c.args.place (seam_below (seam_in w) c.args.place) (seam_above (seam_in w) (last_in w) c.args.place) in
    IfOk-weaker c.inside.result (λ (o : Option Division). o ≡ other) _ (λ o e. e ∙ ap (λ (o : Option Seam). division_by o other) (sym c.in-None.is ∙ c.in_ok-seam.ensures.value)) c.inside.ensures
