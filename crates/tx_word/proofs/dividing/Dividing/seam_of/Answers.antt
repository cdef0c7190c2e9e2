use Rattle.std.proofs.Common.{◌≡◌, ◌≤◌, false, true, cond, length, Option, Some, Bool, arith, rules, sym, ap, subst, ◌∙◌}
use Rattle.std.specs.Prelude.{◌==◌}
use Rattle.std.proofs.lemmas.Result.{IfOk-weaker}
use Rattle.tx_ligkern.specs.declared.seam.Seam.{Seam}
use Rattle.tx_word.specs.Divisions.{first_seam, seam_at}
use Rattle.tx_word.proofs.Divided.{noted-there}
use Rattle.tx_word.proofs.dividing.Dividing.seam_of.Goals as goal

pub returns-then-place-eq0-clause-value : goal.returns-then-place-eq0-clause-value
returns-then-place-eq0-clause-value c =
    let w = c.args.self.now in
    let zero : (c.args.place == 0) ≡ true = search rules in
    let found : Option Seam = seam_at w.fonts.now w.font w.chars.now w.left w.right c.args.place in
    ap (λ (s : Seam). Some s) c.first_seam.ensures ∙ sym (ap (λ (b : Bool). cond b (Some first_seam) found) zero)

pub returns-then-place-eq0-clause-few : goal.returns-then-place-eq0-clause-few
returns-then-place-eq0-clause-few c = subst (λ (s : Seam). s.item ≤ length c.args.self.now.items.now) (sym c.first_seam.ensures) (omega arith)

pub returns-in-Some-clause-value : goal.returns-in-Some-clause-value
returns-in-Some-clause-value c =
    let w = c.args.self.now in
    let apart : (c.args.place == 0) ≡ false = search rules in
    let found : Option Seam = seam_at w.fonts.now w.font w.chars.now w.left w.right c.args.place in
    sym (ap (λ (b : Bool). cond b (Some first_seam) found) apart ∙ (noted-there w c.args.place c.noted.result c.in-Some.seam c.requires.word c.in-Some.is c.noted.ensures).0)

pub returns-in-Some-clause-few : goal.returns-in-Some-clause-few
returns-in-Some-clause-few c = (noted-there c.args.self.now c.args.place c.noted.result c.in-Some.seam c.requires.word c.in-Some.is c.noted.ensures).1

pub returns-in-None-clause-value : goal.returns-in-None-clause-value
returns-in-None-clause-value c =
    let w = c.args.self.now in
    let apart : (c.args.place == 0) ≡ false = search rules in
    let found : Option Seam = seam_at w.fonts.now w.font w.chars.now w.left w.right c.args.place in
    IfOk-weaker c.seam_by_parts.result (λ (o : Option Seam). o ≡ found) _ (λ o e. e ∙ sym (ap (λ (b : Bool). cond b (Some first_seam) found) apart)) c.seam_by_parts.ensures.value
