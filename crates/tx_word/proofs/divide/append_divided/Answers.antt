use Rattle.std.proofs.Common.{◌≡◌, ◌++◌, ◌∙◌, Some, of_z, to_z, w64, rules, sym, ap}
use Rattle.std.proofs.lemmas.Result.{on_ok_weaker}
use Rattle.tx_word.specs.Divisions.{divided_by, hyphen_code}
use Rattle.tx_word.proofs.divide.append_divided.Goals as goal

pub returns-in-Some-clause-value : goal.returns-in-Some-clause-value
returns-in-Some-clause-value c =
    let same : to_z w64 (of_z w64 c.args.hyphen) ≡ c.args.hyphen = search rules in
    let code : Some c.in-Some.hyphen ≡ hyphen_code c.args.hyphen = sym c.in-Some.is ∙ c.hyphen_code.ensures ∙ ap hyphen_code same in
    on_ok_weaker c.append_with_hyphens.result
    (λ e. e ∙ (λ i. c.args.list.now ++ divided_by c.args.fonts.now c.args.font c.args.chars.now c.args.left c.args.right c.args.places.now (code i) (c.in_ok-made.ensures.value i)))
    c.append_with_hyphens.ensures
