use Rattle.std.proofs.Common.{◌≡◌, true, Some, None, sym, ap, ◌∙◌}
use Rattle.std.specs.Prelude.{if◌then◌else◌}
use Rattle.std.specs.Result.{result_ok}
use Rattle.std.specs.Str.Parse.{digits_value}
use Rattle.tx_words.specs.Values.{is_number}
use Rattle.tx_words.proofs.Numbers.{parsed}
use Rattle.tx_words.proofs.values.read_number.Goals as goal

pub returns : goal.returns
returns c =
    let is : is_number c.args.text.now ≡ true = cc in
    c.ok.ensures.value ∙ ap result_ok (parsed c.args.text.now c.parse.result c.parse.ensures.value.0 is)
    ∙ ap (λ b. if b then Some (digits_value 10 c.args.text.now) else None) (sym is)
