use Rattle.std.proofs.Common.{◌≡◌, true, Some, None, sym, ap, ◌∙◌}
use Rattle.std.specs.Prelude.{if◌then◌else◌}
use Rattle.std.specs.Result.{result_ok}
use Rattle.std.specs.Str.Parse.{digits_value}
use Rattle.tx_words.specs.Values.{is_plain}
use Rattle.tx_words.proofs.Numbers.{plain_parsed}
use Rattle.tx_words.proofs.values.read_plain.Goals as goal

pub returns : goal.returns
returns c =
    let is : is_plain c.args.text.now ≡ true = cc in
    c.ok.ensures.value ∙ ap result_ok (plain_parsed c.args.text.now c.parse.result c.parse.ensures.value.0 is)
    ∙ ap (λ b. if b then Some (digits_value 10 c.args.text.now) else None) (sym is)
