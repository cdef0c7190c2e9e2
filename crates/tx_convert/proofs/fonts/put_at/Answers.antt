use Rattle.std.proofs.Common.{◌≡◌, rules}
use Rattle.tx_num.specs.Decimals.{scaled_text_of}
use Rattle.tx_convert.proofs.Used.{points-put}
use Rattle.tx_convert.proofs.fonts.put_at.Goals as goal

pub returns : goal.returns
returns c =
    let points : c.as_slice.result.now ≡ scaled_text_of c.args.size = first_of (search rules, cc) in
    points-put c.args.size c.args.text.now c.append.new.self c.append-2.new.self c.append-3.new.self c.as_slice.result.now c.append-3.result c.in_ok-append.ensures.ok c.in_ok-append-2.ensures.ok points c.append-3.ensures.ok
