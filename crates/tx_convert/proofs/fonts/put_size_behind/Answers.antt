use Rattle.std.proofs.Common.{◌≡◌, ℤ, of_z, to_z, w64, ap, rules}
use Rattle.std.proofs.lemmas.Int.{to_z-of_z}
use Rattle.tx_convert.proofs.Used.{size-put}
use Rattle.tx_convert.proofs.fonts.put_size_behind.Goals as goal

pub returns : goal.returns
returns c =
    let passed : to_z w64 (of_z w64 c.size-size.result) ≡ c.size-size.result = to_z-of_z w64 c.size-size.result (search rules) in
    size-put c.args.font.now c.size-size.result (to_z w64 (of_z w64 c.size-size.result)) c.design_size.result c.args.text.now c.put_at.new.text c.put_at.result c.size-size.ensures.value passed c.design_size.ensures.value
    (λ same. c.if-size-design_size.false (ap (λ (z : ℤ). of_z w64 z) same)) c.put_at.ensures
