use Rattle.std.proofs.Common.{◌≡◌, rules, to_z, of_z, w64}
use Rattle.std.proofs.lemmas.Result.{on_ok_weaker}
use Rattle.tx_node.specs.Nodes.{list_of}
use Rattle.tx_prim.specs.declared.family.FontNumber.TheVariants.{Hyphen}
use Rattle.tx_tfm.specs.Fonts.{font_integer}
use Rattle.tx_hyphenate.proofs.Runs.{put-told}
use Rattle.tx_hyphenate.proofs.run.append_made.Goals as goal

pub returns : goal.returns
returns c =
    let same : to_z w64 (of_z w64 c.from-hyphen.result) ≡ font_integer Hyphen c.args.fonts.now c.args.font = search rules in
    on_ok_weaker c.append.result
    (λ e. put-told c.args.fonts.now c.args.font c.args.made.now c.append_divided.new.list (list_of c.as_slice.result.now) _ c.report_divisions.new.report c.append.new.self _
    (rw (same, c.new-run.ensures) at c.in_ok-append_divided.ensures.value) (search rules) c.hyphen_lacking-lacking.ensures c.in_ok-report_divisions.ensures e.0)
    c.append.ensures.ok
