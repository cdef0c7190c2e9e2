use Rattle.std.proofs.Common.{◌≡◌, length, refl, arith}
use Rattle.tx_gen.proofs.Times.{grown-none, grown-more, grown-all}
use Rattle.tx_gen.proofs.edits.append_edits.Goals as goal

pub loop-edit-init : goal.loop-edit-init
loop-edit-init c = grown-none refl refl

pub loop-edit-preserved : goal.loop-edit-preserved
loop-edit-preserved c = grown-more c.loop-edit.invariant c.in_ok-append_edit.ensures.text c.in_ok-append_edit.ensures.draws

pub returns : goal.returns
returns c =
    let all : c.loop-edit._edit ≡ length c.args.starts.now = omega arith in
    (grown-all c.loop-edit.invariant all).text_is
