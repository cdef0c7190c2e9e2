use Rattle.std.proofs.Common.{refl, sym, ◌∙◌}
use Rattle.tx_tfm.proofs.FirstFalse.{sound}
use Rattle.tx_tfm.proofs.font.Font.read.Goals as goal

pub of-requires : goal.of-requires
of-requires c =
    sound c.in-Ok.file c.args.size c.in-Ok-check_header.size (rw c.in-Ok.ensures refl) c.in-Ok-check_header.ensures.kept c.in-Ok-check_header.ensures.size (sym c.in-Ok-None.ensures ∙ c.in-Ok-None.field-0-is)
