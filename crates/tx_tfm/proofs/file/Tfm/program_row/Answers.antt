use Rattle.std.proofs.Common.{Some, refl, sym, ap, ◌∙◌, arith}
use Rattle.tx_tfm.proofs.Rows.{row-with, boundary-with, boundary-without}
use Rattle.tx_tfm.proofs.file.Tfm.program_row.Goals as goal
use Rattle.tx_tfm.proofs.file.Tfm.program_row.Goals.{in-Some+in_ok-copy_to_boundary, in_default}

pub returns : goal.returns
returns c =
    let t = c.args.self.now in
    let walked = c.in_ok-row.row in
    elim c.match-boundary_code.branch [
      | in-Some+in_ok-copy_to_boundary w ↦ λ left e.
          let copied = w.copy_to_boundary.new.self in
          rw w.row-is (
          row-with t left c.args.start walked copied e c.in_ok-row.ensures w.in_ok-copy_to_boundary.ensures.characters (
          boundary-with t c.args.start w.from.result walked copied (sym w.in-Some.ensures ∙ ap Some (sym w.from.ensures)) (omega arith) c.in_ok-row.ensures (w.in_ok-copy_to_boundary.ensures.boundary c.in_ok-row.ensures.boundary)))
      | in_default w ↦ λ left e.
          rw w.row-is (row-with t left c.args.start walked walked e c.in_ok-row.ensures (λ k less. refl) (boundary-without t c.args.start walked (sym w.in_default.ensures) c.in_ok-row.ensures))
    ]
