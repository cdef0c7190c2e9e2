use Rattle.tx_lex.proofs.Loops.{reading-no_name}
use Rattle.tx_lex.proofs.names.read_name.Goals as goal

pub returns-in_default-clause-reading : goal.returns-in_default-clause-reading
returns-in_default-clause-reading g c =
    rw (c.named.ensures, c.in_ok-name.ensures, c.new.ensures)
    (reading-no_name c.args.codes.now c.args.state c.args.line.now c.args.place c.in_default.ensures.read)
