use Rattle.tx_lex.proofs.Readings.{rules-along}
use Rattle.tx_lex.proofs.lexer.lex.Goals as goal

pub returns-clause-rules : goal.returns-clause-rules
returns-clause-rules c = rules-along c.args.codes.now c.args.state c.args.rest.now c.lex_on.result c.lex_on.ensures.reading
