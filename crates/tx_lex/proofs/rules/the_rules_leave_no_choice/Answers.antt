use Rattle.tx_lex.proofs.RuleLaws.{reading-follows, reading-only}
use Rattle.tx_lex.proofs.rules.the_rules_leave_no_choice.Goals as goal

pub returns : goal.returns
returns c = record { follows = reading-follows; only = λ codes state line other. reading-only }
