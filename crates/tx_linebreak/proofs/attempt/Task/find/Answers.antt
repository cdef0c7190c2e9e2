use Rattle.std.proofs.Common.{◌≡◌, Option, [], subst}
use Rattle.std.specs.Prelude.{IfNone}
use Rattle.tx_linebreak.specs.declared.found.Found.{Found}
use Rattle.tx_linebreak.specs.Chains.{chains_of}
use Rattle.tx_linebreak.specs.Tasks.{attempt_of}
use Rattle.tx_linebreak.proofs.Unique.{answers-none}
use Rattle.tx_linebreak.proofs.attempt.Task.find.Goals as goal

pub returns-in-None-clause-none : goal.returns-in-None-clause-none
returns-in-None-clause-none c =
    let a = attempt_of c.args.self.now in
    answers-none a (subst (λ (o : Option Found). IfNone o (chains_of a ≡ [])) c.in-None.is c.in_ok-find_chain.ensures.none)
