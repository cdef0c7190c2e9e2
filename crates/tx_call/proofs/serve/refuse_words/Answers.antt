use Rattle.tx_call.proofs.ServedFiles.{refuses-short}
use Rattle.tx_call.proofs.serve.refuse_words.Goals as goal

pub returns-in_err-say-clause-refuses : goal.returns-in_err-say-clause-refuses
returns-in_err-say-clause-refuses g c =
    refuses-short c.from_residual.result c.in_err-say.field-0.0 (g.K.Sink.output c.args.sink.now) (g.K.Sink.output c.say.new.sink) c.from_residual.ensures.1 c.in_err-say.ensures.puts
