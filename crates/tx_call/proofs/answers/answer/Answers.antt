use Rattle.tx_call.specs.Tally.{sitting}
use Rattle.tx_call.proofs.Answering.{as-asked, page-said, transcript-said, piece-said}
use Rattle.tx_call.proofs.answers.answer.Goals as goal

pub returns-in-Command-clause-answers : goal.returns-in-Command-clause-answers
returns-in-Command-clause-answers g c = as-asked g.M.Machine.formatter c.in-Command.is c.carry_out.ensures.answers

pub returns-in-File-clause-answers : goal.returns-in-File-clause-answers
returns-in-File-clause-answers g c = as-asked g.M.Machine.formatter c.in-File.is c.put_contents.ensures.answers

pub returns-in-Page-clause-answers : goal.returns-in-Page-clause-answers
returns-in-Page-clause-answers g c =
    as-asked g.M.Machine.formatter c.in-Page.is (page-said g.M.Machine.formatter c.say_page.result c.in-Page.number (sitting c.args.live.now c.args.tally.now) _ _ c.args.steps.now c.say_page.ensures.puts)

pub returns-in-Log-clause-answers : goal.returns-in-Log-clause-answers
returns-in-Log-clause-answers g c =
    as-asked g.M.Machine.formatter c.in-Log.is
    (transcript-said g.M.Machine.formatter c.say_bytes.result (sitting c.args.live.now c.args.tally.now) _ _ c.args.steps.now c.said.result.now c.said.ensures c.say_bytes.ensures.puts)

pub returns-in-LogOf-clause-answers : goal.returns-in-LogOf-clause-answers
returns-in-LogOf-clause-answers g c =
    as-asked g.M.Machine.formatter c.in-LogOf.is (piece-said g.M.Machine.formatter c.say_piece.result c.in-LogOf.number (sitting c.args.live.now c.args.tally.now) _ _ c.args.steps.now c.say_piece.ensures.puts)
