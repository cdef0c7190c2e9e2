use Rattle.std.proofs.Common.{◌≡◌, ℕ, List, [], ◌∷◌, ◌++◌, codes, rules, subst}
use Rattle.tx_io.specs.Output.{Save}
use Rattle.tx_session.specs.Held.{fresh, transcript}
use Rattle.tx_session.specs.Standing.{now}
use Rattle.tx_call.specs.Pieces.{dvi_pieces, log_pieces}
use Rattle.tx_call.specs.Trouble.{PutsOut}
use Rattle.tx_call.proofs.Puts.{puts-first, puts-behind}
use Rattle.tx_call.proofs.outputs.save_document.Goals as goal

pub returns-in_err-save_pages-clause-puts : goal.returns-in_err-save_pages-clause-puts
returns-in_err-save_pages-clause-puts g c =
    puts-first _ (dvi_pieces c.args.name.now (fresh g.M.Machine.formatter (now (g.D.Document.standing c.args.document.now))).ran.pages) (log_pieces c.args.name.now (fresh g.M.Machine.formatter (now (g.D.Document.standing c.args.document.now))).ran)
    c.from_residual.ensures.0 c.in_err-save_pages.ensures.puts

pub returns-clause-puts : goal.returns-clause-puts
returns-clause-puts g c =
    let all : c.said.result.now ≡ transcript (fresh g.M.Machine.formatter (now (g.D.Document.standing c.args.document.now))).ran = search rules in
    puts-behind c.save_as.result _ (dvi_pieces c.args.name.now (fresh g.M.Machine.formatter (now (g.D.Document.standing c.args.document.now))).ran.pages) (log_pieces c.args.name.now (fresh g.M.Machine.formatter (now (g.D.Document.standing c.args.document.now))).ran) _
    c.in_ok-save_pages.ensures.puts
    (subst (λ (text : List ℕ). PutsOut c.save_as.result (g.K.Sink.output c.save_pages.new.sink) (Save (c.args.name.now ++ codes ".log") text ∷ []) (g.K.Sink.output c.save_as.new.sink)) all c.save_as.ensures.puts)
