use Rattle.std.proofs.Common.{Option, [], ◌∷◌, ap, ◌∙◌, codes}
use Rattle.tx_io.specs.Output.{Output, Save, told}
use Rattle.tx_call.proofs.Puts.{puts-first, puts-behind}
use Rattle.tx_call.proofs.made.save_made.Goals as goal

pub returns-in_err-save_bytes-clause-puts : goal.returns-in_err-save_bytes-clause-puts
returns-in_err-save_bytes-clause-puts g c =
    puts-first c.from_residual.result (Save (codes "book.tex") c.args.made.now.book ∷ []) (Save (codes "gen.tfm") c.args.made.now.font ∷ Save (codes "gen.vtx") c.args.made.now.script ∷ [])
    c.from_residual.ensures.0 c.in_err-save_bytes.ensures.puts

pub returns-in_err-save_bytes-2-clause-puts : goal.returns-in_err-save_bytes-2-clause-puts
returns-in_err-save_bytes-2-clause-puts g c =
    puts-behind c.from_residual-in_err-save_bytes-2.result _ (Save (codes "book.tex") c.args.made.now.book ∷ []) (Save (codes "gen.tfm") c.args.made.now.font ∷ Save (codes "gen.vtx") c.args.made.now.script ∷ []) _ c.in_ok-save_bytes.ensures.puts
    (puts-first c.from_residual-in_err-save_bytes-2.result (Save (codes "gen.tfm") c.args.made.now.font ∷ []) (Save (codes "gen.vtx") c.args.made.now.script ∷ []) c.from_residual-in_err-save_bytes-2.ensures.0 c.in_err-save_bytes-2.ensures.puts)

pub returns-clause-puts : goal.returns-clause-puts
returns-clause-puts g c =
    puts-behind c.save_bytes-3.result _ (Save (codes "book.tex") c.args.made.now.book ∷ Save (codes "gen.tfm") c.args.made.now.font ∷ []) (Save (codes "gen.vtx") c.args.made.now.script ∷ []) _
    (c.in_ok-save_bytes-2.ensures.puts ∙ ap (λ (o : Option Output). told o (Save (codes "gen.tfm") c.args.made.now.font ∷ [])) c.in_ok-save_bytes.ensures.puts) c.save_bytes-3.ensures.puts
