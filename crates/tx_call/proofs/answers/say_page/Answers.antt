use Rattle.std.proofs.Common.{◌≡◌, ◌∷◌, [], List, ℕ, Some, None, inl, inr, sym, ap, subst, ◌∙◌}
use Rattle.tx_io.specs.Output.{Say}
use Rattle.tx_io.proofs.CutShort.{cut-nothing}
use Rattle.tx_session.specs.Held.{fresh}
use Rattle.tx_session.specs.Pages.{page_of}
use Rattle.tx_session.specs.Standing.{now}
use Rattle.tx_call.specs.Lines.{bytes_text, page_head, page_memory_line}
use Rattle.tx_call.specs.Trouble.{PutsOut}
use Rattle.tx_call.proofs.Puts.{puts-cut}
use Rattle.tx_call.proofs.answers.say_page.Goals as goal

pub returns-in_err-line-clause-puts : goal.returns-in_err-line-clause-puts
returns-in_err-line-clause-puts g c = inr (puts-cut c.from_residual.result c.from_residual.ensures.0 (cut-nothing _ _))

pub returns-in_default-clause-puts : goal.returns-in_default-clause-puts
returns-in_default-clause-puts g c =
    let line : c.as_slice.result.now ≡ page_memory_line c.args.number = c.as_slice.ensures ∙ c.in_ok-line.ensures in
    inr (subst (λ (text : List ℕ). PutsOut c.say.result (g.K.Sink.output c.args.sink.now) (Say text ∷ []) (g.K.Sink.output c.say.new.sink)) line c.say.ensures.puts)

pub returns-in_err-head-clause-puts : goal.returns-in_err-head-clause-puts
returns-in_err-head-clause-puts g c = inl (puts-cut c.from_residual-in_err-head.result c.from_residual-in_err-head.ensures.0 (cut-nothing _ _))

pub returns-in-Some-clause-puts : goal.returns-in-Some-clause-puts
returns-in-Some-clause-puts g c =
    let head : c.as_slice-in-Some.result.now ≡ page_head c.args.number = c.as_slice-in-Some.ensures ∙ c.in_ok-head.ensures in
    let page : Some c.as_slice-in-Some-2.result.now ≡ page_of (fresh g.M.Machine.formatter (now c.args.live.now)).ran.pages c.args.number = ap Some c.as_slice-in-Some-2.ensures ∙ sym c.in-Some.is ∙ c.in-Ok.ensures in
    inl (subst (λ (text : List ℕ). PutsOut c.say_bytes.result (g.K.Sink.output c.args.sink.now) (Say text ∷ []) (g.K.Sink.output c.say_bytes.new.sink)) (λ i. bytes_text (head i) (page i)) c.say_bytes.ensures.puts)

pub returns-clause-puts : goal.returns-clause-puts
returns-clause-puts g c =
    let head : c.as_slice-in-None.result.now ≡ page_head c.args.number = c.as_slice-in-None.ensures ∙ c.in_ok-head.ensures in
    let page : None ≡ page_of (fresh g.M.Machine.formatter (now c.args.live.now)).ran.pages c.args.number = sym c.in-None.is ∙ c.in-Ok.ensures in
    inl (subst (λ (text : List ℕ). PutsOut c.say_bytes-in-None.result (g.K.Sink.output c.args.sink.now) (Say text ∷ []) (g.K.Sink.output c.say_bytes-in-None.new.sink)) (λ i. bytes_text (head i) (page i)) c.say_bytes-in-None.ensures.puts)
