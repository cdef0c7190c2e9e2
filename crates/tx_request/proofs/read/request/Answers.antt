use Rattle.std.proofs.Common.{◌≡◌, ℕ, List, [], take, Ok, Err, sym, ◌∙◌, true≢false}
use Rattle.tx_io.specs.Inlet.{line_of}
use Rattle.tx_request.specs.Streaming.{most_line}
use Rattle.tx_request.proofs.Pieces.{asks_as, asks_none, asks_not, nothing_comes, request_fails, request_is}
use Rattle.tx_request.proofs.read.request.Goals as goal

pub returns-then-is_empty-clause-streams : goal.returns-then-is_empty-clause-streams
returns-then-is_empty-clause-streams g c =
    let none : c.in_ok-line.line ≡ [] = c.is_empty.ensures.0 c.if-is_empty.true in
    nothing_comes c.in_ok-line.line (g.I.Inlet.left c.args.inlet.now) (g.I.Inlet.left c.next_line.new.inlet) c.in_ok-line.ensures.took none

pub returns-in_err-behind-in-Ok-clause-streams : goal.returns-in_err-behind-in-Ok-clause-streams
returns-in_err-behind-in-Ok-clause-streams g c =
    let some : c.in_ok-line.line ≡ [] → ⊥ = λ e. true≢false (sym (c.is_empty.ensures.1 e) ∙ c.if-is_empty.false) in
    asks_as c.from_residual-in_err-behind-in-Ok.result c.in_err-behind-in-Ok.field-0.0 (g.I.Inlet.left c.args.inlet.now) (g.I.Inlet.left c.behind.new.inlet) c.from_residual-in_err-behind-in-Ok.ensures.1
    (asks_not c.in_ok-line.line (g.I.Inlet.left c.args.inlet.now) (g.I.Inlet.left c.next_line.new.inlet) (g.I.Inlet.left c.behind.new.inlet) c.in_ok-line.ensures.took some c.in_err-behind-in-Ok.field-0.0
    (request_is c.in_ok-line.line c.as_slice.result.now c.as_slice.ensures c.in-Ok.head c.in-Ok.field-0-1.now c.in-Ok.ensures (g.I.Inlet.left c.args.inlet.now) (g.I.Inlet.left c.next_line.new.inlet) (g.I.Inlet.left c.behind.new.inlet) c.in_ok-line.ensures.took
    (Err c.in_err-behind-in-Ok.field-0.0) c.in_err-behind-in-Ok.ensures.streams))

pub returns-in-Ok-clause-streams : goal.returns-in-Ok-clause-streams
returns-in-Ok-clause-streams g c =
    request_is c.in_ok-line.line c.as_slice.result.now c.as_slice.ensures c.in-Ok.head c.in-Ok.field-0-1.now c.in-Ok.ensures (g.I.Inlet.left c.args.inlet.now) (g.I.Inlet.left c.next_line.new.inlet) (g.I.Inlet.left c.behind.new.inlet) c.in_ok-line.ensures.took
    (Ok c.in_ok-behind-in-Ok.field-0) c.in_ok-behind-in-Ok.ensures.streams

pub returns-clause-streams : goal.returns-clause-streams
returns-clause-streams g c =
    let some : c.in_ok-line.line ≡ [] → ⊥ = λ e. true≢false (sym (c.is_empty.ensures.1 e) ∙ c.if-is_empty.false) in
    asks_not c.in_ok-line.line (g.I.Inlet.left c.args.inlet.now) (g.I.Inlet.left c.next_line.new.inlet) (g.I.Inlet.left c.next_line.new.inlet) c.in_ok-line.ensures.took some c.refused_in.result
    (request_fails c.in_ok-line.line c.as_slice.result.now c.as_slice-in-Err.result.now c.as_slice.ensures c.as_slice-in-Err.ensures c.in-Err.fault c.in-Err.ensures c.refused_in.result c.refused_in.ensures
    (g.I.Inlet.left c.args.inlet.now) (g.I.Inlet.left c.next_line.new.inlet) c.in_ok-line.ensures.took)

pub returns-in_err-line-clause-streams : goal.returns-in_err-line-clause-streams
returns-in_err-line-clause-streams g c =
    asks_as c.from_residual.result c.in_err-line.field-0.0 (g.I.Inlet.left c.args.inlet.now) (g.I.Inlet.left c.next_line.new.inlet) c.from_residual.ensures.1
    (asks_none c.in_err-line.field-0.0 (λ (bytes : List ℕ). take most_line (line_of bytes)) (g.I.Inlet.left c.args.inlet.now) (g.I.Inlet.left c.next_line.new.inlet) c.in_err-line.ensures.took)
