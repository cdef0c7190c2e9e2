use Rattle.std.proofs.Common.{◌≡◌, ◌<◌, ◌≤◌, Err, List, ℕ, true, false, length, take, sym, subst, arith}
use Rattle.tx_request.specs.Reading.{bytes_at}
use Rattle.tx_request.specs.Streaming.{is_whole, StreamsOf}
use Rattle.tx_request.specs.declared.stopped.Stopped.{Stopped}
use Rattle.tx_request.proofs.Pieces.{bytes_untaken}
use Rattle.tx_request.proofs.Streams.{bytes_cut, bytes_ended, bytes_few, bytes_unended, err_as}
use Rattle.tx_request.proofs.read.bytes_behind.Goals as goal

pub returns-then-len-size-clause-streams : goal.returns-then-len-size-clause-streams
returns-then-len-size-clause-streams g c =
    let short : length c.in_ok-bytes.bytes < c.args.size = omega (arith, c.len.ensures) in
    subst (λ (e : Stopped). StreamsOf {X = List ℕ} (Err e) (bytes_at c.args.size) (g.I.Inlet.left c.args.inlet.now) (g.I.Inlet.left c.next_bytes.new.inlet)) (sym c.refused.ensures)
    (bytes_few c.args.size c.in_ok-bytes.bytes (g.I.Inlet.left c.args.inlet.now) (g.I.Inlet.left c.next_bytes.new.inlet) c.in_ok-bytes.ensures.took short)

pub returns-then-not-is_whole-clause-streams : goal.returns-then-not-is_whole-clause-streams
returns-then-not-is_whole-clause-streams g c =
    let long : c.args.size ≤ length c.in_ok-bytes.bytes = omega (arith, c.len.ensures) in
    let not : is_whole c.in_ok-behind.behind ≡ false = cc (c.if-not-is_whole.ensures, c.as_slice.ensures) in
    subst (λ (e : Stopped). StreamsOf {X = List ℕ} (Err e) (bytes_at c.args.size) (g.I.Inlet.left c.args.inlet.now) (g.I.Inlet.left c.next_bytes-2.new.inlet)) (sym c.refused-then-not-is_whole.ensures)
    (bytes_unended c.args.size c.in_ok-bytes.bytes c.in_ok-behind.behind (g.I.Inlet.left c.next_bytes.new.inlet) (g.I.Inlet.left c.next_bytes-2.new.inlet) long (g.I.Inlet.left c.args.inlet.now) c.in_ok-bytes.ensures.took c.in_ok-behind.ensures.took not)

pub returns-clause-streams : goal.returns-clause-streams
returns-clause-streams g c =
    let long : c.args.size ≤ length c.in_ok-bytes.bytes = omega (arith, c.len.ensures) in
    let whole : is_whole c.in_ok-behind.behind ≡ true = cc (c.if-not-is_whole.ensures, c.as_slice.ensures) in
    bytes_ended c.args.size c.in_ok-bytes.bytes c.in_ok-behind.behind (g.I.Inlet.left c.next_bytes.new.inlet) (g.I.Inlet.left c.next_bytes-2.new.inlet) long (g.I.Inlet.left c.args.inlet.now) c.in_ok-bytes.ensures.took c.in_ok-behind.ensures.took whole

pub returns-in_err-bytes-clause-streams : goal.returns-in_err-bytes-clause-streams
returns-in_err-bytes-clause-streams g c =
    err_as c.from_residual.result c.in_err-bytes.field-0.0 (bytes_at c.args.size) (g.I.Inlet.left c.args.inlet.now) (g.I.Inlet.left c.next_bytes.new.inlet) c.from_residual.ensures.1
    (bytes_untaken c.args.size c.in_err-bytes.field-0.0 (λ (bytes : List ℕ). take c.args.size bytes) (g.I.Inlet.left c.args.inlet.now) (g.I.Inlet.left c.next_bytes.new.inlet) c.in_err-bytes.ensures.took)

pub returns-in_err-behind-clause-streams : goal.returns-in_err-behind-clause-streams
returns-in_err-behind-clause-streams g c =
    let long : c.args.size ≤ length c.in_ok-bytes.bytes = omega (arith, c.len.ensures) in
    err_as c.from_residual-in_err-behind.result c.in_err-behind.field-0.0 (bytes_at c.args.size) (g.I.Inlet.left c.args.inlet.now) (g.I.Inlet.left c.next_bytes-2.new.inlet) c.from_residual-in_err-behind.ensures.1
    (bytes_cut c.args.size c.in_ok-bytes.bytes (g.I.Inlet.left c.args.inlet.now) (g.I.Inlet.left c.next_bytes.new.inlet) (g.I.Inlet.left c.next_bytes-2.new.inlet) long c.in_ok-bytes.ensures.took c.in_err-behind.field-0.0 c.in_err-behind.ensures.took)
