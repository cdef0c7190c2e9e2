use Rattle.std.proofs.Common.{◌++◌, [], ap, ◌∙◌, append-nil}
use Rattle.tx_session.specs.Held.{joined_with}
use Rattle.tx_session.proofs.made.transcript.Goals as goal

pub returns : goal.returns
returns c =
    c.in_ok-append.ensures.ok
    ∙ ap (λ last. c.append_pieces.new.said ++ last) c.as_slice.ensures
    ∙ c.in_ok-append_pieces.ensures [] c.args.last.now
    ∙ ap (λ pieces. c.new-said.result ++ joined_with pieces c.args.last.now) (append-nil c.args.pieces.now)
    ∙ ap (λ said. said ++ joined_with c.args.pieces.now c.args.last.now) c.new-said.ensures
