use Rattle.std.proofs.Common.{◌++◌, [], sym, ap, ◌∙◌, append-nil}
use Rattle.tx_quiesce.specs.Later.{pieces_of}
use Rattle.tx_session.specs.Held.{joined_with}
use Rattle.tx_session.specs.Made.{last_piece}
use Rattle.tx_session.proofs.Saying.{on-ok}
use Rattle.tx_session.proofs.made.append_further.Goals as goal

pub returns-in_ok-append_pieces-in-Goes : goal.returns-in_ok-append_pieces-in-Goes
returns-in_ok-append_pieces-in-Goes g c =
    on-ok c.append.result
    (λ ok. ok ∙ ap (λ last. c.append_pieces.new.said ++ last) c.as_slice-in-Goes.ensures
    ∙ c.in_ok-append_pieces-in-Goes.ensures [] c.in-Goes.rows.last.piece
    ∙ ap (λ pieces. c.args.said.now ++ joined_with pieces c.in-Goes.rows.last.piece) (append-nil c.as_slice.result.now ∙ c.as_slice.ensures.value)
    ∙ (λ i. c.args.said.now ++ joined_with (pieces_of (sym c.in-Goes.is i)) (last_piece c.args.last.now (sym c.in-Goes.is i))))
    c.append.ensures.ok
