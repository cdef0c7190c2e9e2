use Rattle.std.proofs.Common.{◌≡◌, ◌∙◌, append-nil, refl, sym, ap}
use Rattle.tx_expand.specs.Expanding.{reader_of}
use Rattle.tx_expand.specs.Reader.{Reader}
use Rattle.tx_expand.specs.Turns.{expanding_once}
use Rattle.tx_state.specs.declared.parts.Phase.{Phase}
use Rattle.tx_state.specs.Meanings.{state_of}
use Rattle.tx_state.specs.State.{Runs, meaning_in}
use Rattle.tx_aligning.proofs.preambles.expand_next.Goals as goal

pub returns : goal.returns
returns c =
    let read : reader_of c.expand_once.new.self c.args.s.now.input ≡ expanding_once (reader_of c.args.s.now.expander c.args.s.now.input) = c.in_ok-expand_once.ensures c.args.s.now.input in
    record {
      event_is = refl;
      state_is = ap (λ (p : Phase). meaning_in p (record (state_of c.args.s.now) { reader = reader_of c.expand_once.new.self c.args.s.now.input })) c.requires
          ∙ ap (λ (r : Reader). Runs (record (state_of c.args.s.now) { reader = r })) read;
      said_is = sym (append-nil c.args.s.now.said);
    }
