use Rattle.std.proofs.Common.{refl, Ok}
use Rattle.tx_seen.specs.declared.error.TexError.TheVariants.{BadFont}
use Rattle.tx_state.specs.declared.state.State.{State}
use Rattle.tx_state.specs.Meanings.{state_of}
use Rattle.tx_state.specs.Outcomes.{fails}
use Rattle.tx_lettering.specs.Fonts.{naming_font}
use Rattle.tx_lettering.proofs.Loads.{loads}
use Rattle.tx_lettering.proofs.fonts.load_font.Goals as goal

pub returns-in-Some-loaded : goal.returns-in-Some-loaded
returns-in-Some-loaded c =
    let mid : State = record c.args.s.now { words = c.read_font.new.words } in
    loads c.args.s.now c.name_font.new.s c.args.request c.in-Some.bytes c.read_font.new.words (naming_font (state_of mid) c.args.request.defined c.args.request.global c.in-Some-loaded.added) c.name_font.result
    c.in-Some.is (rw c.in-Some-loaded.is at (c.in_ok-loaded.ensures c.args.s.now c.args.request refl refl refl refl)) c.name_font.ensures

pub returns-in-None : goal.returns-in-None
returns-in-None c =
    loads {E = Unit {0}} c.args.s.now c.fail-in-None.new.s c.args.request c.in-Some.bytes c.read_font.new.words (fails BadFont) (Ok c.fail-in-None.result)
    c.in-Some.is (rw c.in-None.is at (c.in_ok-loaded.ensures c.args.s.now c.args.request refl refl refl refl)) c.fail-in-None.ensures
