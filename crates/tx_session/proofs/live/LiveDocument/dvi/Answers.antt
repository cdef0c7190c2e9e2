use Rattle.std.proofs.Common.{◌≡◌, ◌++◌, List, length, length-append, sym, ap, ◌∙◌, arith}
use Rattle.tx_dvi.specs.Page.{Page}
use Rattle.tx_session.specs.Held.{Held, fresh}
use Rattle.tx_session.proofs.Living.{few-pages, held-is}
use Rattle.tx_session.proofs.live.LiveDocument.dvi.Goals as goal

pub assemble-requires : goal.assemble-requires
assemble-requires g c =
    let first = c.shown.result.0.now in
    let others = c.shown.result.1.now in
    let same = ap length c.shown.ensures ∙ ap (λ (held : Held). length (fresh g.M.Machine.formatter held).ran.pages) (sym (held-is c.self.invariant c.self.view_is)) in
    omega (arith, same, length-append first others, few-pages c.self.invariant, c.self.invariant.led.shows.limited.pages.1)

pub assemble-requires-2 : goal.assemble-requires-2
assemble-requires-2 g c =
    let first = c.shown.result.0.now in
    let others = c.shown.result.1.now in
    let same = ap length c.shown.ensures ∙ ap (λ (held : Held). length (fresh g.M.Machine.formatter held).ran.pages) (sym (held-is c.self.invariant c.self.view_is)) in
    let are : c.as_slice.result.now ≡ first ++ others = c.as_slice.ensures.value ∙ c.in_ok-append_shared-2.ensures
    ∙ ap (λ (pages : List Page). pages ++ others) (c.in_ok-append_shared.ensures ∙ ap (λ (pages : List Page). pages ++ first) c.new-pages.ensures.items) in
    let size = ap length are in
    omega (arith, same, size, few-pages c.self.invariant, c.self.invariant.led.shows.limited.pages.1)
