use Rattle.std.proofs.Common.{◌≡◌, ◌≤◌, List, length, ap, subst, ◌∙◌, arith}
use Rattle.std.specs.Prelude.{IfOk}
use Rattle.tx_dvi.specs.Dvi.{dvi}
use Rattle.tx_dvi.specs.Page.{Page}
use Rattle.tx_session.specs.Held.{Held, fresh}
use Rattle.tx_session.proofs.Showing.{shown-pages, shown-few}
use Rattle.tx_session.proofs.session.Session.dvi.Goals as goal

pub assemble-requires : goal.assemble-requires
assemble-requires g c =
    let few : length c.self.inside.made.rows.pages.items ≤ c.self.inside.limits.pages = shown-few c.self.invariant in
    let same : length c.as_slice.result.now ≡ length c.self.inside.made.rows.pages.items = ap length c.as_slice.ensures.value in
    omega (arith, c.self.invariant.limited.pages.1)

pub returns : goal.returns
returns g c = subst (λ (pages : List Page). IfOk c.assemble.result (λ file. file ≡ dvi pages))
    (c.as_slice.ensures.value ∙ shown-pages c.self.invariant ∙ ap (λ (held : Held). (fresh g.M.Machine.formatter held).ran.pages) c.self.view_is) c.assemble.ensures.file
