use Rattle.std.proofs.Common.{◌≡◌, ◌-◌, ◌<◌, length, ap, ◌∙◌, arith}
use Rattle.tx_session.specs.Held.{Held, fresh, body_of}
use Rattle.tx_session.proofs.Showing.{shown-pages, body-at}
use Rattle.tx_session.proofs.session.Session.body.Goals as goal

pub index-requires : goal.index-requires
index-requires g c =
    let same : length c.self.inside.made.rows.pages.items ≡ length (fresh g.M.Machine.formatter c.args.self.now).ran.pages =
    ap length (shown-pages c.self.invariant) ∙ ap (λ (held : Held). length (fresh g.M.Machine.formatter held).ran.pages) c.self.view_is in
    omega (arith, c.requires.0, c.requires.1)

pub returns : goal.returns
returns g c =
    let same : length c.self.inside.made.rows.pages.items ≡ length (fresh g.M.Machine.formatter c.args.self.now).ran.pages =
    ap length (shown-pages c.self.invariant) ∙ ap (λ (held : Held). length (fresh g.M.Machine.formatter held).ran.pages) c.self.view_is in
    let within : c.args.n - 1 < length c.self.inside.made.rows.pages.items = omega (arith, c.requires.0, c.requires.1) in
    c.body.ensures.bytes
    ∙ body-at c.self.inside.made.rows.pages.items c.args.n c.index.result.now c.index.ensures within
    ∙ ap (λ pages. body_of pages c.args.n) (shown-pages c.self.invariant)
    ∙ ap (λ (held : Held). body_of (fresh g.M.Machine.formatter held).ran.pages c.args.n) c.self.view_is
