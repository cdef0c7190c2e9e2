use Rattle.std.proofs.Common.{◌≡◌, ◌≤◌, ℕ, List, length, Some, Ok, Err, sym, ap, ◌∙◌, arith, subst}
use Rattle.std.specs.Prelude.{◌≢◌, is_some, IfErr}
use Rattle.tx_ship.specs.declared.error.ShipError.TheVariants.{OutOfMemory}
use Rattle.tx_ship.specs.Characters.{widths_of}
use Rattle.tx_ship.specs.Pages.{page_of, page_made}
use Rattle.tx_ship.specs.Placing.{placed}
use Rattle.tx_ship.specs.Registers.{registered, IsAsPlain}
use Rattle.tx_ship.proofs.Steps.{on-err}
use Rattle.tx_dvi.specs.Meaning.{ReaderFonts}
use Rattle.tx_dvi.specs.Page.{Page}
use Rattle.tx_ship.specs.Commands.{written_of}
use Rattle.tx_ship.proofs.Paged.{too-large, outside, too-long, page-is}
use Rattle.tx_ship.proofs.Meanings.{page-means}
use Rattle.tx_ship.proofs.PlainPages.{page-as-plain}
use Rattle.tx_ship.proofs.Turns.{plain-bound}
use Rattle.tx_ship.proofs.ship.body.Goals as goal

pub returns-clause-page : goal.returns-clause-page
returns-clause-page c =
    page-is c.args.fonts.now c.args.node.now c.args.params.now c.in_ok-commands.commands c.in_ok-body.field-0.fonts (sym c.in-Some.ensures.fit) c.in_ok-body.ensures.lies
    (c.in_ok-commands.ensures ∙ ap registered (c.as_slice.ensures.value ∙ c.in_ok-body.ensures.commands)) c.in_ok-body.ensures.fonts
    (omega (arith, c.len.ensures, c.if-len-gt-MAX_BODY.false))
    ∙ ap Ok (sym (c.in_ok-new.ensures ∙ c.page_with-parts.ensures ∙ ap (page_made c.args.node.now c.args.params.now c.in_ok-commands.commands) c.into_defined.ensures.fonts))

-- the body is that of the plain commands, which it leaves short
pub returns-clause-plain : goal.returns-clause-plain
returns-clause-plain c =
    let params = c.args.params.now in
    let plain : List ℕ = (written_of c.args.fonts.now params.defined c.args.node.now params.hoffset params.voffset).0 in
    let is : c.in_ok-commands.commands ≡ registered plain = c.in_ok-commands.ensures ∙ ap registered (c.as_slice.ensures.value ∙ c.in_ok-body.ensures.commands) in
    let short : length (registered plain) ≤ 200000 = subst (λ body. length body ≤ 200000) is (omega (arith, c.len.ensures, c.if-len-gt-MAX_BODY.false)) in
    subst (IsAsPlain params.defined plain) (sym (ap (λ (page : Page). page.body) (c.in_ok-new.ensures ∙ c.page_with-parts.ensures) ∙ is))
    (page-as-plain c.args.fonts.now params.defined c.args.node.now params.hoffset params.voffset short)

pub returns-clause-meaning : goal.returns-clause-meaning
returns-clause-meaning c = λ of_fonts.
    let params = c.args.params.now in
    let plain : List ℕ = (written_of c.args.fonts.now params.defined c.args.node.now params.hoffset params.voffset).0 in
    let is : c.in_ok-commands.commands ≡ registered plain = c.in_ok-commands.ensures ∙ ap registered (c.as_slice.ensures.value ∙ c.in_ok-body.ensures.commands) in
    let short : length (registered plain) ≤ 200000 = subst (λ body. length body ≤ 200000) is (omega (arith, c.len.ensures, c.if-len-gt-MAX_BODY.false)) in
    let page_is = c.in_ok-new.ensures ∙ c.page_with-parts.ensures in
    let body_is = ap (λ (page : Page). page.body) page_is ∙ is in
    let fonts_are : c.into_defined.result ≡ (written_of c.args.fonts.now params.defined c.args.node.now params.hoffset params.voffset).1.fonts.defined = c.into_defined.ensures.fonts ∙ ap (λ (k : ReaderFonts). k.defined) c.in_ok-body.ensures.fonts in
    let as_plain : IsAsPlain params.defined plain (registered plain) = page-as-plain c.args.fonts.now params.defined c.args.node.now params.hoffset params.voffset short in
    (subst (IsAsPlain params.defined plain) (sym body_is) as_plain).means (widths_of c.args.fonts.now) (record { placed = placed c.args.node.now params.hoffset params.voffset; fonts = (written_of c.args.fonts.now params.defined c.args.node.now params.hoffset params.voffset).1.fonts.defined })
    (page-means c.args.fonts.now c.are_fonts.ensures params.defined c.args.node.now params.hoffset params.voffset of_fonts c.in_ok-body.ensures.lies (plain-bound plain short))
    ∙ (λ i. Some (record { placed = placed c.args.node.now params.hoffset params.voffset; fonts = (sym fonts_are ∙ ap (λ (page : Page). page.fonts) (sym page_is)) i }))

pub returns-in_default-clause-error : goal.returns-in_default-clause-error
returns-in_default-clause-error c = λ _. too-large c.args.fonts.now c.args.node.now c.args.params.now (sym c.page_sizes.ensures.fit ∙ ap is_some c.in_default.is)

pub returns-in_err-body-clause-error : goal.returns-in_err-body-clause-error
returns-in_err-body-clause-error c =
    on-err c.from_residual.result c.in_err-body.field-0.0 (λ r. IfErr r (λ e. e ≢ OutOfMemory → page_of c.args.fonts.now c.args.node.now c.args.params.now ≡ Err e)) c.from_residual.ensures.1
    (λ not_memory. outside c.args.fonts.now c.args.node.now c.args.params.now (sym c.in-Some.ensures.fit) (c.in_err-body.ensures.outside not_memory).1
    ∙ ap Err (sym (c.in_err-body.ensures.outside not_memory).0))

pub returns-then-len-gt-MAX_BODY-clause-error : goal.returns-then-len-gt-MAX_BODY-clause-error
returns-then-len-gt-MAX_BODY-clause-error c =
    λ _. too-long c.args.fonts.now c.args.node.now c.args.params.now c.in_ok-commands.commands (sym c.in-Some.ensures.fit) c.in_ok-body.ensures.lies
    (c.in_ok-commands.ensures ∙ ap registered (c.as_slice.ensures.value ∙ c.in_ok-body.ensures.commands)) (omega (arith, c.len.ensures, c.if-len-gt-MAX_BODY.true))
