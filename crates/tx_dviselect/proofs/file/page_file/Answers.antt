use Rattle.std.proofs.Common.{◌≡◌, ◌++◌, List, w32, FitsSigned, to_z, of_z, to_z-of_z, rules, ap, ◌∙◌}
use Rattle.tx_dvi.specs.declared.font.FontDefinition.{FontDefinition}
use Rattle.tx_dviselect.specs.Alone.{page_bytes, post_bytes}
use Rattle.tx_dviselect.specs.Uses.{borrowed}
use Rattle.tx_dviselect.proofs.Filing.{alone-file}
use Rattle.tx_dviselect.proofs.file.page_file.Goals as goal

pub returns : goal.returns
returns c =
    let earlier = c.args.earlier.now in
    let page = c.args.page.now in
    let start_fits : FitsSigned w32 c.in_ok-start.start = search rules in
    let place_fits : FitsSigned w32 c.in_ok-place.place = search rules in
    let fonts_are : c.in_ok-fonts.fonts ≡ borrowed earlier page.body = c.in_ok-fonts.ensures.fonts ∙ ap (borrowed earlier) c.body.ensures.bytes in
    let first_is : c.as_slice.result.now ≡ borrowed earlier page.body = c.as_slice.ensures ∙ fonts_are in
    let all_are : c.as_slice-2.result.now ≡ borrowed earlier page.body ++ page.fonts = c.as_slice-2.ensures ∙ c.in_ok-append_fonts_of.ensures.fonts ∙ ap (λ (fonts : List FontDefinition). fonts ++ page.fonts) fonts_are in
    alone-file earlier page c.body.ensures.ten c.in_ok-file.ensures
    (c.in_ok-append_page.ensures ∙ ap (λ (fonts : List FontDefinition). c.in_ok-file.file ++ page_bytes page fonts) first_is)
    (to_z-of_z start_fits ∙ c.in_ok-start.ensures) (to_z-of_z place_fits ∙ c.in_ok-place.ensures)
    (c.in_ok-append_post.ensures ∙ ap (λ (fonts : List FontDefinition). c.append_page.new.file ++ post_bytes (to_z w32 (of_z w32 c.in_ok-start.start)) page fonts) all_are)
    c.in_ok-append_post_post.ensures c.in_ok-fill.ensures
