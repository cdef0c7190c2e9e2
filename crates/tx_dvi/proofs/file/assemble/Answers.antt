use Rattle.std.proofs.Common.{◌≡◌, ◌<◌, ◌^◌, Some, pos, sym, ap, ◌∙◌, rules, arith, w32, FitsSigned, to_z, to_z-of_z}
use Rattle.std.specs.Prelude.{slice_get}
use Rattle.std.proofs.lemmas.Int.{ints}
use Rattle.tx_dvi.proofs.Pages.{assembled, points_back}
use Rattle.tx_dvi.proofs.file.assemble.Goals as goal

returns_file : goal.returns-clause-file
returns_file c =
    let fits : FitsSigned w32 c.in_ok-last.last = search rules in
    let is_first : slice_get c.args.pages.now 0 ≡ Some c.in-Some.first.now = sym c.in-Some.ensures.value in
    let small : c.len-place.result < 2 ^ 31 = omega (arith, c.len-place.ensures, c.in_ok-last.ensures.bound, c.requires) in
    let place : to_z w32 c.len-place.result ≡ pos c.len-place.result = omega (arith, ints, small) in
    assembled c.args.pages.now c.in-Some.first.now is_first c.in_ok-file.ensures.bytes c.in_ok-last.ensures.bytes (to_z-of_z fits ∙ c.in_ok-last.ensures.last)
    (place ∙ ap pos (c.len-place.ensures ∙ c.in_ok-last.ensures.size)) c.in_ok-append_post.ensures c.in_ok-append_post_post.ensures c.in_ok-fill.ensures

pub returns-clause-file : goal.returns-clause-file
returns-clause-file c = returns_file c

pub returns-clause-pointers : goal.returns-clause-pointers
returns-clause-pointers c = λ k page at. rw (returns_file c) (points_back c.args.pages.now c.in_ok-last.ensures.ten k page at)
