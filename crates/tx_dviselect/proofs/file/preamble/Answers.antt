use Rattle.std.proofs.Common.{◌≡◌, ℕ, ◌+◌, ◌≤◌, List, length, take, sym, ap, subst, ◌∙◌}
use Rattle.std.specs.Prelude.{IfOk}
use Rattle.std.proofs.lemmas.List.{length-take-le}
use Rattle.tx_dvi.specs.Dvi.{dvi}
use Rattle.tx_dviselect.proofs.Filing.{preamble-front, preamble-within}
use Rattle.tx_dviselect.proofs.file.preamble.Goals as goal

pub slice_bounds-from_slice-end : goal.slice_bounds-from_slice-end
slice_bounds-from_slice-end c =
    let page = c.args.page.now in
    let file = c.as_slice-bytes.result.now in
    let is : file ≡ dvi (c.from_ref.result.now) = c.as_slice-bytes.ensures ∙ c.in_ok-file.ensures.file in
    let file_is = is ∙ ap dvi c.from_ref.ensures.value in
    sym (length-take-le (15 + c.from-len.result) file (subst (λ n. 15 + n ≤ length file) (sym c.from-len.ensures) (preamble-within page file file_is)))

pub returns : goal.returns
returns c =
    let page = c.args.page.now in
    let file = c.as_slice-bytes.result.now in
    let is : file ≡ dvi (c.from_ref.result.now) = c.as_slice-bytes.ensures ∙ c.in_ok-file.ensures.file in
    let file_is = is ∙ ap dvi c.from_ref.ensures.value in
    subst (λ (bytes : List ℕ). IfOk c.from_slice.result (λ it. it ≡ bytes)) (ap (λ n. take (15 + n) file) c.from-len.ensures ∙ preamble-front page file file_is) c.from_slice.ensures
