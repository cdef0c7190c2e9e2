use Rattle.std.proofs.Common.{◌≡◌, ◌∙◌, length, false, true, rules, ap, sym}
use Rattle.std.proofs.lemmas.Result.{on_ok_weaker}
use Rattle.tx_node.specs.Nodes.{list_of}
use Rattle.tx_hyphenate.specs.Hyphenated.{are_there, codes_between, joined, placed, put_between, run_made}
use Rattle.tx_hyphenate.proofs.Wording.{anew, not-anew}
use Rattle.tx_hyphenate.proofs.hyphenate.append_between.Goals as goal

pub append_anew-requires-clause-codes : goal.append_anew-requires-clause-codes
append_anew-requires-clause-codes c =
    let is : list_of c.as_slice.result.now ≡ c.args.items = search rules in
    c.as_slice-then-are_there.ensures ∙ c.in_ok-codes.ensures ∙ ap (codes_between c.args.start c.args.end) is

pub returns-then-are_there : goal.returns-then-are_there
returns-then-are_there c =
    let is : list_of c.as_slice.result.now ≡ c.args.items = search rules in
    let made = c.in_ok-codes.ensures ∙ ap (codes_between c.args.start c.args.end) is in
    let codes : c.as_slice-then-are_there.result.now ≡ codes_between c.args.start c.args.end c.args.items = c.as_slice-then-are_there.ensures ∙ made in
    let there : are_there c.args.fonts.now c.args.font (codes_between c.args.start c.args.end c.args.items) ≡ true =
    ap (are_there c.args.fonts.now c.args.font) (sym (c.as_slice-2.ensures ∙ made)) ∙ sym c.are_there.ensures.value ∙ c.if-are_there.true in
    let same =
    (λ i. put_between c.args.start c.args.end c.args.items (run_made c.args.fonts.now c.args.font (codes i) (placed (length (codes_between c.args.start c.args.word c.args.items)) (length (codes i)) c.args.places.now)))
    ∙ sym (anew c.args.fonts.now c.args.font c.args.word c.args.places.now c.args.items c.args.start c.args.end
    (placed (length (codes_between c.args.start c.args.word c.args.items)) (length (codes_between c.args.start c.args.end c.args.items)) c.args.places.now) there) in
    on_ok_weaker c.append_anew.result (λ e. e ∙ ap (joined c.args.made.now) same) c.append_anew.ensures

pub returns : goal.returns
returns c =
    let is : list_of c.as_slice.result.now ≡ c.args.items = search rules in
    let made = c.in_ok-codes.ensures ∙ ap (codes_between c.args.start c.args.end) is in
    let fails : c.are_there.result ≡ false = search rules in
    let lacking : are_there c.args.fonts.now c.args.font (codes_between c.args.start c.args.end c.args.items) ≡ false =
    ap (are_there c.args.fonts.now c.args.font) (sym (c.as_slice-2.ensures ∙ made)) ∙ sym c.are_there.ensures.value ∙ fails in
    let same = sym (not-anew c.args.fonts.now c.args.font c.args.word c.args.places.now c.args.items c.args.start c.args.end
    (placed (length (codes_between c.args.start c.args.word c.args.items)) (length (codes_between c.args.start c.args.end c.args.items)) c.args.places.now) lacking) in
    on_ok_weaker c.keep.result (λ e. e ∙ ap (joined c.args.made.now) same) c.keep.ensures
