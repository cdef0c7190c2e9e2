use Rattle.std.proofs.Common.{◌≡◌, ◌≤◌, ◌-◌, ◌∙◌, ℕ, List, length, drop, rules, arith, ap}
use Rattle.std.proofs.lemmas.Result.{on_ok_weaker}
use Rattle.tx_node.specs.Items.{Item}
use Rattle.tx_node.specs.Nodes.{list_of}
use Rattle.tx_hyphenate.specs.Hyphenated.{codes_between, joined, placed, put_between, run_made}
use Rattle.tx_hyphenate.proofs.Runs.{fewer}
use Rattle.tx_hyphenate.proofs.hyphenate.append_anew.Goals as goal

pub run_places-requires-clause-few : goal.run_places-requires-clause-few
run_places-requires-clause-few c =
    let is : list_of c.as_slice.result.now ≡ c.args.items = search rules in
    let first : length (codes_between c.args.start c.args.word (list_of c.as_slice.result.now)) ≡ length (codes_between c.args.start c.args.word c.args.items) =
    ap (λ (items : List Item). length (codes_between c.args.start c.args.word items)) is in
    let all : length c.args.codes.now ≡ length (codes_between c.args.start c.args.end c.args.items) = ap length c.requires.codes in
    let shorter : c.args.word - c.args.start ≤ c.args.end - c.args.start = omega (arith, c.requires.order, c.requires.behind) in
    let le : length (codes_between c.args.start c.args.word c.args.items) ≤ length (codes_between c.args.start c.args.end c.args.items) =
    fewer (drop c.args.start c.args.items) (c.args.word - c.args.start) (c.args.end - c.args.start) shorter in
    omega (arith, first, all, le)

pub returns : goal.returns
returns c =
    let is : list_of c.as_slice.result.now ≡ c.args.items = search rules in
    let places : c.as_slice-2.result.now ≡ placed (length (codes_between c.args.start c.args.word c.args.items)) (length c.args.codes.now) c.args.places.now =
    c.as_slice-2.ensures ∙ c.in_ok-places.ensures.value ∙ (λ i. placed (length (codes_between c.args.start c.args.word (is i))) (length c.args.codes.now) c.args.places.now) in
    on_ok_weaker c.append_run.result
    (λ e. e ∙ ap (λ (ps : List ℕ). joined c.args.made.now (put_between c.args.start c.args.end c.args.items (run_made c.args.fonts.now c.args.font c.args.codes.now ps))) places)
    c.append_run.ensures
