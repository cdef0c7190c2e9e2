use Rattle.std.proofs.Common.{◌≡◌, ℕ, List, [], ◌∷◌, ◌++◌, length, refl, sym, ap, ◌∙◌, arith}
use Rattle.tx_gen.specs.Draws.{times}
use Rattle.tx_gen.specs.Book.{page, begun, page_starts}
use Rattle.tx_gen.proofs.Times.{Grown, grown-none, grown-more, grown-all}
use Rattle.tx_gen.proofs.Starts.{starts-more}
use Rattle.tx_gen.proofs.book.append_pages.Goals as goal

pub loop-page-init : goal.loop-page-init
loop-page-init c = record { grown = grown-none refl refl; noted = c.requires.none }

pub loop-page-preserved : goal.loop-page-preserved
loop-page-preserved c =
    let grown : Grown page c.loop-page._page c.args.text.now c.args.draws.now c.loop-page.text c.loop-page.draws = c.loop-page.invariant.grown in
    let so_far : c.loop-page.text ≡ begun c.args.draws.now c.loop-page._page = grown.text_is ∙ ap (λ (t : List ℕ). t ++ (times c.loop-page._page page c.args.draws.now).0) c.requires.opened in
    record {
      grown = grown-more grown c.in_ok-append_noted_page.ensures.text c.in_ok-append_noted_page.ensures.draws;
      noted = c.in_ok-append_noted_page.ensures.starts
          ∙ (λ i. c.loop-page.invariant.noted i ++ length (so_far i) ∷ [])
          ∙ sym (starts-more c.args.draws.now c.loop-page._page);
    }

pub returns-clause-text : goal.returns-clause-text
returns-clause-text c =
    let all : c.loop-page._page ≡ c.args.pages = omega arith in
    (grown-all c.loop-page.invariant.grown all).text_is ∙ ap (λ (t : List ℕ). t ++ (times c.args.pages page c.args.draws.now).0) c.requires.opened

pub returns-clause-draws : goal.returns-clause-draws
returns-clause-draws c =
    let all : c.loop-page._page ≡ c.args.pages = omega arith in
    (grown-all c.loop-page.invariant.grown all).state_is

pub returns-clause-starts : goal.returns-clause-starts
returns-clause-starts c =
    let all : c.loop-page._page ≡ c.args.pages = omega arith in
    c.loop-page.invariant.noted ∙ ap (page_starts c.args.draws.now) all
