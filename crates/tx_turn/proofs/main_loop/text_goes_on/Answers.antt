use Rattle.std.proofs.Common.{List, ap, ◌∙◌}
use Rattle.tx_char.specs.declared.category.Cat.{Cat}
use Rattle.tx_char.specs.declared.tokens.Token.TheVariants.{Character}
use Rattle.tx_lex.specs.Plain.{category_of}
use Rattle.tx_turn.proofs.Characters.{text-gone, text-stays, IsFirst}
use Rattle.tx_turn.proofs.main_loop.text_goes_on.Goals as goal

pub returns-then-not-joined : goal.returns-then-not-joined
returns-then-not-joined g c =
    text-stays c.args.s.now c.join_text.new.text (Character c.code-code.result c.category-category.result) c.in_ok-joined.joined c.if-not-joined.true c.in_ok-joined.ensures

pub returns : goal.returns
returns g c =
    let is : IsFirst c.args.s.now c.args.first c.code-code.result c.category-category.result c.state_behind.result = record {
      code_is = c.code-code.ensures;
      kind_is = c.category-category.ensures ∙ ap (λ (codes : List Cat). category_of codes c.args.first) c.categories.ensures;
      behind_is = c.state_behind.ensures;
    } in
    text-gone g.T.Stomach.effects c.args.s.now c.args.first c.code-code.result c.category-category.result c.state_behind.result c.join_text.new.text c.pass_first.new.self c.in_ok-joined.joined c.requires.going c.requires.comes is c.if-not-joined.false
    c.in_ok-joined.ensures c.pass_first.ensures
