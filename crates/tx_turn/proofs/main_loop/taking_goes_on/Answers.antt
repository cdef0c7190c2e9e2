use Rattle.std.proofs.Common.{List, ap, ◌∙◌}
use Rattle.tx_char.specs.declared.category.Cat.{Cat}
use Rattle.tx_lex.specs.Plain.{category_of}
use Rattle.tx_turn.proofs.Characters.{within-gone, within-stays, IsFirst}
use Rattle.tx_turn.proofs.main_loop.taking_goes_on.Goals as goal

pub returns-then-not-taken : goal.returns-then-not-taken
returns-then-not-taken g c =
    within-stays c.args.s.now c.take_character.new.self c.code-code.result c.category-category.result c.in_ok-taken.taken c.if-not-taken.true c.in_ok-taken.ensures

pub returns : goal.returns
returns g c =
    let is : IsFirst c.args.s.now c.args.first c.code-code.result c.category-category.result c.state_behind.result = record {
      code_is = c.code-code.ensures;
      kind_is = c.category-category.ensures ∙ ap (λ (codes : List Cat). category_of codes c.args.first) c.categories.ensures;
      behind_is = c.state_behind.ensures;
    } in
    within-gone g.T.Stomach.effects c.args.s.now c.args.first c.code-code.result c.category-category.result c.state_behind.result c.take_character.new.self c.pass_first.new.self c.in_ok-taken.taken c.requires.going c.requires.comes is c.if-not-taken.false
    c.in_ok-taken.ensures c.pass_first.ensures
