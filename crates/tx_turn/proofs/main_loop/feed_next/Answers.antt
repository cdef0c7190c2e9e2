use Rattle.std.proofs.Common.{List, ap, ◌∙◌}
use Rattle.tx_char.specs.declared.category.Cat.{Cat}
use Rattle.tx_lex.specs.declared.types.ReadState.{ReadState}
use Rattle.tx_lex.specs.Plain.{category_of}
use Rattle.tx_pending.specs.Plain.{behind_first}
use Rattle.tx_turn.proofs.Commanding.{turned-ok}
use Rattle.tx_turn.proofs.main_loop.feed_next.Goals as goal

pub returns : goal.returns
returns g c =
    turned-ok g.T.Stomach.effects c.args.s.now c.feed_on.new.s c.args.first c.code-code.result c.category-category.result c.pass_first.new.self c.feed_on.result c.requires.commanding c.requires.comes c.code-code.ensures
    (c.category-category.ensures ∙ ap (λ (codes : List Cat). category_of codes c.args.first) c.categories.ensures)
    (c.pass_first.ensures ∙ ap (λ (state : ReadState). behind_first state c.args.s.now.input) c.state_behind.ensures)
    c.feed_on.ensures
