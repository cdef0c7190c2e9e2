use Rattle.std.proofs.Common.{◌≡◌, ◌+◌, ◌∷◌, List, drop, sym, ap, ◌∙◌}
use Rattle.std.proofs.lemmas.List.{drop_more}
use Rattle.tx_char.specs.declared.tokens.Token.{Token}
use Rattle.tx_eqtb.specs.Table.{token_meaning}
use Rattle.tx_lettering.specs.Hyphens.{sign_of}
use Rattle.tx_lettering.proofs.Signs.{after-blank, after-letter, at-first}
use Rattle.tx_lettering.proofs.hyphens.words_of.Goals as goal
use Rattle.tx_lettering.proofs.hyphens.words_of.Goals.{in-Letter+in_ok-push-in-Letter, in-Blank+in_ok-keep_word-in-Blank}

pub loop-token-init : goal.loop-token-init
loop-token-init c = rw (c.new-words.ensures.items, c.new-word.ensures) (at-first c.args.table.now.table c.args.numbers c.args.tokens.now)

pub loop-token-preserved : goal.loop-token-preserved
loop-token-preserved c =
    let rest : List Token = drop (c.loop-token.token-index + 1) c.args.tokens.now in
    let is : drop c.loop-token.token-index c.args.tokens.now ≡ c.token-item.result ∷ rest =
    drop_more c.args.tokens.now c.loop-token.token-index c.token-item.result c.loop-token-test.true ∙ ap (λ (t : Token). t ∷ rest) (sym c.token-item.is) in
    let means : sign_of c.args.numbers (token_meaning c.args.table.now.table c.token-item.result) ≡ c.in_ok-sign.sign = sym c.in_ok-sign.ensures in
    elim c.match-sign.branch [
      | in-Letter+in_ok-push-in-Letter w ↦
          rw (w.words-is, w.word-is, w.in_ok-push-in-Letter.ensures.ok)
          (after-letter c.args.table.now.table c.args.numbers c.loop-token.words.items c.loop-token.word c.token-item.result (drop c.loop-token.token-index c.args.tokens.now) rest c.args.tokens.now w.in-Letter.code
          is (means ∙ w.in-Letter.is) c.loop-token.invariant)
      | in-Blank+in_ok-keep_word-in-Blank w ↦
          rw (w.words-is, w.word-is, w.in_ok-keep_word-in-Blank.ensures.words, w.in_ok-keep_word-in-Blank.ensures.word)
          (after-blank c.args.table.now.table c.args.numbers c.loop-token.words.items c.loop-token.word c.token-item.result (drop c.loop-token.token-index c.args.tokens.now) rest c.args.tokens.now
          is (means ∙ w.in-Blank.is) c.loop-token.invariant)
    ]
