use Rattle.std.proofs.Common.{◌≡◌, ◌∙◌, ℕ, false, true, rules, sym}
use Rattle.std.proofs.lemmas.Bool.{false≢true, true≢false}
use Rattle.std.proofs.lemmas.List.Elements.{All-get_or}
use Rattle.tx_tfm.specs.Fonts.{has_character}
use Rattle.tx_word.proofs.asked.has_characters.Goals as goal

pub returns-then-not-has_character : goal.returns-then-not-has_character
returns-then-not-has_character c =
    let there : ℕ → Type 0 = λ code. has_character c.args.fonts.now c.args.font code ≡ true in
    let fails : c.has_character.result ≡ false = search rules in (
      λ is. absurd (false≢true is),
      λ all. absurd (true≢false (sym (All-get_or there c.args.chars.now c.loop-code.code-index _ c.loop-code-test.true all) ∙ sym c.has_character.ensures ∙ fails)),
    )
