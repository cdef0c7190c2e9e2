use Rattle.std.proofs.Common.{◌≡◌, ◌∙◌, ap, take, ℕ, List, rules}
use Rattle.tx_char.proofs.Words.{alike}
use Rattle.tx_char.proofs.short.Short.stands_alike.Goals as goal

pub returns-then-front-other_front : goal.returns-then-front-other_front
returns-then-front-other_front c = λ ends.
    let back : c.word-back.result ≡ c.word-other_back.result = search rules in
    let count : c.args.self.now.count ≡ c.args.other.now.count = search rules in
    ap (λ (n : ℕ). take n c.args.self.now.bytes) count
    ∙ ap (λ (them : List ℕ). take c.args.other.now.count them)
    (alike c.args.self.now.bytes c.args.other.now.bytes c.word-front.result c.word-other_front.result c.word-back.result c.word-other_back.result (search rules) (search rules) c.word-front.ensures c.word-other_front.ensures c.word-back.ensures c.word-other_back.ensures (search rules) back)
