use Rattle.std.proofs.Common.{◌≡◌, ◌+◌, ◌++◌, ℕ, false, is_some, Option, Some, None, List, drop, rules, ap, sym, ◌∙◌}
use Rattle.std.proofs.lemmas.List.{drop-drop}
use Rattle.std.specs.Option.{option_to_list}
use Rattle.tx_pending.specs.Tails.{LineTail}
use Rattle.tx_pending.proofs.line.LineReading.pass_first.Goals as goal

passes : (line : List ℕ) (used : ℕ) (front : Option ℕ) → is_some front ≡ false → option_to_list front ++ drop (used + 1) line ≡ drop 1 (option_to_list front ++ drop used line)
passes line used None none = sym (drop-drop 1 used line)
passes line used (Some code) none = cc

pub returns-then-self-len : goal.returns-then-self-len
returns-then-self-len c =
    let after : List ℕ → LineTail = λ unread. record { unread = unread; state = c.args.state } in
    let none : is_some c.self.inside.front ≡ false = search rules in
    ap after (passes c.self.inside.line.value c.self.inside.used c.self.inside.front none ∙ ap (λ (l : LineTail). drop 1 l.unread) c.self.view_is)
