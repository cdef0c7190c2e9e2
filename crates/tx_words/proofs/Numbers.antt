-- Texts of one to four digits, and of one to ten.
use Rattle.std.proofs.Common.{◌≡◌, ℕ, ◌^◌, ◌<◌, ◌≤◌, true, List, length, Result, Ok, arith, rules}
use Rattle.std.specs.Char.{is_ascii_digit}
use Rattle.std.specs.List.{list_all}
use Rattle.std.specs.Str.Parse.{digits_value, ParsesUnsigned}
use Rattle.std.proofs.lemmas.Grind.{common_steps}
use Rattle.std.proofs.lemmas.Str.Parse.{IsNumeralModel, numerals_by_value, parse_gives, digits_value_short}
use Rattle.tx_words.specs.Values.{is_number, is_plain}

own : IsNumeralModel (λ ds. list_all is_ascii_digit ds ≡ true) (digits_value 10)
own = numerals_by_value _ (search rules)

-- what `is_number` says
digits : (text : List ℕ) → is_number text ≡ true → list_all is_ascii_digit text ≡ true
digits text is = grind (arith, common_steps)

bounds : (text : List ℕ) → is_number text ≡ true → (0 < length text) × (length text ≤ 4)
bounds text is = grind (arith, common_steps)

-- such a text is parsed
pub parsed : {E : Type 0} (text : List ℕ) (r : Result ℕ E) → ParsesUnsigned 32 10 text r → is_number text ≡ true → r ≡ Ok (digits_value 10 text)
parsed text r parses is =
    let value : digits_value 10 text < 10 ^ 4 = digits_value_short own text 4 (digits text is) (bounds text is).1 in
    parse_gives own 32 text r parses (digits text is) (bounds text is).0 (omega arith)

plain_digits : (text : List ℕ) → is_plain text ≡ true → list_all is_ascii_digit text ≡ true
plain_digits text is = grind (arith, common_steps)

plain_bounds : (text : List ℕ) → is_plain text ≡ true → (0 < length text) × (length text ≤ 10)
plain_bounds text is = grind (arith, common_steps)

pub plain_parsed : {E : Type 0} (text : List ℕ) (r : Result ℕ E) → ParsesUnsigned 64 10 text r → is_plain text ≡ true → r ≡ Ok (digits_value 10 text)
plain_parsed text r parses is =
    let value : digits_value 10 text < 10 ^ 10 = digits_value_short own text 10 (plain_digits text is) (plain_bounds text is).1 in
    parse_gives own 64 text r parses (plain_digits text is) (plain_bounds text is).0 (omega arith)
