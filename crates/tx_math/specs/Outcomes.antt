-- What may come of a part of a formula, and of one part after the other.
use Rattle.std.specs.Prelude.{ℕ, List, Result, Ok, Err}
use Rattle.tx_math.specs.declared.error.MathError.{MathError}

-- one after the other, up to the first error
abbrev pub passed : {A B : Type 0} → Result A MathError → (A → Result B MathError) → Result B MathError
passed (Err e) more = Err e
passed (Ok value) more = more value

-- a value and what the transcript has been told with it, or an error, given what it has been told before
abbrev pub Telling : Type 0 → Type 0
Telling A = List ℕ → Result (A × List ℕ) MathError

-- where nothing more is told
abbrev pub given : {A : Type 0} → A → List ℕ → Result (A × List ℕ) MathError
given value told = Ok (value, told)

abbrev pub checked : {A : Type 0} → Result A MathError → List ℕ → Result (A × List ℕ) MathError
checked outcome told = passed outcome (λ value. Ok (value, told))

-- one after the other, up to the first error
abbrev pub and_then : {A B : Type 0} → Telling A → (A → Telling B) → List ℕ → Result (B × List ℕ) MathError
and_then first more told = passed (first told) (λ made. more made.0 made.1)
