-- Numbers that are drawn, each from the state that the one before it left, and lists that are made of them.
use Rattle.std.specs.Prelude.{ℕ, zero, suc, ◌+◌, ◌*◌, ◌/◌, ◌%◌, ◌^◌, List, [], ◌++◌}

-- the state after a state; the multiplier and the increment are those of Knuth's MMIX
unfoldable pub next : ℕ → ℕ
next state = (6364136223846793005 * state + 1442695040888963407) % 2 ^ 64

-- the number that is drawn in a state, of so many from 0 on
abbrev pub drawn : ℕ → ℕ → ℕ
drawn count state = next state / 2 ^ 33 % count

-- a list with another one behind it, and the state after both
abbrev pub joined : {X : Type 0} → List X × ℕ → List X × ℕ → List X × ℕ
joined front back = (front.0 ++ back.0, back.1)

-- a list, and behind it what is made in the state after it
abbrev pub with_more : {X : Type 0} → List X × ℕ → (ℕ → List X × ℕ) → List X × ℕ
with_more front making = joined front (making front.1)

-- so many lists, each behind those before it
unfoldable pub times : {X : Type 0} → ℕ → (ℕ → List X × ℕ) → ℕ → List X × ℕ
times zero making state = ([], state)
times (suc count) making state = with_more (times count making state) making
