-- What \expandafter held back comes in front, token by token.
use Rattle.std.proofs.Common.{◌≡◌, ◌<◌, ℕ, Some, None, List, [], ◌∷◌, drop, length, refl, ap, sym, ◌∙◌, arith}
use Rattle.tx_char.specs.declared.tokens.Token.{Token}
use Rattle.tx_pending.specs.Elements.{Input, with_token}
use Rattle.tx_cond.specs.declared.types.Conditional.{Conditional}
use Rattle.tx_expand.specs.declared.begun.Begun.{Begun}
use Rattle.tx_expand.specs.declared.begun.Begun.TheVariants as begun
use Rattle.tx_expand.specs.Expanding.{reader}
use Rattle.tx_expand.specs.Turns.{held_back, released, without_once}

-- none is held back
pub none-held : (bs : List Begun) (input : Input) (conditionals : List Conditional) (job : List ℕ) → held_back bs ≡ None → released (reader bs input conditionals job) ≡ reader (without_once bs) input conditionals job
none-held [] input conditionals job is = refl
none-held (begun.Use u ∷ outer) input conditionals job is = refl
none-held (begun.After ∷ outer) input conditionals job is = refl
none-held (begun.Before t ∷ outer) input conditionals job is = absurd (cc)
none-held (begun.Once ∷ outer) input conditionals job is = refl
none-held (begun.Hold ∷ outer) input conditionals job is = refl
none-held (begun.Print what ∷ outer) input conditionals job is = refl
none-held (begun.Scanning scan ∷ outer) input conditionals job is = refl
none-held (begun.Skipping depth ∷ outer) input conditionals job is = refl
none-held (begun.Opening ∷ outer) input conditionals job is = refl

-- the innermost one that is held back
is-held : (bs : List Begun) (t : Token) → held_back bs ≡ Some t → (outer : List Begun) × (bs ≡ begun.Before t ∷ outer)
is-held [] t is = absurd (cc)
is-held (begun.Use u ∷ outer) t is = absurd (cc)
is-held (begun.After ∷ outer) t is = absurd (cc)
is-held (begun.Once ∷ outer) t is = absurd (cc)
is-held (begun.Before u ∷ outer) t is = let same : u ≡ t = cc in (outer, ap (λ (x : Token). begun.Before x ∷ outer) same)
is-held (begun.Hold ∷ outer) t is = absurd (cc)
is-held (begun.Print what ∷ outer) t is = absurd (cc)
is-held (begun.Scanning scan ∷ outer) t is = absurd (cc)
is-held (begun.Skipping depth ∷ outer) t is = absurd (cc)
is-held (begun.Opening ∷ outer) t is = absurd (cc)

pub one-released : (bs left : List Begun) (t : Token) (input new : Input) (conditionals : List Conditional) (job : List ℕ) → held_back bs ≡ Some t → left ≡ drop 1 bs → new ≡ with_token input t → released (reader left new conditionals job) ≡ released (reader bs input conditionals job)
one-released bs left t input new conditionals job is rest put =
    let whole = is-held bs t is in
    let same : left ≡ whole.0 = rest ∙ ap (λ (them : List Begun). drop 1 them) whole.1 in
    ap (λ (them : List Begun). released (reader them new conditionals job)) same
    ∙ (ap (λ (i : Input). released (reader whole.0 i conditionals job)) put
    ∙ ap (λ (them : List Begun). released (reader them input conditionals job)) (sym whole.1))

-- fewer have begun then
pub fewer-held : (bs left : List Begun) (t : Token) → held_back bs ≡ Some t → left ≡ drop 1 bs → length left < length bs
fewer-held bs left t is rest =
    let whole = is-held bs t is in
    let same : length left ≡ length whole.0 = ap length (rest ∙ ap (λ (them : List Begun). drop 1 them) whole.1) in
    let all : length bs ≡ length (begun.Before t ∷ whole.0) = ap length whole.1 in
    omega arith
