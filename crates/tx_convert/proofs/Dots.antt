-- The last dot of a name.
use Rattle.std.proofs.Common.{◌≡◌, ◌<◌, ℕ, zero, suc, Bool, true, false, ◌==◌, ◌&&◌, ◌||◌, List, [], ◌∷◌, length, get_or, take, drop, refl, ap, arith}
use Rattle.tx_convert.specs.Jobs.{has_dot, job_name}

-- a dot is there or not
no-or : (a b : Bool) → (a || b) ≡ false → (a ≡ false) × (b ≡ false)
no-or true b h = absurd (cc)
no-or false b h = (refl, h)

or-true : (a b : Bool) → b ≡ true → (a || b) ≡ true
or-true true b h = refl
or-true false b h = h

and-false : (a b : Bool) → b ≡ false → (a && b) ≡ false
and-false true b h = h
and-false false b h = refl

-- no dot, so all of it
pub without-dot : (name : List ℕ) → has_dot name ≡ false → job_name name ≡ name
without-dot [] h = refl
without-dot (code ∷ rest) h =
    let parts = no-or (code == 46) (has_dot rest) h in
    rw parts.0 (ap (λ (more : List ℕ). code ∷ more) (without-dot rest parts.1))

-- where one stands
pub has-dot : (name : List ℕ) (k : ℕ) → k < length name → get_or name k 0 ≡ 46 → has_dot name ≡ true
has-dot [] k h e = absurd (omega arith)
has-dot (code ∷ rest) zero h e = let c : code ≡ 46 = e in rw c refl
has-dot (code ∷ rest) (suc k) h e = or-true (code == 46) (has_dot rest) (has-dot rest k (omega arith) e)

-- up to the last dot
pub up-to-dot : (name : List ℕ) (k : ℕ) → k < length name → get_or name k 0 ≡ 46 → has_dot (drop (suc k) name) ≡ false → job_name name ≡ take k name
up-to-dot [] k h e f = absurd (omega arith)
up-to-dot (code ∷ rest) zero h e f = let c : code ≡ 46 = e in let g : has_dot rest ≡ false = f in rw (c, g) refl
up-to-dot (code ∷ rest) (suc k) h e f =
    let some : has_dot rest ≡ true = has-dot rest k (omega arith) e in
    let later : job_name rest ≡ take k rest = up-to-dot rest k (omega arith) e f in
    rw (some, and-false (code == 46) false refl) (ap (λ (more : List ℕ). code ∷ more) later)
