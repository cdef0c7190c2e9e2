-- What is in a list, by recursion on it.
use Rattle.std.proofs.Common.{◌≡◌, ℕ, zero, suc, ◌<◌, Bool, true, false, cond, List, [], ◌∷◌, ◌++◌, map, length, get_or, ◌⊎◌, inl, inr, refl, sym, ap, subst, ◌∙◌, arith}
use Rattle.std.specs.Prelude.{filter, Contains, ◌&&◌}
use Rattle.std.specs.List.{list_all}

abbrev pub Member : {X : Type 0} → List X → X → Type 0
Member [] x = ⊥
Member (y ∷ ys) x = (y ≡ x) ⊎ Member ys x

pub member-left : {X : Type 0} (xs ys : List X) (x : X) → Member xs x → Member (xs ++ ys) x
member-left [] ys x h = absurd h
member-left (z ∷ xs) ys x (inl e) = inl e
member-left (z ∷ xs) ys x (inr h) = inr (member-left xs ys x h)

pub member-right : {X : Type 0} (xs ys : List X) (x : X) → Member ys x → Member (xs ++ ys) x
member-right [] ys x h = h
member-right (z ∷ xs) ys x h = inr (member-right xs ys x h)

pub member-cases : {X : Type 0} (xs ys : List X) (x : X) → Member (xs ++ ys) x → Member xs x ⊎ Member ys x
member-cases [] ys x h = inr h
member-cases (z ∷ xs) ys x (inl e) = inl (inl e)
member-cases (z ∷ xs) ys x (inr h) = elim (member-cases xs ys x h) [ inl k ↦ inl (inr k) | inr k ↦ inr k ]

pub member-map : {X Y : Type 0} (f : X → Y) (xs : List X) (x : X) → Member xs x → Member (map f xs) (f x)
member-map f [] x h = absurd h
member-map f (z ∷ xs) x (inl e) = inl (ap f e)
member-map f (z ∷ xs) x (inr h) = inr (member-map f xs x h)

pub member-of_map : {X Y : Type 0} (f : X → Y) (xs : List X) (y : Y) → Member (map f xs) y → (x : X) × Member xs x × (f x ≡ y)
member-of_map f [] y h = absurd h
member-of_map f (z ∷ xs) y (inl e) = (z, inl refl, e)
member-of_map f (z ∷ xs) y (inr h) = let k = member-of_map f xs y h in (k.0, inr k.1, k.2)

pub member-filter : {X : Type 0} (p : X → Bool) (xs : List X) (x : X) → Member xs x → p x ≡ true → Member (filter p xs) x
member-filter p [] x h e = absurd h
member-filter {X} p (z ∷ xs) x (inl same) e = subst (λ (b : Bool). Member (cond b (z ∷ filter p xs) (filter p xs)) x) (sym (ap p same ∙ e)) (inl same)
member-filter {X} p (z ∷ xs) x (inr h) e = by (p z) (member-filter p xs x h e)
  where
    by : (b : Bool) → Member (filter p xs) x → Member (cond b (z ∷ filter p xs) (filter p xs)) x
    by true k = inr k
    by false k = k

pub member-of_filter : {X : Type 0} (p : X → Bool) (xs : List X) (x : X) → Member (filter p xs) x → Member xs x × (p x ≡ true)
member-of_filter p [] x h = absurd h
member-of_filter {X} p (z ∷ xs) x h = by (p z) refl (λ k. member-of_filter p xs x k) h
  where
    by : (b : Bool) → p z ≡ b → (Member (filter p xs) x → Member xs x × (p x ≡ true)) → Member (cond b (z ∷ filter p xs) (filter p xs)) x → Member (z ∷ xs) x × (p x ≡ true)
    by true e rest (inl same) = (inl same, sym (ap p same) ∙ e)
    by true e rest (inr k) = let r = rest k in (inr r.0, r.1)
    by false e rest k = let r = rest k in (inr r.0, r.1)

-- between this and the form by index
pub contains-member : {X : Type 0} (xs : List X) (x : X) → Member xs x → Contains xs x
contains-member [] x h = absurd h
contains-member (z ∷ xs) x (inl e) = (0, omega arith, e)
contains-member (z ∷ xs) x (inr h) = let k = contains-member xs x h in (suc k.0, omega arith, k.2)

pub member-contains : {X : Type 0} (xs : List X) (x : X) → Contains xs x → Member xs x
member-contains {X} xs x h = by xs h.0 h.1 h.2
  where
    by : (ys : List X) (k : ℕ) → k < length ys → get_or ys k x ≡ x → Member ys x
    by [] k l e = absurd (omega arith)
    by (y ∷ ys) zero l e = inl e
    by (y ∷ ys) (suc k) l e = inr (by ys k (omega arith) e)

-- a test of all elements
pub all-member : {X : Type 0} (p : X → Bool) (xs : List X) → list_all p xs ≡ true → (x : X) → Member xs x → p x ≡ true
all-member p [] e x h = absurd h
all-member p (z ∷ xs) e x (inl same) = sym (ap p same) ∙ (both (p z) (list_all p xs) e).0
  where
    both : (a b : Bool) → (a && b) ≡ true → (a ≡ true) × (b ≡ true)
    both true b h = (refl, h)
    both false b h = absurd cc
all-member p (z ∷ xs) e x (inr h) = all-member p xs (and_right (p z) (list_all p xs) e) x h
  where
    and_right : (a b : Bool) → (a && b) ≡ true → b ≡ true
    and_right true b h = h
    and_right false b h = absurd cc

pub member-all : {X : Type 0} (p : X → Bool) (xs : List X) → ((x : X) → Member xs x → p x ≡ true) → list_all p xs ≡ true
member-all p [] h = refl
member-all {X} p (z ∷ xs) h = ap (λ (b : Bool). b && list_all p xs) (h z (inl refl)) ∙ member-all p xs (λ x k. h x (inr k))

-- two tests, each of which passes where the other does, give the same
pub same_bool : (a b : Bool) → (a ≡ true → b ≡ true) → (b ≡ true → a ≡ true) → a ≡ b
same_bool true b h k = sym (h refl)
same_bool false true h k = k refl
same_bool false false h k = refl
