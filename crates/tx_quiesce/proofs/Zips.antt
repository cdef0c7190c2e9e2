-- Two lists that are related element by element.
use Rattle.std.proofs.Common.{◌≡◌, ℕ, zero, suc, List, [], ◌∷◌, ◌++◌, length, map, take, slice_set, Option, Some, None, refl, ap}
use Rattle.std.specs.Prelude.{slice_get}
use Rattle.std.specs.List.{AllZip}

-- both are there and related, or neither is there
abbrev pub AreBoth : {X Y : Type 0} → (X → Y → Type 0) → Option X → Option Y → Type 0
AreBoth R None None = Unit {0}
AreBoth R None (Some y) = ⊥
AreBoth R (Some x) None = ⊥
AreBoth R (Some x) (Some y) = R x y

module _ {X Y : Type 0} (R : X → Y → Type 0) where
  pub zip-length : (xs : List X) (ys : List Y) → AllZip R xs ys → length ys ≡ length xs
  zip-length [] [] zip = refl
  zip-length (x ∷ xs) (y ∷ ys) zip = ap suc (zip-length xs ys zip.1)
  zip-length [] (y ∷ ys) zip = absurd zip
  zip-length (x ∷ xs) [] zip = absurd zip

  pub zip-get : (xs : List X) (ys : List Y) (k : ℕ) → AllZip R xs ys → AreBoth R (slice_get xs k) (slice_get ys k)
  zip-get [] [] k zip = tt
  zip-get (x ∷ xs) (y ∷ ys) zero zip = zip.0
  zip-get (x ∷ xs) (y ∷ ys) (suc k) zip = zip-get xs ys k zip.1
  zip-get [] (y ∷ ys) k zip = absurd zip
  zip-get (x ∷ xs) [] k zip = absurd zip

  pub zip-set : (xs : List X) (ys : List Y) (k : ℕ) (x : X) (y : Y) → AllZip R xs ys → R x y → AllZip R (slice_set xs k x) (slice_set ys k y)
  zip-set [] [] k a b zip r = tt
  zip-set (x ∷ xs) (y ∷ ys) zero a b zip r = (r, zip.1)
  zip-set (x ∷ xs) (y ∷ ys) (suc k) a b zip r = (zip.0, zip-set xs ys k a b zip.1 r)
  zip-set [] (y ∷ ys) k a b zip r = absurd zip
  zip-set (x ∷ xs) [] k a b zip r = absurd zip

  pub zip-take : (xs : List X) (ys : List Y) (k : ℕ) → AllZip R xs ys → AllZip R (take k xs) (take k ys)
  zip-take xs ys zero zip = tt
  zip-take [] [] (suc k) zip = tt
  zip-take (x ∷ xs) (y ∷ ys) (suc k) zip = (zip.0, zip-take xs ys k zip.1)
  zip-take [] (y ∷ ys) (suc k) zip = absurd zip
  zip-take (x ∷ xs) [] (suc k) zip = absurd zip

  pub zip-append : (xs : List X) (ys : List Y) (us : List X) (vs : List Y) → AllZip R xs ys → AllZip R us vs → AllZip R (xs ++ us) (ys ++ vs)
  zip-append [] [] us vs zip later = later
  zip-append (x ∷ xs) (y ∷ ys) us vs zip later = (zip.0, zip-append xs ys us vs zip.1 later)
  zip-append [] (y ∷ ys) us vs zip later = absurd zip
  zip-append (x ∷ xs) [] us vs zip later = absurd zip

  -- where related elements give the same, the lists do
  pub zip-map : {Z : Type 0} (f : X → Z) (g : Y → Z) → ((x : X) (y : Y) → R x y → g y ≡ f x) → (xs : List X) (ys : List Y) → AllZip R xs ys → map g ys ≡ map f xs
  zip-map f g same [] [] zip = refl
  zip-map f g same (x ∷ xs) (y ∷ ys) zip = λ i. same x y zip.0 i ∷ zip-map f g same xs ys zip.1 i
  zip-map f g same [] (y ∷ ys) zip = absurd zip
  zip-map f g same (x ∷ xs) [] zip = absurd zip

  -- and where one element of two that are related determines the other, it does so throughout
  pub zip-is : (f : X → Y) → ((x : X) (y : Y) → R x y → y ≡ f x) → (xs : List X) (ys : List Y) → AllZip R xs ys → ys ≡ map f xs
  zip-is f is [] [] zip = refl
  zip-is f is (x ∷ xs) (y ∷ ys) zip = λ i. is x y zip.0 i ∷ zip-is f is xs ys zip.1 i
  zip-is f is [] (y ∷ ys) zip = absurd zip
  zip-is f is (x ∷ xs) [] zip = absurd zip

-- where related elements are equal, the lists are
pub zip-same : {X : Type 0} (R : X → X → Type 0) → ((x y : X) → R x y → y ≡ x) → (xs ys : List X) → AllZip R xs ys → ys ≡ xs
zip-same R is [] [] zip = refl
zip-same R is (x ∷ xs) (y ∷ ys) zip = λ i. is x y zip.0 i ∷ zip-same R is xs ys zip.1 i
zip-same R is [] (y ∷ ys) zip = absurd zip
zip-same R is (x ∷ xs) [] zip = absurd zip
