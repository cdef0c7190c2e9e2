-- The places of a name are the name and its places in the folders that were found in a path.
use Rattle.std.proofs.Common.{◌≡◌, ℕ, true, false, List, [], ◌∷◌, ◌++◌, map, refl, ap}
use Rattle.std.specs.Borrow.{Bor}
use Rattle.tx_io.specs.Places.{folders_of, goes_along, place_in, places_of}

map-map : {X Y Z : Type 0} (f : Y → Z) (g : X → Y) (xs : List X) → map f (map g xs) ≡ map (λ x. f (g x)) xs
map-map f g [] = refl
map-map f g (x ∷ xs) = ap (λ rest. f (g x) ∷ rest) (map-map f g xs)

pub along-is : (path name : List ℕ) (folders : List (Bor (List ℕ))) (found : List (List ℕ)) → goes_along name ≡ true
    → map (λ folder. folder.now) folders ≡ folders_of path → found ≡ (name ∷ []) ++ map (λ folder. place_in folder.now name) folders
    → found ≡ places_of path name
along-is path name folders found goes are is = rw (is, goes, ← are, map-map (λ folder. place_in folder name) (λ folder. folder.now) folders) refl

pub here-is : (path name : List ℕ) (found : List (List ℕ)) → goes_along name ≡ false → found ≡ name ∷ [] → found ≡ places_of path name
here-is path name found stays is = rw (is, stays) refl
