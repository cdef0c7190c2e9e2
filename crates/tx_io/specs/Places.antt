-- Where the file of a name is looked for.
use Rattle.std.specs.Prelude.{ℕ, ◌==◌, Bool, not, ◌&&◌, ◌||◌, if◌then◌else◌, List, [], ◌∷◌, ◌++◌, length, map, slice_index}
use Rattle.std.specs.List.{filter, list_any, slice_split}
use Rattle.std.specs.Str.{bytes_eq}

-- the folders of a path, which stand between its colons; an empty one is none
abbrev pub folders_of : List ℕ → List (List ℕ)
folders_of path = filter (λ folder. not (length folder == 0)) (slice_split (λ byte. byte == 58) path)

-- `.` and `..`, the folder in which one stands and the one above it
abbrev pub is_dots : List ℕ → Bool
is_dots part = bytes_eq part (46 ∷ []) || bytes_eq part (46 ∷ 46 ∷ [])

-- a name that is looked for along a path: it doesn't begin with a slash, and none of the parts between its slashes is such a folder
abbrev pub goes_along : List ℕ → Bool
goes_along name = not (slice_index name 0 == 47) && not (list_any is_dots (slice_split (λ byte. byte == 47) name))

-- the place of a name in a folder
abbrev pub place_in : List ℕ → List ℕ → List ℕ
place_in folder name = folder ++ 47 ∷ name

-- the places along a path, one in each of its folders, in their order
abbrev pub places_along : List ℕ → List ℕ → List (List ℕ)
places_along path name = if goes_along name then map (λ folder. place_in folder name) (folders_of path) else []

-- all places of a name, in the order in which they are looked at: the current folder comes first
abbrev pub places_of : List ℕ → List ℕ → List (List ℕ)
places_of path name = name ∷ places_along path name
