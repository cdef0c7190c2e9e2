-- How a map is laid out: on which shelf and in which bucket a name stands, and where there. For the look-up alone, no
-- public clause says it.
use Rattle.std.specs.Prelude.{◌≡◌, ◌≢◌, ◌<◌, ◌≤◌, ◌+◌, ◌/◌, ◌%◌, ℕ, T, List, [], ◌∷◌, ◌++◌, length, map, slice_index_or, None}
use Rattle.std.specs.declared.cmp.Ordering.TheVariants.{Less, Equal, Greater}
use Rattle.std.specs.Ordering.{nat_cmp}
use Rattle.std.specs.Cmp.Lexicographic.{slice_cmp}
use Rattle.std.specs.FinMap.{empty, entries, get, from_entries, from_sorted, is_sorted}
use Rattle.std.specs.declared.rc.Rc.{Rc}
use Rattle.std.specs.Rc.{rc_value}
use Rattle.tx_char.specs.Letters.{mixed}
use Rattle.tx_name.specs.Names.{Names}

-- the names of a list of entries strictly rise
abbrev pub IsRising : {X : Type 0} → List (List ℕ × X) → Type 0
IsRising {X} es = T (is_sorted (slice_cmp nat_cmp) es)

-- the map of a list of entries whose names rise
abbrev pub map_of : {X : Type 0} → List (List ℕ × X) → Names X
map_of {X} es = from_sorted es

-- a name is greater, equal to, or less than that of each entry in a range of places
abbrev pub IsAbove : {X : Type 0} → List (List ℕ × X) → List ℕ → ℕ → Type 0
IsAbove {X} es name end = (j : ℕ) (d : List ℕ × X) → j < end → slice_cmp nat_cmp name (slice_index_or es j d).0 ≡ Greater

abbrev pub IsBelow : {X : Type 0} → List (List ℕ × X) → List ℕ → ℕ → Type 0
IsBelow {X} es name begin = (j : ℕ) (d : List ℕ × X) → begin ≤ j → j < length es → slice_cmp nat_cmp name (slice_index_or es j d).0 ≡ Less

-- the entry at a place has the name
pub record IsAt {X : Type 0} (es : List (List ℕ × X)) (name : List ℕ) (place : ℕ) : Type 0 where
  pub inside : place < length es
  pub before : IsAbove es name place
  pub here : (d : List ℕ × X) → slice_cmp nat_cmp name (slice_index_or es place d).0 ≡ Equal
  pub after : IsBelow es name (place + 1)

-- no entry has the name, and one that had it would go to a place
pub record IsGap {X : Type 0} (es : List (List ℕ × X)) (name : List ℕ) (place : ℕ) : Type 0 where
  pub inside : place ≤ length es
  pub before : IsAbove es name place
  pub after : IsBelow es name place

-- on which of the 32 shelves a name stands, and in which of the 32 buckets there
abbrev pub shelf_of : List ℕ → ℕ
shelf_of name = (mixed 0 name / 32) % 32

abbrev pub bucket_of : List ℕ → ℕ
bucket_of name = mixed 0 name % 32

-- the map that parts make up together
abbrev pub entries_in : {X : Type 0} → List (Names X) → List (List ℕ × X)
entries_in [] = []
entries_in (part ∷ parts) = entries part ++ entries_in parts

abbrev pub together : {X : Type 0} → List (Names X) → Names X
together parts = from_entries (entries_in parts)

-- what parts hold that may be shared
abbrev pub held : {X Z : Type 0} → List (Rc (Names X) Z) → List (Names X)
held parts = map rc_value parts

-- what the part of a number holds
abbrev pub part_at : {X : Type 0} → List (Names X) → ℕ → Names X
part_at parts at = slice_index_or parts at empty

-- there are 32 parts, and each name stands in its own alone
pub record IsPlaced {X : Type 0} (part_of : List ℕ → ℕ) (parts : List (Names X)) : Type 0 where
  pub count : length parts ≡ 32
  pub placed : (at : ℕ) (name : List ℕ) → part_of name ≢ at → get (part_at parts at) name ≡ None
