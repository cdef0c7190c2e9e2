-- What stands in a DVI file are bytes.
use Rattle.std.proofs.Common.{◌≡◌, ℕ, zero, suc, ◌+◌, ◌-◌, ◌/◌, ◌%◌, ◌^◌, ◌<◌, ◌==◌, ◌&&◌, Bool, true, false, cond, ℤ, pos, List, [], ◌∷◌, ◌++◌, length, get_or, drop, replicate, refl, arith, length-append}
use Rattle.std.specs.Int.{byte_at, bytes_high_first, w32, cast_unsigned}
use Rattle.std.specs.List.{AllByRecursion}
use Rattle.tx_dvitype.specs.declared.reader.Reader.{Reader}
use Rattle.tx_dvi.specs.Dvi.{fnt_def1, four_bytes, two_bytes, unsigned_bytes, units}
use Rattle.tx_dvitype.specs.Files.{number_in, numbered_as, all_bytes, again_below, postamble, with_definition, place_bytes, fillers, ending}
use Rattle.tx_dvitype.specs.Grammar.{AreBytes}
use Rattle.tx_dvitype.specs.Partial.{is_whole}

pub bytes-append : (a b : List ℕ) → AreBytes a → AreBytes b → AreBytes (a ++ b)
bytes-append [] b first later = later
bytes-append (x ∷ a) b first later = (first.0, bytes-append a b first.1 later)

-- a byte of some, or 0 where there is none
pub byte-at : (xs : List ℕ) (k : ℕ) → AreBytes xs → get_or xs k 0 < 256
byte-at [] k are = omega arith
byte-at (x ∷ xs) zero are = are.0
byte-at (x ∷ xs) (suc k) are = byte-at xs k are.1

pub bytes-behind : (xs : List ℕ) → AreBytes xs → AreBytes (drop 1 xs)
bytes-behind [] are = tt
bytes-behind (x ∷ xs) are = are.1

pub replicate-bytes : (n b : ℕ) → b < 256 → AreBytes (replicate n b)
replicate-bytes zero b small = tt
replicate-bytes (suc n) b small = (small, replicate-bytes n b small)

-- the bytes of a number
low : (x : ℕ) → x % 256 < 256
low x = omega arith

small-byte_at : (k n : ℕ) → byte_at k n < 256
small-byte_at zero n = low n
small-byte_at (suc k) n = low (n / 256 ^ suc k)

high-bytes : (k n : ℕ) → AreBytes (bytes_high_first k n)
high-bytes zero n = tt
high-bytes (suc k) n = (small-byte_at k n, high-bytes k n)

pub place-bytes : (n : ℕ) → AreBytes (unsigned_bytes n)
unfolding unsigned_bytes
place-bytes n = high-bytes 4 n

pub length-place : (n : ℕ) → length (unsigned_bytes n) ≡ 4
unfolding unsigned_bytes
length-place n = refl

pub signed-bytes : (z : ℤ) → AreBytes (four_bytes z)
unfolding four_bytes
signed-bytes z = high-bytes 4 (cast_unsigned w32 z)

pub count-bytes : (n : ℕ) → AreBytes (two_bytes n)
unfolding two_bytes
count-bytes n = high-bytes 2 n

pub units-bytes : (mag : ℕ) → AreBytes (units mag)
units-bytes mag =
    bytes-append (four_bytes (pos 25400000)) (four_bytes (pos 473628672) ++ (four_bytes (pos mag) ++ [])) (signed-bytes (pos 25400000))
    (bytes-append (four_bytes (pos 473628672)) (four_bytes (pos mag) ++ []) (signed-bytes (pos 473628672)) (bytes-append (four_bytes (pos mag)) [] (signed-bytes (pos mag)) tt))

-- the definitions of fonts, and those that have a number
abbrev pub AreAllBytes : List (List ℕ) → Type 0
AreAllBytes definitions = AllByRecursion AreBytes definitions

numbered-bytes : (number : ℕ) (definitions : List (List ℕ)) → AreAllBytes definitions → AreBytes (all_bytes (numbered_as number definitions))
numbered-bytes number [] are = tt
numbered-bytes number (d ∷ definitions) are = by (numbered-bytes number definitions are.1) (number_in d == number)
  where
    by : AreBytes (all_bytes (numbered_as number definitions)) → (b : Bool) → AreBytes (all_bytes (cond {A = List (List ℕ)} b (d ∷ numbered_as number definitions) (numbered_as number definitions)))
    by others true = bytes-append d (all_bytes (numbered_as number definitions)) are.0 others
    by others false = others

pub again-bytes : (bound : ℕ) (definitions : List (List ℕ)) → AreAllBytes definitions → AreBytes (again_below bound definitions)
unfolding again_below
again-bytes zero definitions are = tt
again-bytes (suc number) definitions are =
    bytes-append (all_bytes (numbered_as number definitions)) (again_below number definitions) (numbered-bytes number definitions are) (again-bytes number definitions are)

all-push : (definitions : List (List ℕ)) (d : List ℕ) → AreAllBytes definitions → AreBytes d → AreAllBytes (definitions ++ d ∷ [])
all-push [] d are small = (small, tt)
all-push (x ∷ definitions) d are small = (are.0, all-push definitions d are.1 small)

-- with one more
pub definitions-on : (bytes : List ℕ) (definitions : List (List ℕ)) → AreBytes bytes → AreAllBytes definitions → AreAllBytes (with_definition bytes definitions)
definitions-on bytes definitions small are = by (is_whole bytes && get_or bytes 0 0 == fnt_def1)
  where
    by : (b : Bool) → AreAllBytes (cond {A = List (List ℕ)} b (definitions ++ bytes ∷ []) definitions)
    by true = all-push definitions bytes are small
    by false = are

-- what must stand in the postamble, and how much that is at least
module _ (r : Reader) where
  abbrev sizes : List ℕ
  sizes = replicate 10 0

  abbrev count : List ℕ
  count = two_bytes (length r.pages % 2 ^ 16)

  abbrev again : List ℕ
  again = again_below 256 r.definitions

  pub postamble-bytes : AreBytes r.pointer → AreAllBytes r.definitions → AreBytes (postamble r)
  postamble-bytes pointer definitions = (
    omega arith,
    bytes-append (r.pointer ++ units r.mag ++ sizes ++ count) again
        (bytes-append (r.pointer ++ units r.mag ++ sizes) count
        (bytes-append (r.pointer ++ units r.mag) sizes (bytes-append r.pointer (units r.mag) pointer (units-bytes r.mag)) (replicate-bytes 10 0 (omega arith)))
        (count-bytes (length r.pages % 2 ^ 16)))
        (again-bytes 256 r.definitions definitions),
  )

  pub postamble-long : length r.pointer ≡ 4 → 1 < length (postamble r)
  postamble-long four =
      let whole = length-append (r.pointer ++ units r.mag ++ sizes ++ count) again in
      let three = length-append (r.pointer ++ units r.mag ++ sizes) count in
      let two = length-append (r.pointer ++ units r.mag) sizes in
      let one = length-append r.pointer (units r.mag) in
      omega (arith, four, whole, three, two, one)

-- what stands behind it
pub ending-bytes : (place size : ℕ) → AreBytes (ending place size)
ending-bytes place size = (
  omega arith,
  bytes-append (place_bytes (place - (size - 1))) (2 ∷ fillers (place % 4 + 7)) (place-bytes ((place - (size - 1)) % 2 ^ 32))
      (omega arith, replicate-bytes (4 + (4 - (place % 4 + 7) % 4) % 4) 223 (omega arith)),
)

-- behind some bytes stands one that is read there anyway
pub append-default : (bytes : List ℕ) (k d : ℕ) → get_or (bytes ++ d ∷ []) k d ≡ get_or bytes k d
append-default [] zero d = refl
append-default [] (suc k) d = refl
append-default (x ∷ bytes) zero d = refl
append-default (x ∷ bytes) (suc k) d = append-default bytes k d

-- what a slice of bytes holds
pub are-bytes : (xs : List ℕ) → ((i : ℕ) → get_or xs i 0 < 256) → AreBytes xs
are-bytes [] small = tt
are-bytes (x ∷ xs) small = (small 0, are-bytes xs (λ i. small (suc i)))
