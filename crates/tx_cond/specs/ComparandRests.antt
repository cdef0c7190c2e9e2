-- The scan of a number or a size means the rest of it.
use Rattle.std.specs.Prelude.{ℕ, ℤ, List}
use Rattle.tx_seen.specs.declared.fed.Fed.{Fed}
use Rattle.tx_seen.specs.declared.fed.Value.{Value}
use Rattle.tx_seen.specs.declared.item.Item.{Item}
use Rattle.tx_seen.specs.declared.item.Item.TheVariants.{Took}
use Rattle.tx_seen.specs.declared.seen.Seen.{Seen}
use Rattle.tx_seen.specs.Readings.{Reading, next}
use Rattle.tx_scan.specs.Dimensions.{lengths}
use Rattle.tx_scan.specs.DimensionRests as sizes
use Rattle.tx_scan.specs.IntegerRests as integers
use Rattle.tx_scan.specs.Rests.{IsAnswer, IsGivenBy}
use Rattle.tx_cond.specs.declared.test.Comparand.{Comparand}
use Rattle.tx_cond.specs.declared.test.Comparand.TheVariants.{Number, Size}
use Rattle.tx_cond.specs.declared.test.ComparandScan.{ComparandScan}
use Rattle.tx_cond.specs.Tests.{in_points}

-- the rest, by which of them it is
abbrev pub rest_of : Comparand → ComparandScan → List Item → Item → List Item → Reading ℤ
rest_of Number scan behind item more = integers.rest scan.number behind item more
rest_of Size scan behind item more = next (sizes.rest scan.size behind item more) in_points

abbrev pub rest : ComparandScan → List Item → Item → List Item → Reading ℤ
rest scan behind item more = rest_of scan.comparand scan behind item more

-- how many tokens are held behind it
abbrev pub held_of : Comparand → ComparandScan → ℕ
held_of Number scan = integers.held scan.number
held_of Size scan = sizes.held scan.size

abbrev pub held : ComparandScan → ℕ
held scan = held_of scan.comparand scan

-- how many values are needed at most, unless more tokens need more
abbrev pub needed_of : Comparand → ComparandScan → ℕ
needed_of Number scan = integers.waiting scan.number
needed_of Size scan = sizes.more_needed scan.size

abbrev pub more_needed : ComparandScan → ℕ
more_needed scan = needed_of scan.comparand scan

-- how many tokens at most are given back behind one more
abbrev pub most_of : Comparand → ComparandScan → ℕ
most_of Number scan = integers.most scan.number
most_of Size scan = sizes.most scan.size

abbrev pub most : ComparandScan → ℕ
most scan = most_of scan.comparand scan

-- the scan of which nothing is read
abbrev pub begun : Comparand → ComparandScan
begun comparand = record { comparand = comparand; number = integers.begun_integer; size = sizes.begun_size lengths }

-- an answer to one more token says what reading on gives
abbrev pub IsFed : ComparandScan → Seen → ComparandScan → Fed ℤ → Type 0
IsFed old t new answer = (behind : List Item) → IsAnswer rest held (most old) (λ more. rest old behind (Took t) more) t new answer

-- an answer to a value says what reading on gives
abbrev pub IsGiven : ComparandScan → Value → ComparandScan → Fed ℤ → Type 0
IsGiven old v new answer = IsGivenBy rest held old v new answer
