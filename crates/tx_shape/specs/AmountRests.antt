-- The scan of a number or a size means the rest of it, with what follows.
use Rattle.std.specs.Prelude.{◌≤◌, ◌<◌, ◌+◌, ℕ, List}
use Rattle.tx_seen.specs.declared.seen.Seen.{Seen}
use Rattle.tx_seen.specs.declared.item.Item.{Item}
use Rattle.tx_seen.specs.declared.item.Item.TheVariants.{Took}
use Rattle.tx_seen.specs.declared.fed.Fed.{Fed}
use Rattle.tx_seen.specs.declared.fed.Fed.TheVariants as fed
use Rattle.tx_seen.specs.Readings.{Reading, Done, next}
use Rattle.tx_scan.specs.Dimensions.{lengths}
use Rattle.tx_scan.specs.Rests.{IsAnswer}
use Rattle.tx_scan.specs.IntegerRests as integers
use Rattle.tx_scan.specs.DimensionRests as sizes
use Rattle.tx_shape.specs.declared.scans.Amount.{Amount}
use Rattle.tx_shape.specs.declared.scans.Amount.TheVariants as amount
use Rattle.tx_shape.specs.declared.scans.AmountScan.{AmountScan}
use Rattle.tx_shape.specs.declared.scans.Next.{Next}
use Rattle.tx_shape.specs.declared.scans.Next.TheVariants.{Part, Font, Whole, Wrong}
use Rattle.tx_shape.specs.Nexts.{behind_measure, behind_number, behind_parameter, behind_penalty, behind_set}

-- what follows is made of what is read
abbrev pub made : {A : Type 0} → (A → Next) → A → List Item → Reading Next
made follows a rest = Done (follows a) rest

-- the rest by what it is for
abbrev pub kind_rest : Amount → AmountScan → List Item → Item → List Item → Reading Next
kind_rest amount.Penalty scan behind item more = next (integers.rest scan.integer behind item more) (made behind_penalty)
kind_rest (amount.Register what) scan behind item more = next (integers.rest scan.integer behind item more) (made (behind_number what))
kind_rest (amount.Size what) scan behind item more = next (sizes.rest scan.size behind item more) (made (behind_measure what))
kind_rest (amount.Number what) scan behind item more = next (integers.rest scan.integer behind item more) (made (behind_set what))
kind_rest amount.FontDimen scan behind item more = next (integers.rest scan.integer behind item more) (made behind_parameter)

abbrev pub amount_rest : AmountScan → List Item → Item → List Item → Reading Next
amount_rest scan behind item more = kind_rest scan.amount scan behind item more

-- how many tokens are held behind it
abbrev pub kind_held : Amount → AmountScan → ℕ
kind_held amount.Penalty scan = integers.held scan.integer
kind_held (amount.Register what) scan = integers.held scan.integer
kind_held (amount.Size what) scan = sizes.held scan.size
kind_held (amount.Number what) scan = integers.held scan.integer
kind_held amount.FontDimen scan = integers.held scan.integer

abbrev pub amount_held : AmountScan → ℕ
amount_held scan = kind_held scan.amount scan

-- how many values are needed at most, unless more tokens need more; the token behind the number of a parameter may be its font, and then
-- what that has is needed
abbrev pub kind_needed : Amount → AmountScan → ℕ
kind_needed amount.Penalty scan = integers.waiting scan.integer
kind_needed (amount.Register what) scan = integers.waiting scan.integer
kind_needed (amount.Size what) scan = sizes.more_needed scan.size
kind_needed (amount.Number what) scan = integers.waiting scan.integer
kind_needed amount.FontDimen scan = integers.waiting scan.integer + integers.held scan.integer

abbrev pub amount_needed : AmountScan → ℕ
amount_needed scan = kind_needed scan.amount scan

-- the scan of which nothing is read
abbrev pub begun_amount : Amount → AmountScan
begun_amount what = record { amount = what; integer = integers.begun_integer; size = sizes.begun_size lengths }

-- an answer to one more token says what reading on gives
abbrev pub IsAmountFed : AmountScan → Seen → AmountScan → Fed Next → Type 0
IsAmountFed old t new answer = (behind : List Item) → IsAnswer amount_rest amount_held 1 (λ more. amount_rest old behind (Took t) more) t new answer

-- how many values are needed at most behind what follows, where so many tokens are given back
abbrev pub needed_behind : Next → ℕ → ℕ
needed_behind (Part part) back = 0
needed_behind (Font what) back = back
needed_behind (Whole shaped) back = 0
needed_behind (Wrong error) back = 0

-- behind a value fewer are needed, with what follows
abbrev pub LeavesFewer : ℕ → ℕ → Fed Next → Type 0
LeavesFewer old new (fed.More want) = new ≤ old
LeavesFewer old new (fed.Need kind) = new < old
LeavesFewer old new (fed.Done next back) = needed_behind next back ≤ old
LeavesFewer old new (fed.Wrong error) = Unit {0}
