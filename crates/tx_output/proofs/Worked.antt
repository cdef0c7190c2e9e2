-- Pages as Knuth's TeX puts them out: what it shows of \box255, and which of two errors it finds first.
use Rattle.std.proofs.Common.{◌≡◌, ℕ, ◌*◌, List, [], ◌∷◌, refl}
use Rattle.std.specs.Prelude.{ℤ, true, false, pos, negsuc, Some, None, Ok, Err}
use Rattle.tx_char.specs.declared.tokens.Token.{Token}
use Rattle.tx_char.specs.declared.tokens.Token.TheVariants.{Name}
use Rattle.tx_num.specs.Glue.{glue_of}
use Rattle.tx_node.specs.declared.head.Change.TheVariants.{Stretch}
use Rattle.tx_node.specs.declared.head.Direction.TheVariants.{Vertical}
use Rattle.tx_node.specs.declared.head.Setting.{Setting}
use Rattle.tx_node.specs.declared.head.Setting.TheVariants.{Natural, Set}
use Rattle.tx_node.specs.declared.plain.Plain.TheVariants.{Glue, Penalty}
use Rattle.tx_node.specs.declared.plain.Shared.TheVariants.{Rule}
use Rattle.tx_node.specs.Items.{Item, plain, shared}
use Rattle.tx_pack.specs.declared.types.Packed.{Packed}
use Rattle.tx_pack.specs.Packing.{packed}
use Rattle.tx_pagebuilder.specs.declared.fired.Fired.{Fired}
use Rattle.tx_output.specs.declared.begun.Begun.TheVariants.{Ship, Read}
use Rattle.tx_output.specs.declared.error.OutputError.TheVariants.{OccupiedPageBox, SizeOutOfRange, TooManyDeadCycles, UnbalancedOutput}
use Rattle.tx_output.specs.Outputs.{begun, finished, page_box}

-- so many points
abbrev pt : ℕ → ℤ
pt n = pos (n * 65536)

abbrev bar : ℤ → ℤ → Item
bar height depth = shared (Rule (record { width = None; height = Some height; depth = Some depth }))

abbrev skip : ℤ → ℤ → ℕ → Item
skip width stretch order = plain (Glue (glue_of width stretch order (pos 0) 0))

-- a page of this list with this goal and this \maxdepth, behind which a penalty of 10000 remains
abbrev page : List Item → ℤ → ℤ → Fired
page list goal maxdepth = record {
  list = list;
  goal = goal;
  maxdepth = maxdepth;
  penalty = negsuc 9999;
  held = [];
  rest = plain (Penalty (pos 10000)) ∷ [];
  boxes = [];
  insert_penalties = pos 0;
  first = None;
  last = None;
}

-- a box of such a list, height and depth
abbrev boxed : List Item → ℤ → ℤ → Setting → ℤ → Packed
boxed list height depth setting badness = record {
  node = record { head = record { direction = Vertical; width = pos 0; height = height; depth = depth; setting = setting }; list = list };
  badness = badness;
  report = [];
}

-- \output's tokens
abbrev some_tokens : List Token
some_tokens = Name [] ∷ []

-- \vsize=20pt \maxdepth=2pt: \vbox(20.0+2.0)x0.0, glue set 7.0fil. Depth beyond \maxdepth goes into the height.
abbrev stretched : List Item
stretched = skip (pos 0) (pos 0) 0 ∷ bar (pt 5) (pos 0) ∷ skip (pt 2) (pt 1) 1 ∷ bar (pt 5) (pt 3) ∷ []

abbrev stretched_box : Packed
stretched_box = boxed stretched (pt 20) (pt 2) (Set (record { change = Stretch; order = 1; total = pt 1; excess = pt 7 })) (pos 0)

pub stretched-read : begun (page stretched (pt 20) (pt 2)) some_tokens (pos 0) (pos 25) true ≡ Ok (Read stretched_box)
unfolding page_box packed
stretched-read = refl

-- with no tokens it is shipped, however many pages went to \output
pub stretched-shipped : begun (page stretched (pt 20) (pt 2)) [] (pos 0) (pos 0) true ≡ Ok (Ship stretched_box)
unfolding page_box packed
stretched-shipped = refl

-- A page that is higher than its goal, \vsize=20pt: \vbox(20.0+0.0)x0.0, \badness is 1000000, and no line tells of it.
abbrev overfull : List Item
overfull = skip (pos 0) (pos 0) 0 ∷ bar (pt 25) (pos 0) ∷ []

pub overfull-read : begun (page overfull (pt 20) (pt 2)) some_tokens (pos 1) (pos 2) true ≡ Ok (Read (boxed overfull (pt 20) (pos 0) Natural (pos 1000000)))
unfolding page_box packed
overfull-read = refl

-- nor does one where the goal lies so far below the page that \vfuzz as Knuth's TeX sets it would be passed
pub far-below : page_box overfull (negsuc 1073741822) (pt 2) ≡ Ok (boxed overfull (negsuc 1073741822) (pos 0) Natural (pos 1000000))
unfolding page_box packed
far-below = refl

-- `Output loop---2 consecutive dead cycles.' comes where \deadcycles is \maxdeadcycles, and `\box255 is not void.' before it
pub too-often : begun (page overfull (pt 20) (pt 2)) some_tokens (pos 2) (pos 2) true ≡ Err TooManyDeadCycles
unfolding page_box packed
too-often = refl

pub not-void : begun (page overfull (pt 20) (pt 2)) some_tokens (pos 2) (pos 2) false ≡ Err OccupiedPageBox
not-void = refl

-- a goal that is no dimension
pub no-dimension : begun (page overfull (pos 1073741824) (pt 2)) [] (pos 0) (pos 25) true ≡ Err SizeOutOfRange
unfolding page_box
no-dimension = refl

-- \output built rules of 1pt and 2pt: they stand behind an insertion that is held over, here a rule of 4pt, and before the penalty
pub behind-output : finished (Some (record { held = bar (pt 4) (pos 0) ∷ []; rest = plain (Penalty (pos 10000)) ∷ [] })) (bar (pt 1) (pos 0) ∷ bar (pt 2) (pos 0) ∷ []) true true ≡ Ok (bar (pt 4) (pos 0) ∷ bar (pt 1) (pos 0) ∷ bar (pt 2) (pos 0) ∷ plain (Penalty (pos 10000)) ∷ [])
behind-output = refl

-- `Unbalanced output routine', and `Output routine didn't use all of \box255.'
pub unbalanced : finished None [] false true ≡ Err UnbalancedOutput
unbalanced = refl

pub left-over : finished None [] true false ≡ Err UnbalancedOutput
left-over = refl
