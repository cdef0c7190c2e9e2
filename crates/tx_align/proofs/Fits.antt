-- The sums of the stretch or shrink that is set are dimensions along the preamble's box, and along the rows that are set as it is.
use Rattle.std.proofs.Common.{◌≡◌, ◌<◌, ◌∙◌, ◌+◌, ◌^◌, ℕ, zero, suc, ℤ, pos, ◌+ℤ◌, Bool, true, false, ◌&&◌, List, [], ◌∷◌, ◌++◌, length, take, drop, get_or, Option, Some, None, Ok, refl, sym, ap, subst, append_assoc, arith, unsigned_abs}
use Rattle.std.specs.Prelude.{flat_map, is_some, nat_lt}
use Rattle.std.proofs.lemmas.Bool.{and_parts, ltb-true}
use Rattle.std.proofs.lemmas.Int.{ints}
use Rattle.std.proofs.Math.Seq.{drop-cons}
use Rattle.tx_num.specs.Glue.{GlueSpec, IsDimension}
use Rattle.tx_node.specs.declared.head.BoxHead.{BoxHead}
use Rattle.tx_node.specs.declared.head.Direction.TheVariants.{Horizontal}
use Rattle.tx_node.specs.declared.head.Setting.{Setting}
use Rattle.tx_node.specs.declared.head.Setting.TheVariants.{Natural, Set}
use Rattle.tx_node.specs.declared.plain.KernKind.TheVariants.{Implicit}
use Rattle.tx_node.specs.declared.plain.Plain.TheVariants.{Kern}
use Rattle.tx_node.specs.Items.{Item, PackedBox, plain, items_of}
use Rattle.tx_node.specs.Setting.{IsSet, moved, share, sums_fit}
use Rattle.tx_pack.specs.declared.sums.Sums.{Sums}
use Rattle.tx_pack.specs.declared.types.Goal.{Goal}
use Rattle.tx_pack.specs.declared.types.PackParams.{PackParams}
use Rattle.tx_pack.specs.declared.types.Packed.{Packed}
use Rattle.tx_pack.specs.Packing.{hpacked, packing}
use Rattle.tx_pack.specs.Sums.{sums_of}
use Rattle.tx_pack.proofs.Runs.{set-fits}
use Rattle.tx_align.specs.declared.cell.SetCell.{SetCell}
use Rattle.tx_align.specs.declared.prototype.PlacedColumn.{PlacedColumn}
use Rattle.tx_align.specs.declared.prototype.Prototype.{Prototype}
use Rattle.tx_align.specs.declared.sized.SizedColumn.{SizedColumn}
use Rattle.tx_align.specs.Prototypes.{IsPrototype, column_items, placed, placed_from, prototype, sizes_of, skip_item}
use Rattle.tx_align.specs.RowBoxes.{blank_items, cell_items, cells_items, row_depth, row_head, row_height, row_items}

-- all sums of a list are dimensions, where it is this much before it
abbrev Fits : Setting → ℤ → List Item → Type 0
Fits setting sum list = sums_fit setting sum (items_of list) ≡ true

-- a sum is a dimension
abbrev small : ℤ → Bool
small sum = nat_lt (unsigned_abs sum) (2 ^ 30)

-- white space has nothing of what is set
no-more : (z : ℤ) → z +ℤ pos 0 ≡ z
no-more z = omega (arith, ints)

kern-share : (setting : Setting) (width sum : ℤ) → sum +ℤ share setting (plain (Kern Implicit width)) ≡ sum
kern-share Natural width sum = no-more sum
kern-share (Set g) width sum = no-more sum

-- behind the glue before the first column
abbrev first_sum : Setting → GlueSpec → ℤ
first_sum setting first = pos 0 +ℤ share setting (skip_item first)

pub first_small : (setting : Setting) (first : GlueSpec) (columns : List SizedColumn) → Fits setting (pos 0) (prototype first columns) → IsDimension (first_sum setting first)
first_small setting first columns fit = ltb-true _ _ (and_parts (nat_lt (unsigned_abs (first_sum setting first)) (2 ^ 30)) (sums_fit setting (first_sum setting first) (items_of (column_items columns))) fit).0

pub first_fits : (setting : Setting) (first : GlueSpec) (columns : List SizedColumn) → Fits setting (pos 0) (prototype first columns) → Fits setting (first_sum setting first) (column_items columns)
first_fits setting first columns fit = (and_parts (nat_lt (unsigned_abs (first_sum setting first)) (2 ^ 30)) (sums_fit setting (first_sum setting first) (items_of (column_items columns))) fit).1

-- behind a column and its skip
column-fits : (setting : Setting) (sum : ℤ) (c : SizedColumn) (rest : List SizedColumn) → Fits setting sum (column_items (c ∷ rest))
    → IsDimension (sum +ℤ share setting (skip_item c.skip)) × Fits setting (sum +ℤ share setting (skip_item c.skip)) (column_items rest)
column-fits setting sum c rest fit =
    let space : ℤ = sum +ℤ share setting (plain (Kern Implicit c.width)) in
    let behind : ℤ → Bool = λ z. nat_lt (unsigned_abs (z +ℤ share setting (skip_item c.skip))) (2 ^ 30) && sums_fit setting (z +ℤ share setting (skip_item c.skip)) (items_of (column_items rest)) in
    let later : behind space ≡ true = (and_parts (nat_lt (unsigned_abs space) (2 ^ 30)) (behind space) fit).1 in
    let here : behind sum ≡ true = ap behind (sym (kern-share setting c.width sum)) ∙ later in
    let parts = and_parts (nat_lt (unsigned_abs (sum +ℤ share setting (skip_item c.skip))) (2 ^ 30)) (sums_fit setting (sum +ℤ share setting (skip_item c.skip)) (items_of (column_items rest))) here in
    (ltb-true _ _ parts.0, parts.1)

column-next : (setting : Setting) (sum : ℤ) (xs : List SizedColumn) (i : ℕ) (x : SizedColumn) → i < length xs → x ≡ get_or xs i x → Fits setting sum (column_items (drop i xs))
    → IsDimension (sum +ℤ share setting (skip_item x.skip)) × Fits setting (sum +ℤ share setting (skip_item x.skip)) (column_items (drop (suc i) xs))
column-next setting sum xs i x h is fit =
    column-fits setting sum x (drop (suc i) xs)
    (ap (λ (c : SizedColumn). sums_fit setting sum (items_of (column_items (c ∷ drop (suc i) xs)))) is
    ∙ ap (λ (ys : List SizedColumn). sums_fit setting sum (items_of (column_items ys))) (sym (drop-cons xs i x h))
    ∙ fit)

behind-it : (i : ℕ) → suc i ≡ i + 1
behind-it i = omega arith

pub next_small : (setting : Setting) (sum : ℤ) (xs : List SizedColumn) (i : ℕ) (x : SizedColumn) → i < length xs → x ≡ get_or xs i x → Fits setting sum (column_items (drop i xs))
    → IsDimension (sum +ℤ share setting (skip_item x.skip))
next_small setting sum xs i x h is fit = (column-next setting sum xs i x h is fit).0

pub next_fits : (setting : Setting) (sum : ℤ) (xs : List SizedColumn) (i : ℕ) (x : SizedColumn) → i < length xs → x ≡ get_or xs i x → Fits setting sum (column_items (drop i xs))
    → Fits setting (sum +ℤ share setting (skip_item x.skip)) (column_items (drop (i + 1) xs))
next_fits setting sum xs i x h is fit =
    subst (λ (n : ℕ). Fits setting (sum +ℤ share setting (skip_item x.skip)) (column_items (drop n xs))) (behind-it i) (column-next setting sum xs i x h is fit).1

-- one more column is placed
pub next_placed : (setting : Setting) (sum : ℤ) (made : List PlacedColumn) (xs : List SizedColumn) (i : ℕ) (x : SizedColumn) → i < length xs → x ≡ get_or xs i x
    → (made ++ record { sized = x; shift = moved setting sum } ∷ []) ++ placed_from setting (sum +ℤ share setting (skip_item x.skip)) (drop (i + 1) xs)
    ≡ made ++ placed_from setting sum (drop i xs)
next_placed setting sum made xs i x h is =
    ap (λ (n : ℕ). (made ++ record { sized = x; shift = moved setting sum } ∷ []) ++ placed_from setting (sum +ℤ share setting (skip_item x.skip)) (drop n xs)) (sym (behind-it i))
    ∙ append_assoc made (record { sized = x; shift = moved setting sum } ∷ []) (placed_from setting (sum +ℤ share setting (skip_item x.skip)) (drop (suc i) xs))
    ∙ ap (λ (c : SizedColumn). made ++ placed_from setting sum (c ∷ drop (suc i) xs)) is
    ∙ ap (λ (ys : List SizedColumn). made ++ placed_from setting sum ys) (sym (drop-cons xs i x h))

-- a list that was packed has sums, and so each sum along it is a dimension, whichever part of its glue is set
by-sums : (list : List Item) (goal : Goal) (params : PackParams) (sums : Option Sums) (made : Packed) → packing Horizontal list goal params sums ≡ Ok made → is_some sums ≡ true
by-sums list goal params None made is = absurd (cc)
by-sums list goal params (Some s) made is = refl

pub packed_has_sums : (list : List Item) (goal : Goal) (params : PackParams) (made : Packed) → hpacked list goal params ≡ Ok made → is_some (sums_of Horizontal list) ≡ true
packed_has_sums list goal params made is = by-sums list goal params (sums_of Horizontal list) made is

pub has_fits : (setting : Setting) (list : List Item) → IsSet setting → is_some (sums_of Horizontal list) ≡ true → sums_fit setting (pos 0) (items_of list) ≡ true
has_fits setting list is_set some = set-fits Horizontal setting list is_set some

-- columns that are placed are those that were sized
sizes-placed : (setting : Setting) (sum : ℤ) (columns : List SizedColumn) → sizes_of (placed_from setting sum columns) ≡ columns
sizes-placed setting sum [] = refl
sizes-placed setting sum (c ∷ rest) = ap (λ (more : List SizedColumn). c ∷ more) (sizes-placed setting (sum +ℤ share setting (skip_item c.skip)) rest)

pub is_prototype : (head : BoxHead) (first : GlueSpec) (columns : List SizedColumn) (made : List PlacedColumn) → IsSet head.setting
    → sums_fit head.setting (pos 0) (items_of (prototype first columns)) ≡ true → made ≡ placed head.setting first columns
    → IsPrototype (record { head = head; first = first; columns = made })
is_prototype head first columns made is_set fit is = record {
  is_set = is_set;
  sums = ap (λ (some : List SizedColumn). sums_fit head.setting (pos 0) (items_of (prototype first some)))
      (ap sizes_of is ∙ sizes-placed head.setting (first_sum head.setting first) columns) ∙ fit;
}

-- two lists begin alike, with a part that has nothing of what is set and with a skip: where the sums of the one are dimensions, so are those
-- of the other, if they are behind that
swapped : (x y a b : Bool) → (x && (y && a)) ≡ true → (a ≡ true → b ≡ true) → (x && (y && b)) ≡ true
swapped true true a b e on = on e
swapped true false a b e on = e
swapped false y a b e on = e

-- the empty boxes of columns, and what is behind them
blanks-fit : (setting : Setting) (n : ℕ) (columns : List PlacedColumn) (sum : ℤ) (more : List Item) → Fits setting sum (column_items (sizes_of columns))
    → ((z : ℤ) → Fits setting z (column_items (sizes_of (drop n columns))) → Fits setting z more)
    → Fits setting sum (flat_map blank_items (take n columns) ++ more)
blanks-fit setting zero columns sum more fit on = on sum fit
blanks-fit setting (suc n) [] sum more fit on = on sum fit
blanks-fit Natural (suc n) (c ∷ columns) sum more fit on =
    let next : ℤ = sum +ℤ pos 0 +ℤ pos 0 in
    swapped (small (sum +ℤ pos 0)) (small next) (sums_fit Natural next (items_of (column_items (sizes_of columns)))) (sums_fit Natural next (items_of (flat_map blank_items (take n columns) ++ more))) fit
    (λ later. blanks-fit Natural n columns next more later on)
blanks-fit (Set g) (suc n) (c ∷ columns) sum more fit on =
    let next : ℤ = sum +ℤ pos 0 +ℤ share (Set g) (skip_item c.sized.skip) in
    swapped (small (sum +ℤ pos 0)) (small next) (sums_fit (Set g) next (items_of (column_items (sizes_of columns)))) (sums_fit (Set g) next (items_of (flat_map blank_items (take n columns) ++ more))) fit
    (λ later. blanks-fit (Set g) n columns next more later on)

-- a cell of so many of them, and what is behind it
cell-fits : (setting : Setting) (height depth : ℤ) (b : PackedBox) (n : ℕ) (columns : List PlacedColumn) (sum : ℤ) (more : List Item)
    → Fits setting sum (column_items (sizes_of columns))
    → ((z : ℤ) → Fits setting z (column_items (sizes_of (drop n columns))) → Fits setting z more)
    → Fits setting sum (cell_items height depth b (take n columns) ++ more)
cell-fits setting height depth b zero columns sum more fit on = on sum fit
cell-fits setting height depth b (suc n) [] sum more fit on = on sum fit
cell-fits Natural height depth b (suc n) (c ∷ columns) sum more fit on =
    let next : ℤ = sum +ℤ pos 0 +ℤ pos 0 in
    swapped (small (sum +ℤ pos 0)) (small next) (sums_fit Natural next (items_of (column_items (sizes_of columns)))) (sums_fit Natural next (items_of (flat_map blank_items (take n columns) ++ more))) fit
    (λ later. blanks-fit Natural n columns next more later on)
cell-fits (Set g) height depth b (suc n) (c ∷ columns) sum more fit on =
    let next : ℤ = sum +ℤ pos 0 +ℤ share (Set g) (skip_item c.sized.skip) in
    swapped (small (sum +ℤ pos 0)) (small next) (sums_fit (Set g) next (items_of (column_items (sizes_of columns)))) (sums_fit (Set g) next (items_of (flat_map blank_items (take n columns) ++ more))) fit
    (λ later. blanks-fit (Set g) n columns next more later on)

-- all cells of a row
cells-fit : (setting : Setting) (height depth : ℤ) (cells : List SetCell) (columns : List PlacedColumn) (sum : ℤ) → Fits setting sum (column_items (sizes_of columns))
    → Fits setting sum (cells_items height depth columns cells)
cells-fit setting height depth [] columns sum fit = refl
cells-fit setting height depth (cell ∷ rest) columns sum fit =
    cell-fits setting height depth cell.node cell.span columns sum (cells_items height depth (drop cell.span columns) rest) fit
    (λ z later. cells-fit setting height depth rest (drop cell.span columns) z later)

behind-first : (x a b : Bool) → (x && a) ≡ true → (a ≡ true → b ≡ true) → (x && b) ≡ true
behind-first true a b e on = on e
behind-first false a b e on = e

row-fits : (p : Prototype) (cells : List SetCell) → IsPrototype p → Fits p.head.setting (pos 0) (row_items p cells)
row-fits p cells is =
    let next : ℤ = first_sum p.head.setting p.first in
    behind-first (small next) (sums_fit p.head.setting next (items_of (column_items (sizes_of p.columns)))) (sums_fit p.head.setting next (items_of (cells_items (row_height cells) (row_depth cells) p.columns cells))) is.sums
    (λ later. cells-fit p.head.setting (row_height cells) (row_depth cells) cells p.columns next later)

-- its box has the preamble's glue set
pub row_is_set : (p : Prototype) (cells : List SetCell) (head : BoxHead) → IsPrototype p → head ≡ row_head p cells → IsSet head.setting
row_is_set p cells head is head_is = subst (λ (h : BoxHead). IsSet h.setting) (sym head_is) is.is_set

pub row_sums : (p : Prototype) (cells : List SetCell) (head : BoxHead) (list : List Item) → IsPrototype p → head ≡ row_head p cells → list ≡ row_items p cells
    → sums_fit head.setting (pos 0) (items_of list) ≡ true
row_sums p cells head list is head_is list_is =
    ap (λ (h : BoxHead). sums_fit h.setting (pos 0) (items_of list)) head_is
    ∙ ap (λ (items : List Item). sums_fit p.head.setting (pos 0) (items_of items)) list_is
    ∙ row-fits p cells is
