-- A code of lists: a proof tells values apart by it. Each item is a row, and the rows of its lists stand behind it, each list
-- before a row that closes it.
use Rattle.std.specs.Prelude.{◌≡◌, ℕ, zero, suc, ℤ, pos, ◌⊎◌, List, [], ◌∷◌}
use Rattle.std.proofs.Common.{refl, ap, inl, inr}
use Rattle.std.specs.Coded.{Coded, code_by, coded×, coded⊎, coded_ℕ, coded_ℤ, coded_list}
use Rattle.tx_node.specs.declared.head.BoxHead.{BoxHead}
use Rattle.tx_node.specs.contracts.head.BoxHead as box_head
use Rattle.tx_node.specs.declared.head.BreakHead.{BreakHead}
use Rattle.tx_node.specs.contracts.head.BreakHead as break_head
use Rattle.tx_node.specs.declared.head.InsertHead.{InsertHead}
use Rattle.tx_node.specs.contracts.head.InsertHead as insert_head
use Rattle.tx_node.specs.declared.head.LeadersHead.{LeadersHead}
use Rattle.tx_node.specs.contracts.head.LeadersHead as leaders_head
use Rattle.tx_node.specs.declared.plain.Plain.{Plain}
use Rattle.tx_node.specs.declared.plain.Plain.TheVariants.{Penalty}
use Rattle.tx_node.specs.contracts.plain.Plain as plain_item
use Rattle.tx_node.specs.declared.plain.Shared.{Shared}
use Rattle.tx_node.specs.contracts.plain.Shared as shared_item
use Rattle.tx_node.specs.Items.{Item, plain, shared, boxed, discretionary, adjustment, insertion, box_leaders, Items, none, more, PackedBox}

-- an item without a list, a box, a discretionary, an insertion, leaders of a box, an adjustment (1), or what closes a list (0)
abbrev pub Row : Type 0
Row = Plain ⊎ (Shared ⊎ ((ℤ × BoxHead) ⊎ (BreakHead ⊎ (InsertHead ⊎ ((LeadersHead × BoxHead) ⊎ ℕ)))))

abbrev pub rows_code : Coded (List Row)
rows_code =
    coded_list (coded⊎ plain_item.the_row.coded (coded⊎ shared_item.the_row.coded (coded⊎ (coded× coded_ℤ box_head.the_row.coded)
    (coded⊎ break_head.the_row.coded (coded⊎ insert_head.the_row.coded
    (coded⊎ (coded× leaders_head.the_row.coded box_head.the_row.coded) coded_ℕ))))))

abbrev pub plain_row : Plain → Row
plain_row p = inl p

abbrev pub shared_row : Shared → Row
shared_row s = inr (inl s)

abbrev pub box_row : ℤ → BoxHead → Row
box_row shift head = inr (inr (inl (shift, head)))

abbrev pub break_row : BreakHead → Row
break_row head = inr (inr (inr (inl head)))

abbrev pub insert_row : InsertHead → Row
insert_row head = inr (inr (inr (inr (inl head))))

abbrev pub leaders_row : LeadersHead → BoxHead → Row
leaders_row head repeated = inr (inr (inr (inr (inr (inl (head, repeated))))))

abbrev pub adjustment_row : Row
adjustment_row = inr (inr (inr (inr (inr (inr 1)))))

abbrev pub closing : Row
closing = inr (inr (inr (inr (inr (inr 0)))))

-- the rows of a list, before others
abbrev pub rows : Items → List Row → List Row
rows none behind = behind
rows (more (plain p) rest) behind = plain_row p ∷ rows rest behind
rows (more (shared s) rest) behind = shared_row s ∷ rows rest behind
rows (more (boxed shift head inner) rest) behind = box_row shift head ∷ rows inner (closing ∷ rows rest behind)
rows (more (discretionary head pre post) rest) behind = break_row head ∷ rows pre (closing ∷ rows post (closing ∷ rows rest behind))
rows (more (adjustment inner) rest) behind = adjustment_row ∷ rows inner (closing ∷ rows rest behind)
rows (more (insertion head inner) rest) behind = insert_row head ∷ rows inner (closing ∷ rows rest behind)
rows (more (box_leaders head repeated inner) rest) behind = leaders_row head repeated ∷ rows inner (closing ∷ rows rest behind)

-- the list that was read so far, and those around it, from the last row on
abbrev pub top_of : List Items → Items
top_of [] = none
top_of (list ∷ around) = list

abbrev pub rest_of : List Items → List Items
rest_of [] = []
rest_of (list ∷ around) = around

abbrev pub with_row : Row → Items × List Items → Items × List Items
with_row (inl p) read = (more (plain p) read.0, read.1)
with_row (inr (inl s)) read = (more (shared s) read.0, read.1)
with_row (inr (inr (inl b))) read = (more (boxed b.0 b.1 read.0) (top_of read.1), rest_of read.1)
with_row (inr (inr (inr (inl head)))) read =
    (more (discretionary head read.0 (top_of read.1)) (top_of (rest_of read.1)), rest_of (rest_of read.1))
with_row (inr (inr (inr (inr (inl head))))) read = (more (insertion head read.0) (top_of read.1), rest_of read.1)
with_row (inr (inr (inr (inr (inr (inl l)))))) read = (more (box_leaders l.0 l.1 read.0) (top_of read.1), rest_of read.1)
with_row (inr (inr (inr (inr (inr (inr zero)))))) read = (none, read.0 ∷ read.1)
with_row (inr (inr (inr (inr (inr (inr (suc n))))))) read = (more (adjustment read.0) (top_of read.1), rest_of read.1)

abbrev pub read_rows : List Row → Items × List Items
read_rows [] = (none, [])
read_rows (row ∷ rest) = with_row row (read_rows rest)

-- a list that was closed reads back before those around it
pub read_back : (items : Items) (behind : List Row) (around : List Items) → read_rows behind ≡ (none, around) → read_rows (rows items behind) ≡ (items, around)
read_back none behind around e = e
read_back (more (plain p) rest) behind around e = ap (with_row (plain_row p)) (read_back rest behind around e)
read_back (more (shared s) rest) behind around e = ap (with_row (shared_row s)) (read_back rest behind around e)
read_back (more (boxed shift head inner) rest) behind around e =
    ap (with_row (box_row shift head))
    (read_back inner (closing ∷ rows rest behind) (rest ∷ around) (ap (with_row closing) (read_back rest behind around e)))
read_back (more (discretionary head pre post) rest) behind around e =
    ap (with_row (break_row head))
    (read_back pre (closing ∷ rows post (closing ∷ rows rest behind)) (post ∷ rest ∷ around)
    (ap (with_row closing)
    (read_back post (closing ∷ rows rest behind) (rest ∷ around) (ap (with_row closing) (read_back rest behind around e)))))
read_back (more (adjustment inner) rest) behind around e =
    ap (with_row adjustment_row)
    (read_back inner (closing ∷ rows rest behind) (rest ∷ around) (ap (with_row closing) (read_back rest behind around e)))
read_back (more (insertion head inner) rest) behind around e =
    ap (with_row (insert_row head))
    (read_back inner (closing ∷ rows rest behind) (rest ∷ around) (ap (with_row closing) (read_back rest behind around e)))
read_back (more (box_leaders head repeated inner) rest) behind around e =
    ap (with_row (leaders_row head repeated))
    (read_back inner (closing ∷ rows rest behind) (rest ∷ around) (ap (with_row closing) (read_back rest behind around e)))

-- the first item; a list that a code gives has one
abbrev pub first_of : Items → Item
first_of none = plain (Penalty (pos 0))
first_of (more item rest) = item

-- an item by itself
abbrev pub item_code : Coded Item
item_code =
    code_by (List Row) rows_code (λ item. rows (more item none) []) (λ code. first_of (read_rows code).0)
    (λ item. ap (λ (read : Items × List Items). first_of read.0) (read_back (more item none) [] [] refl))

abbrev pub box_code : Coded PackedBox
box_code =
    code_by (BoxHead × List Item) (coded× box_head.the_row.coded (coded_list item_code))
    (λ b. (b.head, b.list)) (λ p. record { head = p.0; list = p.1 }) (λ _. refl)
