-- What a split gives (TeX: The Program, sections 968, 969, 977 and 979).
use Rattle.std.specs.Prelude.{ℕ, Bool, ℤ, pos, ◌-ℤ◌, List, [], ◌∷◌, take, drop, Option, Some, None, Result, Ok, Err, if◌then◌else◌}
use Rattle.std.specs.Int.{int_max}
use Rattle.std.specs.Option.{unwrap_or}
use Rattle.tx_char.specs.declared.tokens.Token.{Token}
use Rattle.tx_num.specs.Glue.{GlueSpec}
use Rattle.tx_node.specs.declared.plain.Plain.TheVariants.{Glue}
use Rattle.tx_node.specs.declared.plain.Shared.{Shared}
use Rattle.tx_node.specs.declared.plain.Shared.TheVariants.{Rule, Leaders, Special, Ligature, Mark}
use Rattle.tx_node.specs.Items.{Item, plain, shared, boxed, discretionary, adjustment, insertion, box_leaders}
use Rattle.tx_insert.specs.declared.error.SplitError.{SplitError}
use Rattle.tx_insert.specs.declared.error.SplitError.TheVariants.{SizeOutOfRange}
use Rattle.tx_insert.specs.declared.kind.Kind.{Kind}
use Rattle.tx_insert.specs.declared.kind.Kind.TheVariants.{Solid, Skip, Kern, Penalty, Still}
use Rattle.tx_insert.specs.declared.answer.Split.{Split}
use Rattle.tx_insert.specs.declared.trial.Break.{Break}
use Rattle.tx_insert.specs.Kinds.{kind_of}
use Rattle.tx_num.specs.Limits.{fits}
use Rattle.tx_insert.specs.Breaks.{break_of}

-- the tokens of an item that is a mark
abbrev pub shared_mark : Shared → Option (List Token)
shared_mark (Rule r) = None
shared_mark (Leaders l) = None
shared_mark (Special text) = None
shared_mark (Ligature l) = None
shared_mark (Mark text) = Some text

abbrev pub mark_of : Item → Option (List Token)
mark_of (plain p) = None
mark_of (shared s) = shared_mark s
mark_of (boxed shift head inner) = None
mark_of (discretionary head before behind) = None
mark_of (adjustment inner) = None
mark_of (insertion head inner) = None
mark_of (box_leaders head repeated inner) = None

-- the one of two marks that there is, the first one where there are both
abbrev pub either : Option (List Token) → Option (List Token) → Option (List Token)
either None other = other
either (Some mark) other = Some mark

-- the first mark of a list, and its last one
abbrev pub first_mark : List Item → Option (List Token)
first_mark [] = None
first_mark (item ∷ rest) = either (mark_of item) (first_mark rest)

abbrev pub last_mark : List Item → Option (List Token)
last_mark [] = None
last_mark (item ∷ rest) = either (last_mark rest) (mark_of item)

-- the height of the first box or rule of a list, 0 where there is none
abbrev pub height_of : Kind → Option ℤ
height_of (Solid height depth) = Some height
height_of (Skip g) = None
height_of (Kern size) = None
height_of (Penalty n) = None
height_of Still = None

abbrev pub solid_height : Item → Option ℤ
solid_height item = height_of (kind_of item)

abbrev pub top_height : List Item → ℤ
top_height [] = pos 0
top_height (item ∷ rest) = unwrap_or (solid_height item) (top_height rest)

-- \splittopskip or \topskip less a height, at least 0 wide (also section 1001)
abbrev pub width_above : GlueSpec → ℤ → ℤ
width_above skip height = int_max (skip.width -ℤ height) (pos 0)

abbrev pub glue_above : GlueSpec → ℤ → Result GlueSpec SplitError
glue_above skip height = if fits (width_above skip height) then Ok (record skip { width = width_above skip height }) else Err SizeOutOfRange

abbrev pub glue_item : GlueSpec → Item
glue_item glue = plain (Glue glue)

-- a list behind a break: what is discarded vanishes up to the first box or rule, before which glue is put
abbrev pub pruned_at : GlueSpec → Kind → Item → List Item → List Item → List Item
pruned_at glue (Solid height depth) item rest later = glue_item glue ∷ item ∷ rest
pruned_at glue (Skip g) item rest later = later
pruned_at glue (Kern size) item rest later = later
pruned_at glue (Penalty n) item rest later = later
pruned_at glue Still item rest later = item ∷ later

abbrev pub pruned : GlueSpec → List Item → List Item
pruned glue [] = []
pruned glue (item ∷ rest) = pruned_at glue (kind_of item) item rest (pruned glue rest)

-- the same, where the glue may have been put already
abbrev pub pruned_from : Bool → GlueSpec → List Item → List Item
pruned_from begun glue list = if begun then list else pruned glue list

-- what remains of a list behind a break: \splittopskip less the height of its first box or rule comes before that
abbrev pub remains_below : List Item → Result GlueSpec SplitError → Result (List Item) SplitError
remains_below list (Err e) = Err e
remains_below list (Ok glue) = Ok (pruned glue list)

abbrev pub remains : GlueSpec → List Item → Result (List Item) SplitError
remains skip list = remains_below list (glue_above skip (top_height list))

-- a list divided: what stands before a place, what remains behind it, and the first and the last mark before it
abbrev pub parts_of : List Item → Result (List Item) SplitError → Result Split SplitError
parts_of above (Err e) = Err e
parts_of above (Ok rest) = Ok (record { top = above; rest = rest; first = first_mark above; last = last_mark above })

abbrev pub divided : List Item → ℕ → GlueSpec → Result Split SplitError
divided list place skip = parts_of (take place list) (remains skip (drop place list))

-- a list split to a height, with at most so much depth, where \splittopskip is this glue
abbrev pub split_by : List Item → GlueSpec → Result Break SplitError → Result Split SplitError
split_by list skip (Err e) = Err e
split_by list skip (Ok made) = divided list made.place skip

abbrev pub split_of : List Item → ℤ → ℤ → GlueSpec → Result Split SplitError
split_of list goal most skip = split_by list skip (break_of list goal most)
