-- The sides of a rule (The TeXbook, chapter 21; TeX: The Program, section 463).
use Rattle.std.specs.Prelude.{ℕ, Bool, zero, suc, ℤ, pos, ◌∷◌, [], List, length, codes, Option, Some, None, if◌then◌else◌}
use Rattle.tx_char.specs.Character.{character}
use Rattle.tx_seen.specs.declared.fed.Want.TheVariants.{Expanded}
use Rattle.tx_seen.specs.declared.item.Item.{Item}
use Rattle.tx_seen.specs.declared.item.Item.TheVariants.{Took, Gave}
use Rattle.tx_seen.specs.declared.seen.Seen.{Seen}
use Rattle.tx_seen.specs.Seen.{is_space, is_key}
use Rattle.tx_seen.specs.Readings.{Reading, More, Done, next}
use Rattle.tx_prim.specs.declared.family.RuleKind.{RuleKind}
use Rattle.tx_prim.specs.declared.family.RuleKind.TheVariants.{Vertical, Horizontal}
use Rattle.tx_node.specs.declared.rule.Rule.{Rule}
use Rattle.tx_scan.specs.Integers.{expanded}
use Rattle.tx_scan.specs.Keywords.{keyword}
use Rattle.tx_scan.specs.Dimensions.{dimension, lengths}
use Rattle.tx_rule.specs.declared.scans.Side.{Side}
use Rattle.tx_rule.specs.declared.scans.Side.TheVariants.{Width, Height, Depth}

-- the name of a side
abbrev pub letters_of : Side → List ℕ
letters_of Width = codes "width"
letters_of Height = codes "height"
letters_of Depth = codes "depth"

-- the side whose name begins with this token
abbrev pub side_begun_by : Seen → Option Side
side_begun_by t =
    if is_key (character "w") t then Some Width
    else if is_key (character "h") t then Some Height
    else if is_key (character "d") t then Some Depth
    else None

-- a side's name, or none where its letters break off
abbrev pub side_if : Side → Bool → List Item → Reading (Option Side)
side_if side is_there behind = Done (if is_there then Some side else None) behind

abbrev pub side_or_none : Side → List Item → Reading (Option Side)
side_or_none side items = next (keyword (letters_of side) items) (side_if side)

abbrev pub named_side : Option Side → List Item → Reading (Option Side)
named_side None items = Done None items
named_side (Some side) items = side_or_none side items

-- the side that is named next, or none; spaces before it are dropped
abbrev pub side_named : List Item → Reading (Option Side)
side_named [] = More Expanded
side_named (Gave v ∷ rest) = Done None (Gave v ∷ rest)
side_named (Took t ∷ rest) = expanded t (if is_space t then side_named rest else named_side (side_begun_by t) (Took t ∷ rest))

-- a rule with this size for one of its sides, in sp
abbrev pub with_side : Rule → Side → ℤ → Rule
with_side rule Width size = record rule { width = Some size }
with_side rule Height size = record rule { height = Some size }
with_side rule Depth size = record rule { depth = Some size }

-- a \vrule is 0.4pt wide, and an \hrule 0.4pt high and not deep, where nothing else is said
abbrev pub plain_rule : RuleKind → Rule
plain_rule Vertical = record { width = Some (pos 26214); height = None; depth = None }
plain_rule Horizontal = record { width = None; height = Some (pos 26214); depth = Some (pos 0) }

-- a side's size and then what `on` reads, or the rule where no side is named
abbrev pub side_or_end : (Rule → List Item → Reading Rule) → Rule → Option Side → List Item → Reading Rule
side_or_end on rule None rest = Done rule rest
side_or_end on rule (Some side) rest = next (dimension lengths rest) (λ measure behind. on (with_side rule side measure.size) behind)

-- sides and sizes, as many as there are, at most so many
abbrev pub sides_by : ℕ → Rule → List Item → Reading Rule
sides_by zero rule items = More Expanded
sides_by (suc more) rule items = next (side_named items) (side_or_end (sides_by more) rule)

-- sides and sizes, as many as there are; each takes tokens, so there are no more than tokens
abbrev pub rule_sides : Rule → List Item → Reading Rule
rule_sides rule items = sides_by (suc (length items)) rule items
