-- Boxes with sizes of their own, and a character in one (TeX: The Program, sections 136 and 709).
use Rattle.std.specs.Prelude.{ℕ, suc, ◌&&◌, nat_le, ℤ, pos, ◌+ℤ◌, List, [], ◌∷◌, Result, Ok, Err, if◌then◌else◌}
use Rattle.tx_num.specs.Limits.{fits}
use Rattle.tx_node.specs.declared.character.Character.{Character as CharacterItem}
use Rattle.tx_node.specs.declared.head.BoxHead.{BoxHead}
use Rattle.tx_node.specs.declared.head.Direction.{Direction}
use Rattle.tx_node.specs.declared.head.Direction.TheVariants.{Horizontal}
use Rattle.tx_node.specs.declared.head.Setting.TheVariants.{Natural}
use Rattle.tx_node.specs.declared.plain.Plain.TheVariants.{Character}
use Rattle.tx_node.specs.Counts.{nesting_of}
use Rattle.tx_node.specs.Items.{Item, PackedBox, plain, items_of, box_item}
use Rattle.tx_tfm.specs.declared.state.FontState.{FontState}
use Rattle.tx_tfm.specs.Fonts.{character_depth, character_height, character_italic, character_width}
use Rattle.tx_word.specs.Words.{character_of}
use Rattle.tx_delim.specs.declared.error.DelimError.{DelimError}
use Rattle.tx_delim.specs.declared.error.DelimError.TheVariants.{SizeOutOfRange, TooDeep}
use Rattle.tx_delim.specs.Outcomes.{passed}

-- a box beside its list
abbrev pub head_of : Direction → ℤ → ℤ → ℤ → BoxHead
head_of direction width height depth = record { direction = direction; width = width; height = height; depth = depth; setting = Natural }

-- a list in a box of these sizes, which have to be dimensions
unfoldable pub sized_box : Direction → ℤ → ℤ → ℤ → List Item → Result PackedBox DelimError
sized_box direction width height depth list =
    if fits width && (fits height && fits depth)
    then (if nat_le (suc (nesting_of (items_of list))) 500 then Ok (record { head = head_of direction width height depth; list = list }) else Err TooDeep)
    else Err SizeOutOfRange

-- a horizontal box without a list that is so wide
abbrev pub empty_box : ℤ → PackedBox
empty_box width = record { head = head_of Horizontal width (pos 0) (pos 0); list = [] }

-- how wide a character is with its italic correction
abbrev pub full_width : List FontState → ℕ → ℕ → ℤ
full_width fonts font code = character_width fonts font code +ℤ character_italic fonts font code

-- a character in a box, which is so wide
abbrev pub character_list : CharacterItem → List Item
character_list c = plain (Character c) ∷ []

abbrev pub character_box : List FontState → ℕ → ℕ → Result PackedBox DelimError
character_box fonts font code =
    sized_box Horizontal (full_width fonts font code) (character_height fonts font code) (character_depth fonts font code)
    (character_list (character_of fonts font code))

-- the same as an item
abbrev pub character_item : List FontState → ℕ → ℕ → Result Item DelimError
character_item fonts font code = passed (character_box fonts font code) (λ b. Ok (box_item (pos 0) b))
