-- The definitions at plain pages that Knuth's TeX ships with the same bytes, at movements by registers, and at lines whose places were worked out by hand.
use Rattle.std.proofs.Common.{◌≡◌, ℕ, ℤ, pos, negsuc, List, [], ◌∷◌, Some, None, refl}
use Rattle.tx_node.specs.declared.head.BoxHead.{BoxHead}
use Rattle.tx_node.specs.declared.head.Change.TheVariants.{Stretch, Shrink}
use Rattle.tx_node.specs.declared.head.Direction.{Direction}
use Rattle.tx_node.specs.declared.head.Direction.TheVariants.{Horizontal, Vertical}
use Rattle.tx_node.specs.declared.head.Setting.{Setting}
use Rattle.tx_node.specs.declared.head.Setting.TheVariants.{Natural, Set}
use Rattle.tx_node.specs.declared.plain.KernKind.TheVariants.{Implicit, Explicit}
use Rattle.tx_node.specs.declared.plain.LeadersKind.{LeadersKind}
use Rattle.tx_node.specs.declared.plain.LeadersKind.TheVariants.{Aligned, Centered, Expanded}
use Rattle.tx_node.specs.declared.plain.Plain.TheVariants.{Kern, Glue, Penalty, Character}
use Rattle.tx_node.specs.declared.plain.Shared.TheVariants.{Rule, Leaders, Special}
use Rattle.tx_node.specs.declared.rule.Rule.{Rule as RuleSides}
use Rattle.tx_node.specs.Copies.{copies_of}
use Rattle.tx_node.specs.Items.{Item, plain, shared, boxed, box_leaders, items_of}
use Rattle.tx_dvi.specs.Dvi.{four_bytes, unsigned_bytes, definition_bytes}
use Rattle.tx_tfm.specs.declared.named.NamedFont.{NamedFont}
use Rattle.tx_tfm.specs.declared.state.FontState.{FontState}
use Rattle.tx_tfm.specs.Fonts.{loaded_state, null_state}
use Rattle.tx_tfm.specs.Format.{tfm_of, word_at, design_size_of}
use Rattle.tx_ship.specs.Characters.{font_commands, definition_commands, choice, set_code}
use Rattle.tx_dvi.specs.declared.placed.Placed.{Placed}
use Rattle.tx_dvi.specs.declared.placed.Placed.TheVariants.{Lettered, Ruled, Noted}
use Rattle.tx_ship.specs.Commands.{written_of, list_commands, character_item, rule_item, rule_bytes, way, movement, special, copied, copy_way}
use Rattle.tx_ship.specs.Placing.{placed, placed_list, placed_copies}
use Rattle.tx_ship.specs.Registers.{registered}

-- sizes and items
abbrev rule_of : ℕ → ℕ → ℕ → Item
rule_of width height depth = shared (Rule (record { width = Some (pos width); height = Some (pos height); depth = Some (pos depth) }))

abbrev kern_of : ℕ → Item
kern_of size = plain (Kern Explicit (pos size))

-- stretch of this order, shrink of the normal one
abbrev glue : ℤ → ℕ → ℕ → ℕ → Item
glue width stretch order shrink = plain (Glue (record { width = width; stretch = pos stretch; stretch_order = order; shrink = pos shrink; shrink_order = 0 }))

abbrev leaders : RuleSides → ℤ → ℕ → ℕ → Item
leaders r width stretch order =
    shared (Leaders (record { kind = Aligned; glue = record { width = width; stretch = pos stretch; stretch_order = order; shrink = pos 0; shrink_order = 0 }; rule = r }))

abbrev head : Direction → ℕ → ℕ → ℕ → Setting → BoxHead
head direction width height depth setting = record { direction = direction; width = pos width; height = pos height; depth = pos depth; setting = setting }

abbrev box : ℤ → BoxHead → List Item → Item
box shift h list = boxed shift h (items_of list)

abbrev page : BoxHead → List Item → List ℕ
page h list = (written_of [] [] (record { head = h; list = list }) (pos 0) (pos 0)).0

-- \vbox{\hrule width 3pt height 1pt depth 0pt}
rule-page : page (head Vertical 196608 65536 0 Natural) (rule_of 196608 65536 0 ∷ []) ≡ 159 ∷ 1 ∷ 0 ∷ 0 ∷ 137 ∷ 0 ∷ 1 ∷ 0 ∷ 0 ∷ 0 ∷ 3 ∷ 0 ∷ 0 ∷ []
unfolding list_commands rule_item rule_bytes way movement four_bytes
rule-page = refl

-- \vbox{\hbox{\vrule width 40pt height 5pt depth 0pt}}
line-page : page (head Vertical 2621440 327680 0 Natural) (box (pos 0) (head Horizontal 2621440 327680 0 Natural) (rule_of 2621440 327680 0 ∷ []) ∷ [])
    ≡ 159 ∷ 5 ∷ 0 ∷ 0 ∷ 141 ∷ 132 ∷ 0 ∷ 5 ∷ 0 ∷ 0 ∷ 0 ∷ 40 ∷ 0 ∷ 0 ∷ 142 ∷ []
unfolding list_commands rule_item rule_bytes way movement four_bytes
line-page = refl

-- \hbox to 4sp with three times \hskip 0sp plus 1sp and a rule of 1sp
abbrev loose : Item
loose = glue (pos 0) 1 0 1

abbrev three : List Item
three = loose ∷ rule_of 1 1 0 ∷ loose ∷ rule_of 1 1 0 ∷ loose ∷ rule_of 1 1 0 ∷ []

abbrev stretched : ℕ → Setting
stretched excess = Set (record { change = Stretch; order = 0; total = pos 3; excess = pos excess })

set-page : page (head Horizontal 4 1 0 (stretched 1)) three
    ≡ 157 ∷ 1 ∷ 132 ∷ 0 ∷ 0 ∷ 0 ∷ 1 ∷ 0 ∷ 0 ∷ 0 ∷ 1 ∷ 143 ∷ 1 ∷ 132 ∷ 0 ∷ 0 ∷ 0 ∷ 1 ∷ 0 ∷ 0 ∷ 0 ∷ 1 ∷ 132 ∷ 0 ∷ 0 ∷ 0 ∷ 1 ∷ 0 ∷ 0 ∷ 0 ∷ 1 ∷ []
unfolding list_commands rule_item rule_bytes way movement four_bytes
set-page = refl

-- \vbox{\moveright 7sp\hbox{..}\kern 10sp\moveleft 5sp\hbox{}\vskip 4sp\hrule ..}
column-page : page (head Vertical 9 19 6 Natural)
    (box (pos 7) (head Horizontal 2 3 1 Natural) (rule_of 2 3 1 ∷ []) ∷ kern_of 10 ∷ box (negsuc 4) (head Horizontal 0 0 0 Natural) [] ∷ glue (pos 4) 0 0 0
    ∷ rule_of 9 2 6 ∷ [])
    ≡ 157 ∷ 3 ∷ 141 ∷ 143 ∷ 7 ∷ 157 ∷ 1 ∷ 132 ∷ 0 ∷ 0 ∷ 0 ∷ 4 ∷ 0 ∷ 0 ∷ 0 ∷ 2 ∷ 142 ∷ 157 ∷ 23 ∷ 137 ∷ 0 ∷ 0 ∷ 0 ∷ 8 ∷ 0 ∷ 0 ∷ 0 ∷ 9 ∷ []
unfolding list_commands rule_item rule_bytes way movement four_bytes
column-page = refl

-- \hbox{\kern 7sp\special{ab}\raise 3sp\hbox{..}\lower 4sp\vbox{..}\penalty 5 \vrule ..}
special-page : page (head Horizontal 24 9 4 Natural)
    (kern_of 7 ∷ shared (Special (97 ∷ 98 ∷ [])) ∷ box (negsuc 2) (head Horizontal 3 2 0 Natural) (kern_of 1 ∷ rule_of 2 2 0 ∷ [])
    ∷ box (pos 4) (head Vertical 6 6 0 Natural) (rule_of 6 1 0 ∷ kern_of 5 ∷ []) ∷ plain (Penalty (pos 5)) ∷ rule_of 8 9 0 ∷ [])
    ≡ 143 ∷ 7 ∷ 157 ∷ 9 ∷ 239 ∷ 2 ∷ 97 ∷ 98 ∷ 141 ∷ 143 ∷ 1 ∷ 157 ∷ 253 ∷ 132 ∷ 0 ∷ 0 ∷ 0 ∷ 2 ∷ 0 ∷ 0 ∷ 0 ∷ 2 ∷ 142
    ∷ 141 ∷ 143 ∷ 3 ∷ 157 ∷ 255 ∷ 137 ∷ 0 ∷ 0 ∷ 0 ∷ 1 ∷ 0 ∷ 0 ∷ 0 ∷ 6 ∷ 142 ∷ 143 ∷ 9 ∷ 132 ∷ 0 ∷ 0 ∷ 0 ∷ 9 ∷ 0 ∷ 0 ∷ 0 ∷ 8 ∷ []
unfolding list_commands rule_item rule_bytes way movement four_bytes special
special-page = refl

-- \hbox to 100sp{\leaders\vrule height 2sp depth 1sp\hskip 10sp plus 1fil\kern 3sp\leaders\hrule height 4sp depth 0sp\hskip 5sp}
across-page : page (head Horizontal 100 4 1 (Set (record { change = Stretch; order = 1; total = pos 65536; excess = pos 82 })))
    (leaders (record { width = Some (pos 26214); height = Some (pos 2); depth = Some (pos 1) }) (pos 10) 65536 1 ∷ kern_of 3
    ∷ leaders (record { width = None; height = Some (pos 4); depth = Some (pos 0) }) (pos 5) 0 0 ∷ [])
    ≡ 157 ∷ 5 ∷ 132 ∷ 0 ∷ 0 ∷ 0 ∷ 3 ∷ 0 ∷ 0 ∷ 0 ∷ 92 ∷ 143 ∷ 3 ∷ 157 ∷ 255 ∷ 132 ∷ 0 ∷ 0 ∷ 0 ∷ 4 ∷ 0 ∷ 0 ∷ 0 ∷ 5 ∷ []
unfolding list_commands rule_item rule_bytes way movement four_bytes
across-page = refl

-- \vbox to 100sp{\leaders\hrule width 6sp\vskip 10sp plus 1fil\kern 3sp\special{}\leaders\hrule\vskip -5sp\hrule height 1sp}
down-page : page (head Vertical 6 100 0 (Set (record { change = Stretch; order = 1; total = pos 65536; excess = pos 91 })))
    (leaders (record { width = Some (pos 6); height = Some (pos 26214); depth = Some (pos 0) }) (pos 10) 65536 1 ∷ kern_of 3 ∷ shared (Special [])
    ∷ leaders (record { width = None; height = Some (pos 26214); depth = Some (pos 0) }) (negsuc 4) 0 0
    ∷ shared (Rule (record { width = None; height = Some (pos 1); depth = Some (pos 0) })) ∷ [])
    ≡ 157 ∷ 101 ∷ 137 ∷ 0 ∷ 0 ∷ 0 ∷ 101 ∷ 0 ∷ 0 ∷ 0 ∷ 6 ∷ 157 ∷ 3 ∷ 239 ∷ 0 ∷ 157 ∷ 252 ∷ 137 ∷ 0 ∷ 0 ∷ 0 ∷ 1 ∷ 0 ∷ 0 ∷ 0 ∷ 6 ∷ []
unfolding list_commands rule_item rule_bytes way movement four_bytes special
down-page = refl

-- a metric file whose characters a and b are 5pt wide and 2.5pt high at 10pt
abbrev metric_file : List ℕ
metric_file =
    0 ∷ 40 ∷ 0 ∷ 2 ∷ 0 ∷ 97 ∷ 0 ∷ 98 ∷ 0 ∷ 2 ∷ 0 ∷ 2 ∷ 0 ∷ 1 ∷ 0 ∷ 1 ∷ 0 ∷ 1 ∷ 0 ∷ 1 ∷ 0 ∷ 0 ∷ 0 ∷ 22 ∷ 0 ∷ 0 ∷ 0 ∷ 0 ∷ 0 ∷ 160 ∷ 0 ∷ 0 ∷
    1 ∷ 16 ∷ 1 ∷ 0 ∷ 1 ∷ 16 ∷ 0 ∷ 0 ∷ 0 ∷ 0 ∷ 0 ∷ 0 ∷ 0 ∷ 8 ∷ 0 ∷ 0 ∷ 0 ∷ 0 ∷ 0 ∷ 0 ∷ 0 ∷ 4 ∷ 0 ∷ 0 ∷ 0 ∷ 0 ∷ 0 ∷ 0 ∷ 0 ∷ 0 ∷ 0 ∷ 0 ∷
    128 ∷ 97 ∷ 128 ∷ 0 ∷ 0 ∷ 1 ∷ 0 ∷ 0 ∷ 0 ∷ 0 ∷ 0 ∷ 0 ∷ 0 ∷ 4 ∷ 0 ∷ 0 ∷ 0 ∷ 2 ∷ 0 ∷ 0 ∷ 0 ∷ 1 ∷ 0 ∷ 0 ∷ 0 ∷ 8 ∷ 0 ∷ 0 ∷ 0 ∷ 16 ∷ 0 ∷ 0 ∷
    0 ∷ 0 ∷ 0 ∷ 0 ∷ 0 ∷ 0 ∷ 0 ∷ 0 ∷ 0 ∷ 0 ∷ 0 ∷ 0 ∷ 0 ∷ 0 ∷ 0 ∷ 0 ∷ 0 ∷ 0 ∷ 0 ∷ 0 ∷ 0 ∷ 0 ∷ 0 ∷ 0 ∷ 0 ∷ 0 ∷ 0 ∷ 0 ∷ 0 ∷ 0 ∷ 0 ∷ 0 ∷
    0 ∷ 0 ∷ 0 ∷ 0 ∷ 0 ∷ 0 ∷ 0 ∷ 0 ∷ 0 ∷ 0 ∷ 0 ∷ 0 ∷ 0 ∷ 0 ∷ 0 ∷ 0 ∷ 0 ∷ 0 ∷ 0 ∷ 0 ∷ 0 ∷ 0 ∷ 0 ∷ 0 ∷ 0 ∷ 0 ∷ 0 ∷ 0 ∷ 0 ∷ 4 ∷ 0 ∷ 0 ∷ []

-- the font t at 10pt, which is the first one, and at 5pt, the second
abbrev font_t : NamedFont
font_t = record { name = 116 ∷ []; font = record { file = tfm_of metric_file; size = 655360 } }

abbrev small_t : NamedFont
small_t = record { name = 116 ∷ []; font = record { file = tfm_of metric_file; size = 327680 } }

abbrev fonts : List FontState
fonts = null_state ∷ loaded_state font_t (pos 45) (negsuc 0) ∷ loaded_state small_t (pos 45) (negsuc 0) ∷ []

abbrev letter : ℕ → Item
letter code = plain (Character (record { font = 1; code = code; width = pos 327680; height = pos 163840; depth = pos 0 }))

abbrev small_letter : ℕ → Item
small_letter code = plain (Character (record { font = 2; code = code; width = pos 163840; height = pos 81920; depth = pos 0 }))

abbrev page_in : List ℕ → BoxHead → List Item → List ℕ
page_in known h list = (written_of fonts known (record { head = h; list = list }) (pos 0) (pos 0)).0

-- \hbox{\f aab\g a}, where the page before has defined the second font; Knuth's TeX ships it with the same bytes
font-page : page_in (1 ∷ []) (head Horizontal 1187840 163840 0 Natural) (letter 97 ∷ plain (Kern Implicit (pos 40960)) ∷ letter 97 ∷ letter 98 ∷ small_letter 97 ∷ [])
    ≡ 159 ∷ 2 ∷ 128 ∷ 0 ∷ 243 ∷ 0 ∷ 0 ∷ 0 ∷ 0 ∷ 0 ∷ 0 ∷ 10 ∷ 0 ∷ 0 ∷ 0 ∷ 10 ∷ 0 ∷ 0 ∷ 0 ∷ 1 ∷ 116 ∷ 171 ∷ 97 ∷ 145 ∷ 0 ∷ 160 ∷ 0 ∷ 97 ∷ 98 ∷ 172 ∷ 97 ∷ []
unfolding list_commands character_item font_commands definition_commands choice set_code definition_bytes unsigned_bytes word_at design_size_of way movement four_bytes
font-page = refl

-- \vbox{\hbox{\f a}\hbox{\f b\hbox{\g a}\f b}} behind it: a pop brings no font back
fonts-page : page_in (1 ∷ 0 ∷ []) (head Vertical 819200 327680 0 Natural)
    (box (pos 0) (head Horizontal 327680 163840 0 Natural) (letter 97 ∷ [])
    ∷ box (pos 0) (head Horizontal 819200 163840 0 Natural) (letter 98 ∷ box (pos 0) (head Horizontal 163840 81920 0 Natural) (small_letter 97 ∷ []) ∷ letter 98 ∷ []) ∷ [])
    ≡ 159 ∷ 2 ∷ 128 ∷ 0 ∷ 141 ∷ 171 ∷ 97 ∷ 142 ∷ 159 ∷ 2 ∷ 128 ∷ 0 ∷ 141 ∷ 98 ∷ 141 ∷ 172 ∷ 97 ∷ 142 ∷ 145 ∷ 2 ∷ 128 ∷ 0 ∷ 171 ∷ 98 ∷ 142 ∷ []
unfolding list_commands character_item font_commands definition_commands choice set_code way movement four_bytes
fonts-page = refl

-- a movement is by the register that holds its amount, or sets the one that was used less recently
by-registers : registered (143 ∷ 3 ∷ 143 ∷ 5 ∷ 143 ∷ 7 ∷ 143 ∷ 3 ∷ 143 ∷ 7 ∷ []) ≡ 148 ∷ 3 ∷ 153 ∷ 5 ∷ 148 ∷ 7 ∷ 153 ∷ 3 ∷ 147 ∷ []
unfolding registered
by-registers = refl

-- pop brings back what they hold, and which of them was
behind-pop : registered (143 ∷ 3 ∷ 141 ∷ 143 ∷ 5 ∷ 142 ∷ 143 ∷ 7 ∷ 157 ∷ 2 ∷ 157 ∷ 2 ∷ []) ≡ 148 ∷ 3 ∷ 141 ∷ 153 ∷ 5 ∷ 142 ∷ 153 ∷ 7 ∷ 162 ∷ 2 ∷ 161 ∷ []
unfolding registered
behind-pop = refl

-- Five lines of the same three rules, each behind glue: the places of the rules, where the glue has to grow by so much in all.
-- Glue that was rounded by itself would leave the last rule of each line off.
abbrev rights : List Placed → List ℤ
rights [] = []
rights (Lettered c ∷ rest) = c.h ∷ rights rest
rights (Ruled r ∷ rest) = r.h ∷ rights rest
rights (Noted s ∷ rest) = s.h ∷ rights rest

abbrev line : Setting → List ℤ
line setting = rights (placed (record { head = head Horizontal 3 1 0 setting; list = three }) (pos 0) (pos 0))

by-1 : line (stretched 1) ≡ pos 0 ∷ pos 2 ∷ pos 3 ∷ []
unfolding placed_list
by-1 = refl

by-2 : line (stretched 2) ≡ pos 1 ∷ pos 2 ∷ pos 4 ∷ []
unfolding placed_list
by-2 = refl

by-4 : line (stretched 4) ≡ pos 1 ∷ pos 4 ∷ pos 6 ∷ []
unfolding placed_list
by-4 = refl

by-5 : line (stretched 5) ≡ pos 2 ∷ pos 4 ∷ pos 7 ∷ []
unfolding placed_list
by-5 = refl

by-minus_1 : line (Set (record { change = Shrink; order = 0; total = pos 3; excess = negsuc 0 })) ≡ pos 0 ∷ pos 0 ∷ pos 1 ∷ []
unfolding placed_list
by-minus_1 = refl

-- \hbox to 3pt{\leaders\copy1\hskip0pt plus 1fil}, where the box is \hbox{\vrule width 1pt height 1pt depth 0pt}
abbrev copies : LeadersKind → ℤ → ℕ → BoxHead → Item → Item
copies kind width stretch repeated inside =
    box_leaders (record { kind = kind; glue = record { width = width; stretch = pos stretch; stretch_order = 1; shrink = pos 0; shrink_order = 0 } }) repeated (items_of (inside ∷ []))

abbrev filled : ℕ → Setting
filled excess = Set (record { change = Stretch; order = 1; total = pos 65536; excess = pos excess })

leaders-page : page (head Horizontal 196608 65536 0 (filled 196608)) (copies Aligned (pos 0) 65536 (head Horizontal 65536 65536 0 Natural) (rule_of 65536 65536 0) ∷ [])
    ≡ 159 ∷ 1 ∷ 0 ∷ 0 ∷ 141 ∷ 132 ∷ 0 ∷ 1 ∷ 0 ∷ 0 ∷ 0 ∷ 1 ∷ 0 ∷ 0 ∷ 142 ∷ 145 ∷ 1 ∷ 0 ∷ 0 ∷ 141 ∷ 132 ∷ 0 ∷ 1 ∷ 0 ∷ 0 ∷ 0 ∷ 1 ∷ 0 ∷ 0 ∷ 142
    ∷ 145 ∷ 1 ∷ 0 ∷ 0 ∷ 141 ∷ 132 ∷ 0 ∷ 1 ∷ 0 ∷ 0 ∷ 0 ∷ 1 ∷ 0 ∷ 0 ∷ 142 ∷ []
unfolding list_commands copied copy_way copies_of rule_item rule_bytes way movement four_bytes
leaders-page = refl

-- Leaders with a remainder: behind a kern of 2sp, and of -2sp, \leaders of a box 3sp wide in 9sp; \cleaders of it in 8sp; \xleaders of a
-- box 4sp wide in 11sp
abbrev along : List Item → List ℤ
along list = rights (placed (record { head = head Horizontal 20 1 0 Natural; list = list }) (pos 0) (pos 0))

abbrev wide : ℕ → BoxHead
wide width = head Horizontal width 1 0 Natural

behind-2 : along (kern_of 2 ∷ copies Aligned (pos 9) 0 (wide 3) (rule_of 3 1 0) ∷ []) ≡ pos 3 ∷ pos 6 ∷ []
unfolding placed_list placed_copies copies_of
behind-2 = refl

before-2 : along (plain (Kern Explicit (negsuc 1)) ∷ copies Aligned (pos 9) 0 (wide 3) (rule_of 3 1 0) ∷ []) ≡ pos 0 ∷ pos 3 ∷ []
unfolding placed_list placed_copies copies_of
before-2 = refl

centered-2 : along (copies Centered (pos 8) 0 (wide 3) (rule_of 3 1 0) ∷ []) ≡ pos 1 ∷ pos 4 ∷ []
unfolding placed_list placed_copies copies_of
centered-2 = refl

expanded-2 : along (copies Expanded (pos 11) 0 (wide 4) (rule_of 4 1 0) ∷ []) ≡ pos 1 ∷ pos 6 ∷ []
unfolding placed_list placed_copies copies_of
expanded-2 = refl

-- \vbox{\kern 2sp\cleaders\vbox{\hrule width 5sp height 2sp depth 1sp}\vskip 8sp}: the corners of the rules lie 1sp below their baselines
abbrev downs : List Placed → List ℤ
downs [] = []
downs (Lettered c ∷ rest) = c.v ∷ downs rest
downs (Ruled r ∷ rest) = r.v ∷ downs rest
downs (Noted s ∷ rest) = s.v ∷ downs rest

down-2 : downs (placed (record { head = head Vertical 5 10 0 Natural; list = kern_of 2 ∷ copies Centered (pos 8) 0 (head Vertical 5 2 1 Natural) (rule_of 5 2 1) ∷ [] }) (pos 0) (pos 0)) ≡ pos 6 ∷ pos 9 ∷ []
unfolding placed_list placed_copies copies_of
down-2 = refl
