-- The characters of items, and their fonts (TeX: The Program, sections 896 to 898).
use Rattle.std.specs.Prelude.{ℕ, List, [], ◌∷◌, slice_get, Option, Some, None}
use Rattle.tx_node.specs.declared.plain.Plain.{Plain}
use Rattle.tx_node.specs.declared.plain.Plain.TheVariants.{Kern, Glue, Penalty, Character}
use Rattle.tx_node.specs.declared.plain.Shared.{Shared}
use Rattle.tx_node.specs.declared.plain.Shared.TheVariants.{Rule, Leaders, Special, Ligature, Mark}
use Rattle.tx_node.specs.Items.{Item, plain, shared, boxed, discretionary, adjustment, insertion, box_leaders}

-- the font of a character or a ligature; None of other items
abbrev pub plain_font : Plain → Option ℕ
plain_font (Kern kind size) = None
plain_font (Glue g) = None
plain_font (Penalty n) = None
plain_font (Character c) = Some c.font

abbrev pub shared_font : Shared → Option ℕ
shared_font (Rule r) = None
shared_font (Leaders l) = None
shared_font (Special text) = None
shared_font (Ligature l) = Some l.character.font
shared_font (Mark text) = None

abbrev pub font_of : Item → Option ℕ
font_of (plain p) = plain_font p
font_of (shared s) = shared_font s
font_of (boxed shift head inner) = None
font_of (discretionary head before behind) = None
font_of (adjustment inner) = None
font_of (insertion head inner) = None
font_of (box_leaders head repeated inner) = None

-- the characters that it was made of
abbrev pub plain_codes : Plain → List ℕ
plain_codes (Kern kind size) = []
plain_codes (Glue g) = []
plain_codes (Penalty n) = []
plain_codes (Character c) = c.code ∷ []

abbrev pub shared_codes : Shared → List ℕ
shared_codes (Rule r) = []
shared_codes (Leaders l) = []
shared_codes (Special text) = []
shared_codes (Ligature l) = l.from
shared_codes (Mark text) = []

abbrev pub codes_of : Item → List ℕ
codes_of (plain p) = plain_codes p
codes_of (shared s) = shared_codes s
codes_of (boxed shift head inner) = []
codes_of (discretionary head before behind) = []
codes_of (adjustment inner) = []
codes_of (insertion head inner) = []
codes_of (box_leaders head repeated inner) = []

-- the first of them
abbrev pub first_code : Item → Option ℕ
first_code item = slice_get (codes_of item) 0
