-- What stands in one line of a paragraph (TeX: The Program, sections 879 to 889).
use Rattle.std.specs.Prelude.{ℕ, ◌==◌, ℤ, pos, unsigned_abs, Bool, true, false, not, ◌&&◌, if◌then◌else◌, List, [], ◌∷◌, ◌++◌, fold, filter, slice_get, slice_range, Option, None, Some}
use Rattle.tx_linebreak.specs.declared.piece.Piece.{Piece}
use Rattle.tx_linebreak.specs.Lines.{first_place}
use Rattle.tx_num.specs.Glue.{GlueSpec}
use Rattle.tx_node.specs.declared.plain.Plain.{Plain}
use Rattle.tx_node.specs.declared.plain.Plain.TheVariants.{Kern, Glue, Penalty, Character}
use Rattle.tx_node.specs.declared.plain.Shared.{Shared}
use Rattle.tx_node.specs.declared.plain.Shared.TheVariants.{Rule, Leaders, Special, Ligature, Mark}
use Rattle.tx_node.specs.Items.{Item, none, plain, shared, boxed, discretionary, adjustment, insertion, box_leaders}
use Rattle.tx_nest.specs.Lasts.{list_from}
use Rattle.tx_par.specs.declared.line.Line.{Line}

-- the glue at a line's beginning, none where all its sizes are 0
abbrev pub is_nothing : ℤ → Bool
is_nothing size = unsigned_abs size == 0

abbrev pub is_zero : GlueSpec → Bool
is_zero g = is_nothing g.width && (is_nothing g.stretch && is_nothing g.shrink)

abbrev pub glue_unless_zero : GlueSpec → List Item
glue_unless_zero g = if is_zero g then [] else plain (Glue g) ∷ []

-- the text that an item at a break puts at the beginning of the next line: a discretionary's, all others have none
abbrev pub text_behind : Option Item → List Item
text_behind None = []
text_behind (Some (plain p)) = []
text_behind (Some (shared s)) = []
text_behind (Some (boxed shift head inner)) = []
text_behind (Some (discretionary head before behind)) = list_from behind
text_behind (Some (adjustment inner)) = []
text_behind (Some (insertion head inner)) = []
text_behind (Some (box_leaders head repeated inner)) = []

-- that of a break, if the line doesn't begin the list
abbrev pub carried : List Item → Option ℕ → List Item
carried items None = []
carried items (Some place) = text_behind (slice_get items place)

-- an item is in a line that is set of the chain of the first pass, or of another one; where the first pass found the chain, there are
-- no discretionaries that hyphenation makes, and their no-break texts stand by themselves
abbrev pub stays : Bool → Item → Bool
stays first_pass (plain p) = true
stays first_pass (shared s) = true
stays first_pass (boxed shift head inner) = true
stays first_pass (discretionary head before behind) = not (first_pass && head.hyphenated)
stays first_pass (adjustment inner) = true
stays first_pass (insertion head inner) = true
stays first_pass (box_leaders head repeated inner) = true

-- what an item at the break that ends a line leaves there: glue vanishes, a kern takes no width, and a discretionary is empty and
-- before its text; nothing stands at the list's end
abbrev pub plain_left : Plain → List Item
plain_left (Kern kind size) = plain (Kern kind (pos 0)) ∷ []
plain_left (Glue g) = []
plain_left (Penalty n) = plain (Penalty n) ∷ []
plain_left (Character c) = plain (Character c) ∷ []

abbrev pub shared_left : Shared → List Item
shared_left (Rule r) = shared (Rule r) ∷ []
shared_left (Leaders l) = []
shared_left (Special text) = shared (Special text) ∷ []
shared_left (Ligature l) = shared (Ligature l) ∷ []
shared_left (Mark text) = shared (Mark text) ∷ []

abbrev pub empty_discretionary : Item
empty_discretionary = discretionary (record { replaced = 0; hyphenated = false }) none none

abbrev pub left_at : Option Item → List Item
left_at None = []
left_at (Some (plain p)) = plain_left p
left_at (Some (shared s)) = shared_left s
left_at (Some (boxed shift head inner)) = boxed shift head inner ∷ []
left_at (Some (discretionary head before behind)) = empty_discretionary ∷ list_from before
left_at (Some (adjustment inner)) = adjustment inner ∷ []
left_at (Some (insertion head inner)) = insertion head inner ∷ []
left_at (Some (box_leaders head repeated inner)) = []

-- the items between a break, or the list's beginning, and a break
abbrev pub between : Bool → List Item → List Piece → Option ℕ → ℕ → List Item
between first_pass items pieces from place = filter (stays first_pass) (slice_range items (first_place pieces from) place)

-- all items of that line
abbrev pub line_items : Bool → GlueSpec → GlueSpec → List Item → List Piece → Option ℕ → ℕ → List Item
line_items first_pass left_skip right_skip items pieces from place =
    glue_unless_zero left_skip ++ carried items from ++ between first_pass items pieces from place
    ++ left_at (slice_get items place)
    ++ plain (Glue right_skip) ∷ []

-- an item of a line stands in its box, but marks, insertions and the vertical lists of \vadjust leave it and follow the box
abbrev pub with_own : Line → Item → Line
with_own line item = record line { own = line.own ++ item ∷ [] }

abbrev pub with_behind : Line → List Item → Line
with_behind line items = record line { behind = line.behind ++ items }

abbrev pub with_shared : Line → Shared → Line
with_shared line (Rule r) = with_own line (shared (Rule r))
with_shared line (Leaders l) = with_own line (shared (Leaders l))
with_shared line (Special text) = with_own line (shared (Special text))
with_shared line (Ligature l) = with_own line (shared (Ligature l))
with_shared line (Mark text) = with_behind line (shared (Mark text) ∷ [])

abbrev pub with_item : Line → Item → Line
with_item line (plain p) = with_own line (plain p)
with_item line (shared s) = with_shared line s
with_item line (boxed shift head inner) = with_own line (boxed shift head inner)
with_item line (discretionary head before behind) = with_own line (discretionary head before behind)
with_item line (adjustment inner) = with_behind line (list_from inner)
with_item line (insertion head inner) = with_behind line (insertion head inner ∷ [])
with_item line (box_leaders head repeated inner) = with_own line (box_leaders head repeated inner)

abbrev pub with_items : Line → List Item → Line
with_items line items = fold with_item line items

abbrev pub empty_line : Line
empty_line = record { own = []; behind = [] }

abbrev pub line_of : List Item → Line
line_of items = with_items empty_line items
