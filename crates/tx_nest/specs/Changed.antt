-- How commands change the list that is being built (TeX: The Program, sections 1034, 1080, 1103 to 1110 and 1243).
use Rattle.std.specs.Prelude.{ℕ, ℤ, Bool, true, false, List, [], ◌∷◌, ◌++◌, Option, Some, None, if◌then◌else◌}
use Rattle.tx_prim.specs.declared.family.ItemKind.{ItemKind}
use Rattle.tx_prim.specs.declared.family.ItemKind.TheVariants as kind
use Rattle.tx_node.specs.Items.{Item}
use Rattle.tx_nest.specs.declared.list.ModeList.{ModeList}
use Rattle.tx_nest.specs.declared.state.ModeState.{ModeState}
use Rattle.tx_nest.specs.declared.state.ModeState.TheVariants.{Vertical, InternalVertical, Horizontal, RestrictedHorizontal, Math, DisplayMath}
use Rattle.tx_nest.specs.Lasts.{without_last}
use Rattle.tx_nest.specs.States.{with_prev_depth, with_space_factor}

-- items at the end that change nothing else: glue, kerns, penalties, specials, and what \unhbox brings
abbrev pub with_items : ModeList → List Item → ModeList
with_items list items = record list { nodes = list.nodes ++ items }

-- the same list with other items
abbrev pub with_nodes : ModeList → List Item → ModeList
with_nodes list nodes = record list { nodes = nodes }

-- \prevdepth is set; lists that aren't vertical have none
abbrev pub with_depth : ModeList → ℤ → ModeList
with_depth list depth = record list { state = with_prev_depth list.state depth }

-- \spacefactor is set; lists that aren't horizontal have none
abbrev pub with_factor : ModeList → ℕ → ModeList
with_factor list factor = record list { state = with_space_factor list.state factor }

-- whether \lastbox may look at the last item: not on the pages' list while nothing stands there, since that would be the page's,
-- nor in formulas (section 1080)
abbrev pub has_last : ModeState → List Item → Bool
has_last (Vertical depth) [] = false
has_last (Vertical depth) (item ∷ rest) = true
has_last (InternalVertical depth) nodes = true
has_last (Horizontal factor) nodes = true
has_last (RestrictedHorizontal factor) nodes = true
has_last Math nodes = false
has_last DisplayMath nodes = false

-- whether the last item would be the page's: the pages' list with nothing that isn't on the page yet
abbrev pub is_bare_page : ModeState → List Item → Bool
is_bare_page (Vertical depth) [] = true
is_bare_page (Vertical depth) (item ∷ rest) = false
is_bare_page (InternalVertical depth) nodes = false
is_bare_page (Horizontal factor) nodes = false
is_bare_page (RestrictedHorizontal factor) nodes = false
is_bare_page Math nodes = false
is_bare_page DisplayMath nodes = false

-- \unpenalty, \unkern and \unskip there, where nothing can be taken: only \unskip may stand behind no glue, and does nothing
-- (section 1106); None where they may not stand
abbrev pub apologizing : ItemKind → ModeList → Option ModeList
apologizing kind.Penalty list = None
apologizing kind.Kern list = None
apologizing kind.Skip list = Some list

-- everywhere else they take the last item away where it is of their kind (section 1105)
abbrev pub removing : ItemKind → ModeList → Option ModeList
removing kind list =
    if is_bare_page list.state list.nodes then apologizing kind list else Some (with_nodes list (without_last kind list.nodes))

-- what a list became, if it could be changed
abbrev pub told : Bool → ModeList → Option ModeList
told changed list = if changed then Some list else None
