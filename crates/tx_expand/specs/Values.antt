-- The quantities that scans ask for: those of the list that is being built, and else those of the table (TeX: The Program, sections
-- 413 to 424).
use Rattle.std.specs.Prelude.{ℕ, ℤ, pos, int_le, unsigned_abs, ◌&&◌, Bool, true, false, List, Option, Some, None, if◌then◌else◌}
use Rattle.tx_eqtb.specs.declared.eqtb.Eqtb.{Eqtb}
use Rattle.tx_eqtb.specs.Quantities.{value_in}
use Rattle.tx_eqtb.specs.Table.{number_at}
use Rattle.tx_nest.specs.declared.nest.Nest.{Nest}
use Rattle.tx_nest.specs.Changed.{is_bare_page}
use Rattle.tx_nest.specs.Lasts.{last_kern, last_penalty, last_skip}
use Rattle.tx_nest.specs.States.{prev_depth, space_factor}
use Rattle.tx_node.specs.Items.{Item}
use Rattle.tx_prim.specs.declared.integer.IntegerParameter.TheVariants.{Mag}
use Rattle.tx_num.specs.Glue.{zero_glue}
use Rattle.tx_pagebuilder.specs.Quantities.{shown}
use Rattle.tx_output.specs.declared.last.LastItem.{LastItem}
use Rattle.tx_output.specs.declared.last.LastItem.TheVariants as last
use Rattle.tx_output.specs.declared.pages.Pages.{Pages}
use Rattle.tx_prim.specs.declared.family.PageQuantity.{PageQuantity}
use Rattle.tx_prim.specs.declared.family.PageQuantity.TheVariants as page
use Rattle.tx_prim.specs.declared.family.FontNumber.{FontNumber}
use Rattle.tx_prim.specs.declared.family.ItemKind.{ItemKind}
use Rattle.tx_prim.specs.declared.family.ItemKind.TheVariants as item
use Rattle.tx_seen.specs.declared.fed.Value.{Value}
use Rattle.tx_seen.specs.declared.fed.Value.TheVariants.{Absent, Dimen, Glue, Int, Magnification, OutOfRange}
use Rattle.tx_seen.specs.declared.place.FontName.{FontName}
use Rattle.tx_seen.specs.declared.place.FontName.TheVariants.{Current, Number}
use Rattle.tx_seen.specs.declared.place.FontSize.{FontSize}
use Rattle.tx_seen.specs.declared.place.FontSize.TheVariants.{Quad, XHeight}
use Rattle.tx_seen.specs.declared.place.Place.{Place}
use Rattle.tx_seen.specs.declared.place.Place.TheVariants as place
use Rattle.tx_tfm.specs.declared.state.FontState.{FontState}
use Rattle.tx_tfm.specs.Fonts.{font_integer, font_parameter, has_parameter}
use Rattle.tx_expand.specs.declared.known.Known.{Known}

-- \lastpenalty, \lastkern and \lastskip
abbrev pub last_value : ItemKind → List Item → Value
last_value item.Penalty nodes = Int (last_penalty nodes)
last_value item.Kern nodes = Dimen (last_kern nodes)
last_value item.Skip nodes = Glue (last_skip nodes)

-- the same while a word is open: the last item is a character, or a ligature or a kern of its font that isn't told (section 424)
abbrev pub no_last : ItemKind → Value
no_last item.Penalty = Int (pos 0)
no_last item.Kern = Dimen (pos 0)
no_last item.Skip = Glue zero_glue

-- the same of the last node that was contributed to the page (sections 424 and 996)
abbrev pub page_value : ItemKind → LastItem → Value
page_value item.Penalty (last.Penalty n) = Int n
page_value item.Kern (last.Kern size) = Dimen size
page_value item.Skip (last.Skip g) = Glue g
page_value kind _ = no_last kind

-- \spacefactor, which horizontal modes have
abbrev pub factor_value : Option ℕ → Value
factor_value None = Absent
factor_value (Some factor) = Int (pos factor)

-- the parameters of a font in which dimensions are told (section 455)
abbrev pub parameter_of : FontSize → ℕ
parameter_of Quad = 6
parameter_of XHeight = 5

-- \fontdimen of a number, which the font has or can get (section 578)
abbrev pub dimen_value : List FontState → ℕ → ℕ → Value
dimen_value fonts font n = if has_parameter fonts font n then Dimen (font_parameter fonts font n) else OutOfRange

-- \hyphenchar and \skewchar
abbrev pub integer_value : List FontState → FontNumber → ℕ → Value
integer_value fonts kind font = Int (font_integer kind fonts font)

-- \prevdepth, which vertical modes have
abbrev pub depth_value : Option ℤ → Value
depth_value None = Absent
depth_value (Some depth) = Dimen depth

-- whether a magnification may be used: 1 to 32768, and the one that was used first (section 288)
abbrev pub may_magnify : Option ℤ → ℤ → Bool
may_magnify first mag = (int_le (pos 1) mag && int_le mag (pos 32768)) && is_that first mag
  where
    is_that : Option ℤ → ℤ → Bool
    is_that None mag = true
    is_that (Some n) mag = int_le n mag && int_le mag n

-- \mag, if it may be used
abbrev pub magnification_value : Option ℤ → ℤ → Value
magnification_value first mag = if may_magnify first mag then Magnification (unsigned_abs mag) else Absent

-- the table, the lists, what is kept of pages, \badness, the magnification if it is used, the fonts, and whether a word is open, without the loans
pub record Lent : Type 0 where
  pub table : Eqtb
  pub nest : Nest
  pub pages : Pages
  pub badness : ℤ
  pub magnification : Option ℤ
  pub fonts : List FontState
  pub has_word : Bool

abbrev pub lent : Known → Lent
lent known = record { table = known.table.now; nest = known.nest.now; pages = known.pages.now; badness = known.badness; magnification = known.magnification; fonts = known.fonts.now; has_word = known.has_word }

-- the number of a font, as a document tells it
abbrev pub font_number : Lent → FontName → ℕ
font_number known Current = known.table.table.font
font_number known (Number n) = n

-- \lastpenalty, \lastkern and \lastskip: on the pages' list with no contribution left, those of the page
abbrev pub last_of_list : ItemKind → Lent → Value
last_of_list kind known =
    if is_bare_page known.nest.innermost.state known.nest.innermost.nodes
    then page_value kind known.pages.last
    else last_value kind known.nest.innermost.nodes

abbrev pub last_or_none : Bool → ItemKind → Lent → Value
last_or_none true kind known = no_last kind
last_or_none false kind known = last_of_list kind known

-- \pagegoal and its kin are sizes, \insertpenalties is an integer (section 421)
abbrev pub quantity_value : Pages → PageQuantity → Value
quantity_value pages page.InsertPenalties = Int (shown page.InsertPenalties pages.page.measures)
quantity_value pages quantity = Dimen (shown quantity pages.page.measures)

abbrev pub value_now : Lent → Place → Value
value_now known (place.Last kind) = last_or_none known.has_word kind known
value_now known place.Badness = Int known.badness
value_now known place.PrevDepth = depth_value (prev_depth known.nest.innermost.state)
value_now known place.SpaceFactor = factor_value (space_factor known.nest.innermost.state)
value_now known place.PrevGraf = Int (pos known.nest.innermost.prev_graf)
value_now known (place.FontSize size) = Dimen (font_parameter known.fonts known.table.table.font (parameter_of size))
value_now known (place.FontDimen font n) = dimen_value known.fonts (font_number known font) n
value_now known (place.FontInteger kind font) = integer_value known.fonts kind (font_number known font)
value_now known place.Font = value_in known.table place.Font
value_now known (place.Family size family) = value_in known.table (place.Family size family)
value_now known (place.Name name) = value_in known.table (place.Name name)
value_now known (place.Active code) = value_in known.table (place.Active code)
value_now known (place.Category code) = value_in known.table (place.Category code)
value_now known (place.Code kind code) = value_in known.table (place.Code kind code)
value_now known (place.Count number) = value_in known.table (place.Count number)
value_now known (place.Dimen number) = value_in known.table (place.Dimen number)
value_now known place.Magnification = magnification_value known.magnification (number_at known.table.table (place.Integer Mag))
value_now known place.ParShape = value_in known.table place.ParShape
value_now known (place.Page quantity) = quantity_value known.pages quantity
value_now known place.DeadCycles = Int known.pages.dead_cycles
value_now known (place.Skip number) = value_in known.table (place.Skip number)
value_now known (place.Muskip number) = value_in known.table (place.Muskip number)
value_now known (place.Glue parameter) = value_in known.table (place.Glue parameter)
value_now known (place.BoxTest test number) = value_in known.table (place.BoxTest test number)
value_now known (place.Toks number) = value_in known.table (place.Toks number)
value_now known (place.Integer parameter) = value_in known.table (place.Integer parameter)
value_now known (place.Dimension parameter) = value_in known.table (place.Dimension parameter)
value_now known (place.Tokens parameter) = value_in known.table (place.Tokens parameter)
value_now known (place.Box number) = value_in known.table (place.Box number)
value_now known (place.BoxSize side number) = value_in known.table (place.BoxSize side number)
