-- A page, and its state when it begins (TeX: The Program, sections 980, 987 and 991).
use Rattle.std.specs.Prelude.{◌==◌, ◌&&◌, is_none, Bool, true, false, ℤ, pos, List, [], ◌∷◌, ◌++◌, length, Option, None, Result, Ok, Err, if◌then◌else◌}
use Rattle.tx_node.specs.Items.{Item}
use Rattle.tx_insert.specs.declared.kind.Kind.{Kind}
use Rattle.tx_insert.specs.Sums.{no_sums}
use Rattle.tx_pagebuilder.specs.declared.class.Class.{Class}
use Rattle.tx_pagebuilder.specs.declared.error.PageError.{PageError}
use Rattle.tx_pagebuilder.specs.declared.kern.Kern.{Kern}
use Rattle.tx_pagebuilder.specs.declared.measures.Built.{Built}
use Rattle.tx_pagebuilder.specs.declared.measures.Built.TheVariants.{Went, Fires}
use Rattle.tx_pagebuilder.specs.declared.measures.Contents.{Contents}
use Rattle.tx_pagebuilder.specs.declared.measures.Contents.TheVariants.{Nothing, Fired, Inserts, Solid}
use Rattle.tx_pagebuilder.specs.declared.measures.Measures.{Measures}
use Rattle.tx_pagebuilder.specs.declared.measures.Placed.{Placed}
use Rattle.tx_pagebuilder.specs.Placing.{placed}

-- a page that is being built: the items on it, the kern that waits for what comes behind it, the classes of insertions on it, and what it
-- measures
pub record Page : Type 0 where
  pub nodes : List Item
  pub waiting : Option Kern
  pub classes : List Class
  pub measures : Measures

-- measures when a run begins, behind this \insertpenalties
abbrev pub first_measures : ℤ → Measures
first_measures penalties = record {
  contents = Nothing;
  goal = pos 0;
  most = pos 0;
  sums = no_sums;
  insert_penalties = penalties;
  best = None;
  after_solid = false;
}

abbrev pub empty_page : Page
empty_page = record { nodes = []; waiting = None; classes = []; measures = first_measures (pos 0) }

-- it has no node
abbrev pub is_empty : Page → Bool
is_empty page = length page.nodes == 0 && is_none page.waiting

-- behind the \output of a page that was fired nothing of this page can be read any more, and \insertpenalties is 0 (section 1026)
abbrev pub is_fired : Contents → Bool
is_fired Nothing = false
is_fired Fired = true
is_fired Inserts = false
is_fired Solid = false

abbrev pub output_ended : Measures → Measures
output_ended m = if is_fired m.contents then first_measures (pos 0) else record m { insert_penalties = pos 0 }

-- nor behind one that is shipped without \output; \insertpenalties still counts what is held over (section 1023)
abbrev pub measures_shipped : Measures → Measures
measures_shipped m = if is_fired m.contents then first_measures m.insert_penalties else m

abbrev pub shipped : Page → Page
shipped page = record page { measures = measures_shipped page.measures }

-- the page has a box or a rule; it has that or an insertion, so that its goal and \maxdepth stand
abbrev pub has_solid : Contents → Bool
has_solid Nothing = false
has_solid Fired = false
has_solid Inserts = false
has_solid Solid = true

abbrev pub is_frozen : Contents → Bool
is_frozen Nothing = false
is_frozen Fired = false
is_frozen Inserts = true
is_frozen Solid = true

-- a page gets its first box, rule or insertion: then its goal is \vsize, \maxdepth stands, and the sums begin; it has no break yet, since none
-- is legal before
abbrev pub frozen : ℤ → ℤ → Contents → Measures → Measures
frozen vsize max_depth contents m = record m { contents = contents; goal = vsize; most = max_depth; sums = no_sums }

-- a page with one more node behind the others, and what came of that
pub record Grown : Type 0 where
  pub page : Page
  pub built : Built

abbrev pub grown : Page → Built → Grown
grown page built = record { page = page; built = built }

abbrev pub with_node : Page → Item → Page
with_node page item = record page { nodes = page.nodes ++ item ∷ [] }

abbrev pub grown_by : Page → Item → Result Placed PageError → Result Grown PageError
grown_by page item (Err e) = Err e
grown_by page item (Ok p) = Ok (grown (record (with_node page item) { measures = p.measures }) p.built)

abbrev pub put : Page → Bool → Kind → Item → Result Grown PageError
put page before_glue kind item = grown_by page item (placed page.measures (length page.nodes) before_glue kind)

-- and then what else comes, unless the page fires; if it does, the node that comes just stands behind
abbrev pub unless_fires : Page → Item → Result Grown PageError → Built → Result Grown PageError
unless_fires page item more Went = more
unless_fires page item more Fires = Ok (grown (with_node page item) Fires)

abbrev pub and_then : Item → (Page → Result Grown PageError) → Result Grown PageError → Result Grown PageError
and_then item more (Err e) = Err e
and_then item more (Ok g) = unless_fires g.page item (more g.page) g.built
