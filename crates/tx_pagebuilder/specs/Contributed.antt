-- What a contribution makes of a page (TeX: The Program, sections 994 to 1010).
use Rattle.std.specs.Prelude.{nat_le, Bool, false, ℤ, pos, List, [], ◌∷◌, length, Option, Some, None, unwrap_or, Result, Ok, Err, if◌then◌else◌}
use Rattle.tx_num.specs.Glue.{GlueSpec, zero_glue}
use Rattle.tx_node.specs.declared.head.InsertHead.{InsertHead}
use Rattle.tx_node.specs.Items.{Item, Items, none, more, plain, shared, boxed, discretionary, adjustment, insertion, box_leaders}
use Rattle.tx_insert.specs.declared.error.SplitError.{SplitError}
use Rattle.tx_insert.specs.declared.kind.Kind.{Kind}
use Rattle.tx_insert.specs.declared.kind.Kind.TheVariants.{Solid, Skip, Kern, Penalty, Still}
use Rattle.tx_insert.specs.Kinds.{kind_of, is_glue}
use Rattle.tx_insert.specs.Splits.{glue_above, glue_item}
use Rattle.tx_pagebuilder.specs.declared.error.PageError.{PageError}
use Rattle.tx_pagebuilder.specs.declared.error.PageError.TheVariants.{ClassOutOfRange}
use Rattle.tx_pagebuilder.specs.declared.inserted.Inserted.{Inserted}
use Rattle.tx_pagebuilder.specs.declared.kern.Kern.{Kern as KernOf}
use Rattle.tx_pagebuilder.specs.declared.measures.Built.TheVariants.{Went}
use Rattle.tx_pagebuilder.specs.declared.measures.Contents.TheVariants as having
use Rattle.tx_pagebuilder.specs.declared.measures.Measures.{Measures}
use Rattle.tx_pagebuilder.specs.declared.params.ClassParams.{ClassParams}
use Rattle.tx_pagebuilder.specs.declared.params.PageParams.{PageParams}
use Rattle.tx_pagebuilder.specs.Inserts.{taken_in, with_class}
use Rattle.tx_pagebuilder.specs.Kerns.{kern_of, kern_item}
use Rattle.tx_pagebuilder.specs.Pages.{Page, Grown, grown, put, and_then, has_solid, is_frozen, frozen}
use Rattle.tx_pagebuilder.specs.Placing.{of_splitting}

-- the items of an item's list
abbrev pub list_from : Items → List Item
list_from none = []
list_from (more item rest) = item ∷ list_from rest

-- a kern that waited, once it is known whether glue comes behind it
abbrev pub settled_by : Page → Bool → Option KernOf → Result Grown PageError
settled_by page before_glue None = Ok (grown page Went)
settled_by page before_glue (Some kern) = put (record page { waiting = None }) before_glue (Kern kern.size) (kern_item kern)

abbrev pub settled : Page → Bool → Result Grown PageError
settled page before_glue = settled_by page before_glue page.waiting

-- a page that has a box or a rule from now on, or an insertion
abbrev pub solid_measures : PageParams → Measures → Measures
solid_measures params m = if is_frozen m.contents then record m { contents = having.Solid } else frozen params.vsize params.max_depth having.Solid m

abbrev pub insert_measures : PageParams → Measures → Measures
insert_measures params m = if is_frozen m.contents then m else frozen params.vsize params.max_depth having.Inserts m

-- \topskip less the height of the page's first box or rule comes before that
abbrev pub topped_by : Page → Result GlueSpec SplitError → Result Grown PageError
topped_by page (Err e) = Err (of_splitting e)
topped_by page (Ok glue) = put page false (Skip glue) (glue_item glue)

abbrev pub topped_first : Page → ℤ → PageParams → Result Grown PageError
topped_first page height params = topped_by (record page { measures = solid_measures params page.measures }) (glue_above params.top_skip height)

abbrev pub topped : Page → ℤ → PageParams → Result Grown PageError
topped page height params = if has_solid page.measures.contents then Ok (grown page Went) else topped_first page height params

abbrev pub with_solid : Page → ℤ → Kind → Item → PageParams → Result Grown PageError
with_solid page height kind item params = and_then item (λ p. put p false kind item) (topped page height params)

-- glue, kerns and penalties vanish before the first box or rule; a kern waits
abbrev pub with_discardable : Page → Kind → Item → Result Grown PageError
with_discardable page kind item = if has_solid page.measures.contents then put page false kind item else Ok (grown page Went)

abbrev pub with_kern : Page → Item → Grown
with_kern page item = grown (if has_solid page.measures.contents then record page { waiting = kern_of item } else page) Went

-- the registers of a class where none are given
abbrev pub void_class : ClassParams
void_class = record { box_size = None; is_hbox = false; count = pos 0; dimen = pos 0; skip = zero_glue }

-- what an insertion makes of a page before it stands there
abbrev pub inserted_by : Page → Result Inserted PageError → Result Page PageError
inserted_by page (Err e) = Err e
inserted_by page (Ok i) = Ok (record page { measures = i.measures; classes = with_class i.class page.classes })

abbrev pub inserted : Page → InsertHead → List Item → PageParams → Result Page PageError
inserted page head list params =
    if nat_le 255 head.class then Err ClassOutOfRange
    else inserted_by page (taken_in (insert_measures params page.measures) page.classes (length page.nodes) head list (unwrap_or params.class void_class))

abbrev pub prepared : Page → Item → PageParams → Result Page PageError
prepared page (plain p) params = Ok page
prepared page (shared s) params = Ok page
prepared page (boxed shift head inner) params = Ok page
prepared page (discretionary head before behind) params = Ok page
prepared page (adjustment inner) params = Ok page
prepared page (insertion head inner) params = inserted page head (list_from inner) params
prepared page (box_leaders head repeated inner) params = Ok page

-- what stands still: a mark, a special, an insertion
abbrev pub still_by : Item → Result Page PageError → Result Grown PageError
still_by item (Err e) = Err e
still_by item (Ok page) = put page false Still item

abbrev pub with_still : Page → Item → PageParams → Result Grown PageError
with_still page item params = still_by item (prepared page item params)

-- a node, before which no kern waits
abbrev pub taken : Page → Item → PageParams → Kind → Result Grown PageError
taken page item params (Solid height depth) = with_solid page height (Solid height depth) item params
taken page item params (Skip g) = with_discardable page (Skip g) item
taken page item params (Kern size) = Ok (with_kern page item)
taken page item params (Penalty n) = with_discardable page (Penalty n) item
taken page item params Still = with_still page item params

-- one contribution
unfoldable pub contributed : Page → Item → PageParams → Result Grown PageError
contributed page item params = and_then item (λ p. taken p item params (kind_of item)) (settled page (is_glue (kind_of item)))
