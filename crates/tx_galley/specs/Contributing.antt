-- Contributions go to the page, one after the other, until it fires (TeX: The Program, sections 994 to 997).
use Rattle.std.specs.Prelude.{Bool, ◌&&◌, List, [], ◌∷◌, ◌++◌, Result, Ok, Err, if◌then◌else◌}
use Rattle.tx_eqtb.specs.declared.table.Table.{Table}
use Rattle.tx_eqtb.specs.Table.{number_at}
use Rattle.tx_node.specs.Items.{Item}
use Rattle.tx_num.specs.Limits.{fits}
use Rattle.tx_pagebuilder.specs.declared.error.PageError.{PageError}
use Rattle.tx_pagebuilder.specs.declared.measures.Built.{Built}
use Rattle.tx_pagebuilder.specs.declared.measures.Built.TheVariants.{Went, Fires}
use Rattle.tx_pagebuilder.specs.Contributed.{contributed as page_contributed}
use Rattle.tx_pagebuilder.specs.Pages.{Grown}
use Rattle.tx_output.specs.declared.pages.Pages.{Pages}
use Rattle.tx_output.specs.Last.{last_item}
use Rattle.tx_prim.specs.declared.dimension.DimensionParameter.TheVariants.{Maxdepth, Vsize}
use Rattle.tx_seen.specs.declared.error.TexError.{TexError}
use Rattle.tx_seen.specs.declared.error.TexError.TheVariants.{SizeOutOfRange}
use Rattle.tx_seen.specs.declared.place.Place.TheVariants.{Dimension}
use Rattle.tx_galley.specs.Errors.{error_of, of_page}
use Rattle.tx_galley.specs.Params.{item_params}

-- what is kept of pages behind contributions, those that are left, and what came of the last one
pub record Contributed : Type 0 where
  pub pages : Pages
  pub rest : List Item
  pub built : Built

abbrev pub contributed : Pages → Built → Contributed
contributed pages built = record { pages = pages; rest = []; built = built }

-- one contribution, which is the last one then, also where it vanishes
abbrev pub contributing_by : Pages → Item → Result Grown PageError → Result Contributed TexError
contributing_by pages item (Err e) = Err (error_of (of_page e))
contributing_by pages item (Ok g) = Ok (contributed (record pages { page = g.page; last = last_item item }) g.built)

-- \vsize and \maxdepth are dimensions, whatever is assigned
abbrev pub may_build : Table → Bool
may_build table = fits (number_at table (Dimension Vsize)) && fits (number_at table (Dimension Maxdepth))

abbrev pub contributing : Table → Pages → Item → Result Contributed TexError
contributing table pages item =
    if may_build table then contributing_by pages item (page_contributed pages.page item (item_params table item)) else Err SizeOutOfRange

-- all of them
abbrev pub unless_fires : List Item → Contributed → Built → Result Contributed TexError → Result Contributed TexError
unless_fires rest c Went more = more
unless_fires rest c Fires more = Ok (record c { rest = rest })

abbrev pub and_all : List Item → (Pages → Result Contributed TexError) → Result Contributed TexError → Result Contributed TexError
and_all rest more (Err e) = Err e
and_all rest more (Ok c) = unless_fires rest c c.built (more c.pages)

abbrev pub contributing_all : Table → Pages → List Item → Result Contributed TexError
contributing_all table pages [] = Ok (contributed pages Went)
contributing_all table pages (item ∷ rest) = and_all rest (λ (p : Pages). contributing_all table p rest) (contributing table pages item)

-- those that are left behind some that went there, or before which the page is to be fired
abbrev pub going_on : Table → Pages → List Item → List Item → Built → Result Contributed TexError
going_on table pages rest list Went = contributing_all table pages list
going_on table pages rest list Fires = Ok (record { pages = pages; rest = rest ++ list; built = Fires })
