-- The page builder is exercised (TeX: The Program, section 994).
use Rattle.std.specs.Prelude.{List, [], ◌∷◌, None, is_some, Result, Ok, Err, if◌then◌else◌}
use Rattle.tx_eqtb.specs.declared.eqtb.Eqtb.{Eqtb}
use Rattle.tx_nest.specs.declared.list.ModeList.{ModeList}
use Rattle.tx_nest.specs.declared.nest.Nest.{Nest}
use Rattle.tx_nest.specs.Changed.{with_nodes}
use Rattle.tx_node.specs.Items.{Item}
use Rattle.tx_pagebuilder.specs.declared.measures.Built.{Built}
use Rattle.tx_pagebuilder.specs.declared.measures.Built.TheVariants.{Went, Fires}
use Rattle.tx_pagebuilder.specs.Fired.{waiting_items}
use Rattle.tx_output.specs.declared.pages.Pages.{Pages}
use Rattle.tx_seen.specs.declared.error.TexError.{TexError}
use Rattle.tx_galley.specs.declared.firing.Next.{Next}
use Rattle.tx_galley.specs.declared.firing.Next.TheVariants.{Goes}
use Rattle.tx_galley.specs.Contributing.{Contributed, contributing_all}
use Rattle.tx_galley.specs.Firing.{Out, firing}

-- contributions go to the page, unless an output is under way, and the page is fired where they fire it
abbrev pub going : List Item → Eqtb → Pages → Out
going list table pages = record { next = Goes; list = list; table = table; pages = pages }

-- a kern that waits for what comes behind it stays on the list (section 1000)
abbrev pub without_kern : Pages → Pages
without_kern pages = record pages { page = record pages.page { waiting = None } }

abbrev pub built_by : Eqtb → Contributed → Built → Result Out TexError
built_by table c Went = Ok (going (waiting_items c.pages.page.waiting) table (without_kern c.pages))
built_by table c Fires = firing c.rest table c.pages

abbrev pub built : Eqtb → Result Contributed TexError → Result Out TexError
built table (Err e) = Err e
built table (Ok c) = built_by table c c.built

abbrev pub building : List Item → Eqtb → Pages → Result Out TexError
building list table pages =
    if is_some pages.output.waiting then Ok (going list table pages) else built table (contributing_all table.table pages list)

-- what is left behind it
pub record Exercised : Type 0 where
  pub next : Next
  pub nest : Nest
  pub table : Eqtb
  pub pages : Pages

abbrev pub exercised_in : (List Item → Nest) → Result Out TexError → Result Exercised TexError
exercised_in nest (Err e) = Err e
exercised_in nest (Ok out) = Ok (record { next = out.next; nest = nest out.list; table = out.table; pages = out.pages })

-- the pages' list is the one that is being built, or the one around a paragraph
abbrev pub exercising_innermost : Nest → Eqtb → Pages → Result Exercised TexError
exercising_innermost nest table pages =
    exercised_in (λ (list : List Item). record nest { innermost = with_nodes nest.innermost list }) (building nest.innermost.nodes table pages)

abbrev pub within : ModeList → Result Exercised TexError → Result Exercised TexError
within innermost (Err e) = Err e
within innermost (Ok x) = Ok (record x { nest = record { innermost = innermost; around = x.nest.innermost ∷ x.nest.around } })

abbrev pub exercising_around : ModeList → List ModeList → Eqtb → Pages → Result Exercised TexError
exercising_around innermost [] table pages = exercising_innermost (record { innermost = innermost; around = [] }) table pages
exercising_around innermost (outer ∷ around) table pages =
    within innermost (exercising_innermost (record { innermost = outer; around = around }) table pages)

abbrev pub exercising : Nest → Eqtb → Pages → Result Exercised TexError
exercising nest table pages = exercising_around nest.innermost nest.around table pages
