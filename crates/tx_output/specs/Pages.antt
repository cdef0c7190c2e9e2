-- What a run begins with (TeX: The Program, sections 383, 593 and 991).
use Rattle.std.specs.Prelude.{pos, None}
use Rattle.tx_pagebuilder.specs.Pages.{empty_page}
use Rattle.tx_output.specs.declared.last.LastItem.TheVariants.{Other}
use Rattle.tx_output.specs.declared.pages.Pages.{Pages}
use Rattle.tx_output.specs.Marks.{no_marks}

abbrev pub first_pages : Pages
first_pages = record { page = empty_page; last = Other; marks = no_marks; dead_cycles = pos 0; output = record { waiting = None } }
