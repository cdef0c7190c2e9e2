-- The lists with which a run begins (TeX: The Program, section 215).
use Rattle.std.specs.Prelude.{pos, []}
use Rattle.tx_nest.specs.States.{begun}
use Rattle.tx_prim.specs.declared.modes.Mode.TheVariants.{Vertical}
use Rattle.tx_box.specs.declared.parts.Lists.{Lists}
use Rattle.tx_output.specs.Pages.{first_pages}

-- the pages' list alone, empty, no box, no formula, and no page
abbrev pub first_lists : Lists
first_lists = record {
  nest = record { innermost = record { state = begun Vertical; nodes = []; prev_graf = 0 }; around = [] };
  badness = pos 0;
  boxes = [];
  formulas = [];
  pages = first_pages;
}
