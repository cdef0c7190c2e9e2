-- The marks of pages and of splits (TeX: The Program, sections 382, 977, 1012 and 1016).
use Rattle.std.specs.Prelude.{List, Option, Some, None}
use Rattle.tx_char.specs.declared.tokens.Token.{Token}
use Rattle.tx_prim.specs.declared.expandable.MarkKind.{MarkKind}
use Rattle.tx_prim.specs.declared.expandable.MarkKind.TheVariants.{Top, First, Bottom, SplitFirst, SplitBottom}
use Rattle.tx_output.specs.declared.marks.Marks.{Marks}

abbrev pub no_marks : Marks
no_marks = record { top = None; first = None; bottom = None; split_first = None; split_bottom = None }

abbrev pub mark_of : MarkKind → Marks → Option (List Token)
mark_of Top marks = marks.top
mark_of First marks = marks.first
mark_of Bottom marks = marks.bottom
mark_of SplitFirst marks = marks.split_first
mark_of SplitBottom marks = marks.split_bottom

-- one of these, the first one if there are two
abbrev pub or : Option (List Token) → Option (List Token) → Option (List Token)
or None other = other
or (Some mark) other = Some mark

-- behind a page with this first and this last mark: what was the last one is \topmark, and of a page without marks also the first
-- and the last one
abbrev pub of_page : Option (List Token) → Option (List Token) → Marks → Marks
of_page first last marks = record marks { top = marks.bottom; first = or first marks.bottom; bottom = or last marks.bottom }
