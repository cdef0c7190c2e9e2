-- The integer parameters (The TeXbook, chapter 24), in the book's order.
use Rattle.std.specs.Prelude.{ℕ, ℤ, pos, List, [], ◌∷◌, codes}
use Rattle.tx_prim.specs.declared.integer.IntegerParameter.{IntegerParameter}
use Rattle.tx_prim.specs.declared.integer.IntegerParameter.TheVariants.{Pretolerance, Tolerance, Hbadness, Vbadness, Linepenalty, Hyphenpenalty, Exhyphenpenalty, Binoppenalty, Relpenalty, Clubpenalty, Widowpenalty, Displaywidowpenalty, Brokenpenalty, Predisplaypenalty, Postdisplaypenalty, Interlinepenalty, Floatingpenalty, Outputpenalty, Doublehyphendemerits, Finalhyphendemerits, Adjdemerits, Looseness, Pausing, Holdinginserts, Tracingonline, Tracingmacros, Tracingstats, Tracingparagraphs, Tracingpages, Tracingoutput, Tracinglostchars, Tracingcommands, Tracingrestores, Language, Uchyph, Lefthyphenmin, Righthyphenmin, Globaldefs, Defaulthyphenchar, Defaultskewchar, Escapechar, Endlinechar, Newlinechar, Maxdeadcycles, Hangafter, Fam, Mag, Delimiterfactor, Time, Day, Month, Year, Showboxbreadth, Showboxdepth, Errorcontextlines}
use Rattle.tx_prim.specs.declared.integer.Moment.{Moment}

-- their names
unfoldable pub integer_name : IntegerParameter → List ℕ
integer_name Pretolerance = codes "pretolerance"
integer_name Tolerance = codes "tolerance"
integer_name Hbadness = codes "hbadness"
integer_name Vbadness = codes "vbadness"
integer_name Linepenalty = codes "linepenalty"
integer_name Hyphenpenalty = codes "hyphenpenalty"
integer_name Exhyphenpenalty = codes "exhyphenpenalty"
integer_name Binoppenalty = codes "binoppenalty"
integer_name Relpenalty = codes "relpenalty"
integer_name Clubpenalty = codes "clubpenalty"
integer_name Widowpenalty = codes "widowpenalty"
integer_name Displaywidowpenalty = codes "displaywidowpenalty"
integer_name Brokenpenalty = codes "brokenpenalty"
integer_name Predisplaypenalty = codes "predisplaypenalty"
integer_name Postdisplaypenalty = codes "postdisplaypenalty"
integer_name Interlinepenalty = codes "interlinepenalty"
integer_name Floatingpenalty = codes "floatingpenalty"
integer_name Outputpenalty = codes "outputpenalty"
integer_name Doublehyphendemerits = codes "doublehyphendemerits"
integer_name Finalhyphendemerits = codes "finalhyphendemerits"
integer_name Adjdemerits = codes "adjdemerits"
integer_name Looseness = codes "looseness"
integer_name Pausing = codes "pausing"
integer_name Holdinginserts = codes "holdinginserts"
integer_name Tracingonline = codes "tracingonline"
integer_name Tracingmacros = codes "tracingmacros"
integer_name Tracingstats = codes "tracingstats"
integer_name Tracingparagraphs = codes "tracingparagraphs"
integer_name Tracingpages = codes "tracingpages"
integer_name Tracingoutput = codes "tracingoutput"
integer_name Tracinglostchars = codes "tracinglostchars"
integer_name Tracingcommands = codes "tracingcommands"
integer_name Tracingrestores = codes "tracingrestores"
integer_name Language = codes "language"
integer_name Uchyph = codes "uchyph"
integer_name Lefthyphenmin = codes "lefthyphenmin"
integer_name Righthyphenmin = codes "righthyphenmin"
integer_name Globaldefs = codes "globaldefs"
integer_name Defaulthyphenchar = codes "defaulthyphenchar"
integer_name Defaultskewchar = codes "defaultskewchar"
integer_name Escapechar = codes "escapechar"
integer_name Endlinechar = codes "endlinechar"
integer_name Newlinechar = codes "newlinechar"
integer_name Maxdeadcycles = codes "maxdeadcycles"
integer_name Hangafter = codes "hangafter"
integer_name Fam = codes "fam"
integer_name Mag = codes "mag"
integer_name Delimiterfactor = codes "delimiterfactor"
integer_name Time = codes "time"
integer_name Day = codes "day"
integer_name Month = codes "month"
integer_name Year = codes "year"
integer_name Showboxbreadth = codes "showboxbreadth"
integer_name Showboxdepth = codes "showboxdepth"
integer_name Errorcontextlines = codes "errorcontextlines"

-- their numbers in that order
unfoldable pub integer_number : IntegerParameter → ℕ
integer_number Pretolerance = 0
integer_number Tolerance = 1
integer_number Hbadness = 2
integer_number Vbadness = 3
integer_number Linepenalty = 4
integer_number Hyphenpenalty = 5
integer_number Exhyphenpenalty = 6
integer_number Binoppenalty = 7
integer_number Relpenalty = 8
integer_number Clubpenalty = 9
integer_number Widowpenalty = 10
integer_number Displaywidowpenalty = 11
integer_number Brokenpenalty = 12
integer_number Predisplaypenalty = 13
integer_number Postdisplaypenalty = 14
integer_number Interlinepenalty = 15
integer_number Floatingpenalty = 16
integer_number Outputpenalty = 17
integer_number Doublehyphendemerits = 18
integer_number Finalhyphendemerits = 19
integer_number Adjdemerits = 20
integer_number Looseness = 21
integer_number Pausing = 22
integer_number Holdinginserts = 23
integer_number Tracingonline = 24
integer_number Tracingmacros = 25
integer_number Tracingstats = 26
integer_number Tracingparagraphs = 27
integer_number Tracingpages = 28
integer_number Tracingoutput = 29
integer_number Tracinglostchars = 30
integer_number Tracingcommands = 31
integer_number Tracingrestores = 32
integer_number Language = 33
integer_number Uchyph = 34
integer_number Lefthyphenmin = 35
integer_number Righthyphenmin = 36
integer_number Globaldefs = 37
integer_number Defaulthyphenchar = 38
integer_number Defaultskewchar = 39
integer_number Escapechar = 40
integer_number Endlinechar = 41
integer_number Newlinechar = 42
integer_number Maxdeadcycles = 43
integer_number Hangafter = 44
integer_number Fam = 45
integer_number Mag = 46
integer_number Delimiterfactor = 47
integer_number Time = 48
integer_number Day = 49
integer_number Month = 50
integer_number Year = 51
integer_number Showboxbreadth = 52
integer_number Showboxdepth = 53
integer_number Errorcontextlines = 54

-- all of them
unfoldable pub all_integers : List IntegerParameter
all_integers = Pretolerance ∷ Tolerance ∷ Hbadness ∷ Vbadness ∷ Linepenalty ∷ Hyphenpenalty ∷ Exhyphenpenalty ∷ Binoppenalty ∷ Relpenalty ∷ Clubpenalty ∷ Widowpenalty ∷ Displaywidowpenalty ∷ Brokenpenalty ∷ Predisplaypenalty ∷ Postdisplaypenalty ∷ Interlinepenalty ∷ Floatingpenalty ∷ Outputpenalty ∷ Doublehyphendemerits ∷ Finalhyphendemerits ∷ Adjdemerits ∷ Looseness ∷ Pausing ∷ Holdinginserts ∷ Tracingonline ∷ Tracingmacros ∷ Tracingstats ∷ Tracingparagraphs ∷ Tracingpages ∷ Tracingoutput ∷ Tracinglostchars ∷ Tracingcommands ∷ Tracingrestores ∷ Language ∷ Uchyph ∷ Lefthyphenmin ∷ Righthyphenmin ∷ Globaldefs ∷ Defaulthyphenchar ∷ Defaultskewchar ∷ Escapechar ∷ Endlinechar ∷ Newlinechar ∷ Maxdeadcycles ∷ Hangafter ∷ Fam ∷ Mag ∷ Delimiterfactor ∷ Time ∷ Day ∷ Month ∷ Year ∷ Showboxbreadth ∷ Showboxdepth ∷ Errorcontextlines ∷ []

-- the values with which INITEX begins (TeX: The Program, section 240; the date parameters are those of the run's words)
unfoldable pub initial_integer : Moment → IntegerParameter → ℤ
initial_integer begun Tolerance = pos 10000
initial_integer begun Escapechar = pos 92
initial_integer begun Endlinechar = pos 13
initial_integer begun Maxdeadcycles = pos 25
initial_integer begun Hangafter = pos 1
initial_integer begun Mag = pos 1000
initial_integer begun Time = begun.time
initial_integer begun Day = begun.day
initial_integer begun Month = begun.month
initial_integer begun Year = begun.year
initial_integer begun other = pos 0
