-- What can be asked of a page, and assigned (TeX: The Program, sections 421 and 1245).
use Rattle.std.specs.Prelude.{◌^◌, ◌-◌, ◌<◌, ℤ, pos, unsigned_abs}
use Rattle.tx_num.specs.Glue.{IsDimension}
use Rattle.tx_insert.specs.declared.sums.Sums.{Sums}
use Rattle.tx_pagebuilder.specs.declared.measures.Contents.{Contents}
use Rattle.tx_pagebuilder.specs.declared.measures.Contents.TheVariants.{Nothing, Fired, Inserts, Solid}
use Rattle.tx_pagebuilder.specs.declared.measures.Measures.{Measures}
use Rattle.tx_prim.specs.declared.family.PageQuantity.{PageQuantity}
use Rattle.tx_prim.specs.declared.family.PageQuantity.TheVariants.{Goal, Total, Stretch, FilStretch, FillStretch, FilllStretch, Shrink, Depth, InsertPenalties}

-- a quantity as it stands
abbrev pub quantity : PageQuantity → Measures → ℤ
quantity Goal m = m.goal
quantity Total m = m.sums.height
quantity Stretch m = m.sums.normal
quantity FilStretch m = m.sums.fil
quantity FillStretch m = m.sums.fill
quantity FilllStretch m = m.sums.filll
quantity Shrink m = m.sums.shrink
quantity Depth m = m.sums.depth
quantity InsertPenalties m = m.insert_penalties

-- what is shown of it while the page has nothing that counts: the goal is the greatest dimension, the others are 0
abbrev pub unset : PageQuantity → Measures → ℤ
unset Goal m = pos (2 ^ 30 - 1)
unset Total m = pos 0
unset Stretch m = pos 0
unset FilStretch m = pos 0
unset FillStretch m = pos 0
unset FilllStretch m = pos 0
unset Shrink m = pos 0
unset Depth m = pos 0
unset InsertPenalties m = m.insert_penalties

abbrev pub shown_by : PageQuantity → Measures → Contents → ℤ
shown_by q m Nothing = unset q m
shown_by q m Fired = quantity q m
shown_by q m Inserts = quantity q m
shown_by q m Solid = quantity q m

abbrev pub shown : PageQuantity → Measures → ℤ
shown q m = shown_by q m m.contents

-- a quantity is assigned; all but the goal and \insertpenalties are among the sums
abbrev pub summed : PageQuantity → ℤ → Sums → Sums
summed Goal v sums = sums
summed Total v sums = record sums { height = v }
summed Stretch v sums = record sums { normal = v }
summed FilStretch v sums = record sums { fil = v }
summed FillStretch v sums = record sums { fill = v }
summed FilllStretch v sums = record sums { filll = v }
summed Shrink v sums = record sums { shrink = v }
summed Depth v sums = record sums { depth = v }
summed InsertPenalties v sums = sums

abbrev pub assigned : PageQuantity → ℤ → Measures → Measures
assigned Goal v m = record m { goal = v }
assigned Total v m = record m { sums = summed Total v m.sums }
assigned Stretch v m = record m { sums = summed Stretch v m.sums }
assigned FilStretch v m = record m { sums = summed FilStretch v m.sums }
assigned FillStretch v m = record m { sums = summed FillStretch v m.sums }
assigned FilllStretch v m = record m { sums = summed FilllStretch v m.sums }
assigned Shrink v m = record m { sums = summed Shrink v m.sums }
assigned Depth v m = record m { sums = summed Depth v m.sums }
assigned InsertPenalties v m = record m { insert_penalties = v }

-- a value that can be assigned to a quantity: an integer to \insertpenalties, a dimension to the others
abbrev pub IsValue : PageQuantity → ℤ → Type 0
IsValue Goal v = IsDimension v
IsValue Total v = IsDimension v
IsValue Stretch v = IsDimension v
IsValue FilStretch v = IsDimension v
IsValue FillStretch v = IsDimension v
IsValue FilllStretch v = IsDimension v
IsValue Shrink v = IsDimension v
IsValue Depth v = IsDimension v
IsValue InsertPenalties v = unsigned_abs v < 2 ^ 31
