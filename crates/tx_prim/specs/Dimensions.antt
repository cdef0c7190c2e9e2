-- The dimension parameters (The TeXbook, chapter 24), in the book's order. INITEX begins with 0pt for each.
use Rattle.std.specs.Prelude.{ℕ, List, codes}
use Rattle.tx_prim.specs.declared.dimension.DimensionParameter.{DimensionParameter}
use Rattle.tx_prim.specs.declared.dimension.DimensionParameter.TheVariants.{Hfuzz, Vfuzz, Overfullrule, Emergencystretch, Hsize, Vsize, Maxdepth, Splitmaxdepth, Boxmaxdepth, Lineskiplimit, Delimitershortfall, Nulldelimiterspace, Scriptspace, Mathsurround, Predisplaysize, Displaywidth, Displayindent, Parindent, Hangindent, Hoffset, Voffset}

-- their names
unfoldable pub dimension_name : DimensionParameter → List ℕ
dimension_name Hfuzz = codes "hfuzz"
dimension_name Vfuzz = codes "vfuzz"
dimension_name Overfullrule = codes "overfullrule"
dimension_name Emergencystretch = codes "emergencystretch"
dimension_name Hsize = codes "hsize"
dimension_name Vsize = codes "vsize"
dimension_name Maxdepth = codes "maxdepth"
dimension_name Splitmaxdepth = codes "splitmaxdepth"
dimension_name Boxmaxdepth = codes "boxmaxdepth"
dimension_name Lineskiplimit = codes "lineskiplimit"
dimension_name Delimitershortfall = codes "delimitershortfall"
dimension_name Nulldelimiterspace = codes "nulldelimiterspace"
dimension_name Scriptspace = codes "scriptspace"
dimension_name Mathsurround = codes "mathsurround"
dimension_name Predisplaysize = codes "predisplaysize"
dimension_name Displaywidth = codes "displaywidth"
dimension_name Displayindent = codes "displayindent"
dimension_name Parindent = codes "parindent"
dimension_name Hangindent = codes "hangindent"
dimension_name Hoffset = codes "hoffset"
dimension_name Voffset = codes "voffset"

-- their numbers in that order
unfoldable pub dimension_number : DimensionParameter → ℕ
dimension_number Hfuzz = 0
dimension_number Vfuzz = 1
dimension_number Overfullrule = 2
dimension_number Emergencystretch = 3
dimension_number Hsize = 4
dimension_number Vsize = 5
dimension_number Maxdepth = 6
dimension_number Splitmaxdepth = 7
dimension_number Boxmaxdepth = 8
dimension_number Lineskiplimit = 9
dimension_number Delimitershortfall = 10
dimension_number Nulldelimiterspace = 11
dimension_number Scriptspace = 12
dimension_number Mathsurround = 13
dimension_number Predisplaysize = 14
dimension_number Displaywidth = 15
dimension_number Displayindent = 16
dimension_number Parindent = 17
dimension_number Hangindent = 18
dimension_number Hoffset = 19
dimension_number Voffset = 20
