-- The glue parameters (The TeXbook, chapter 24), in the book's order: those of text, then those of formulas, which are told in mu.
-- INITEX begins with zero glue for each.
use Rattle.std.specs.Prelude.{ℕ, Bool, true, false, List, codes}
use Rattle.tx_prim.specs.declared.glue.GlueParameter.{GlueParameter}
use Rattle.tx_prim.specs.declared.glue.GlueParameter.TheVariants.{Baselineskip, Lineskip, Parskip, Abovedisplayskip, Abovedisplayshortskip, Belowdisplayskip, Belowdisplayshortskip, Leftskip, Rightskip, Topskip, Splittopskip, Tabskip, Spaceskip, Xspaceskip, Parfillskip, Thinmuskip, Medmuskip, Thickmuskip}

-- their names
unfoldable pub glue_name : GlueParameter → List ℕ
glue_name Baselineskip = codes "baselineskip"
glue_name Lineskip = codes "lineskip"
glue_name Parskip = codes "parskip"
glue_name Abovedisplayskip = codes "abovedisplayskip"
glue_name Abovedisplayshortskip = codes "abovedisplayshortskip"
glue_name Belowdisplayskip = codes "belowdisplayskip"
glue_name Belowdisplayshortskip = codes "belowdisplayshortskip"
glue_name Leftskip = codes "leftskip"
glue_name Rightskip = codes "rightskip"
glue_name Topskip = codes "topskip"
glue_name Splittopskip = codes "splittopskip"
glue_name Tabskip = codes "tabskip"
glue_name Spaceskip = codes "spaceskip"
glue_name Xspaceskip = codes "xspaceskip"
glue_name Parfillskip = codes "parfillskip"
glue_name Thinmuskip = codes "thinmuskip"
glue_name Medmuskip = codes "medmuskip"
glue_name Thickmuskip = codes "thickmuskip"

-- their numbers in that order
unfoldable pub glue_number : GlueParameter → ℕ
glue_number Baselineskip = 0
glue_number Lineskip = 1
glue_number Parskip = 2
glue_number Abovedisplayskip = 3
glue_number Abovedisplayshortskip = 4
glue_number Belowdisplayskip = 5
glue_number Belowdisplayshortskip = 6
glue_number Leftskip = 7
glue_number Rightskip = 8
glue_number Topskip = 9
glue_number Splittopskip = 10
glue_number Tabskip = 11
glue_number Spaceskip = 12
glue_number Xspaceskip = 13
glue_number Parfillskip = 14
glue_number Thinmuskip = 15
glue_number Medmuskip = 16
glue_number Thickmuskip = 17

-- whether one is told in mu
abbrev pub is_in_mu : GlueParameter → Bool
is_in_mu Thinmuskip = true
is_in_mu Medmuskip = true
is_in_mu Thickmuskip = true
is_in_mu other = false
