-- Each Bin that becomes an Ord by what stands behind it (The TeXbook, appendix G, rule 6; TeX: The Program, sections 728 and 729).
use Rattle.std.specs.Prelude.{Bool, true, false, ◌&&◌, List, [], ◌∷◌, if◌then◌else◌}
use Rattle.tx_mlist.specs.declared.kinds.AtomKind.{AtomKind}
use Rattle.tx_mlist.specs.declared.kinds.AtomKind.TheVariants.{Ord, Op, Bin, Rel, Open, Close, Punct, Inner, Over, Under, Center, Radical, Accent}
use Rattle.tx_math.specs.Composing.{is_bin}
use Rattle.tx_math.specs.Entries.{Entry, is_noad}

-- what no Bin stands before
abbrev pub lacks_operand : AtomKind → Bool
lacks_operand Ord = false
lacks_operand (Op limits) = false
lacks_operand Bin = false
lacks_operand Rel = true
lacks_operand Open = false
lacks_operand Close = true
lacks_operand Punct = true
lacks_operand Inner = false
lacks_operand Over = false
lacks_operand Under = false
lacks_operand Center = false
lacks_operand (Radical sign) = false
lacks_operand (Accent c) = false

-- whether the first atom of these, or their end, is such
abbrev pub ends_operands : List Entry → Bool
ends_operands [] = true
ends_operands (e ∷ rest) = if is_noad e.item then lacks_operand e.kind else ends_operands rest

-- the kind of an entry before these: a Bin becomes an Ord
abbrev pub kind_before : Entry → List Entry → AtomKind
kind_before e rest = if is_bin e.kind && ends_operands rest then Ord else e.kind
