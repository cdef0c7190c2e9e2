-- The numbers by which refusals name rules.
use Rattle.std.specs.Prelude.{ℕ}
use Rattle.tx_dvitype.specs.declared.error.DviRule.{DviRule}
use Rattle.tx_dvitype.specs.declared.error.DviRule.TheVariants.{File, Preamble, Page, Command, Postamble, End}

-- 1 to 6, in the order in which a file is read
abbrev pub number_of : DviRule → ℕ
number_of File = 1
number_of Preamble = 2
number_of Page = 3
number_of Command = 4
number_of Postamble = 5
number_of End = 6
