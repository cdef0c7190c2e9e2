-- The numbers by which refusals name rules.
use Rattle.std.specs.Prelude.{ℕ}
use Rattle.tx_script.specs.declared.error.Rule.{Rule}
use Rattle.tx_script.specs.declared.error.Rule.TheVariants.{File, Word, Number, Name, Put, LineFeed, Count, Page}

-- 1 to 8, in the order in which a script is read, and then a request
abbrev pub number_of : Rule → ℕ
number_of File = 1
number_of Word = 2
number_of Number = 3
number_of Name = 4
number_of Put = 5
number_of LineFeed = 6
number_of Count = 7
number_of Page = 8
