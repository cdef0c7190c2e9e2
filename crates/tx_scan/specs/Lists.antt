-- Lists of tokens that stand in the table (TeX: The Program, sections 415 and 1227).
use Rattle.tx_prim.specs.declared.family.Numbered.TheVariants as number
use Rattle.tx_prim.specs.declared.primitive.Primitive.TheVariants as primitive
use Rattle.tx_seen.specs.declared.meaning.Meaning.{Meaning}
use Rattle.tx_seen.specs.declared.meaning.Meaning.TheVariants.{Command, ToksRegister}
use Rattle.tx_seen.specs.declared.place.Place.TheVariants as place
use Rattle.tx_scan.specs.declared.scans.ListBegun.{ListBegun}
use Rattle.tx_scan.specs.declared.scans.ListBegun.TheVariants.{Nothing, At, Register}

-- which list a token stands for that means this: that of a parameter, of a register that has a name of its own, or of the register
-- whose number follows
abbrev pub list_begun : Meaning → ListBegun
list_begun (ToksRegister n) = At (place.Toks n)
list_begun (Command (primitive.Tokens parameter)) = At (place.Tokens parameter)
list_begun (Command (primitive.Numbered number.Toks)) = Register
list_begun other = Nothing
