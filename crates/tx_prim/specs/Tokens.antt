-- The parameters that are lists of tokens (The TeXbook, chapter 24), in the book's order. INITEX begins with an empty list for each.
use Rattle.std.specs.Prelude.{ℕ, List, codes}
use Rattle.tx_prim.specs.declared.tokens.TokenParameter.{TokenParameter}
use Rattle.tx_prim.specs.declared.tokens.TokenParameter.TheVariants.{Output, Everypar, Everymath, Everydisplay, Everyhbox, Everyvbox, Everyjob, Everycr, Errhelp}

-- their names
unfoldable pub token_name : TokenParameter → List ℕ
token_name Output = codes "output"
token_name Everypar = codes "everypar"
token_name Everymath = codes "everymath"
token_name Everydisplay = codes "everydisplay"
token_name Everyhbox = codes "everyhbox"
token_name Everyvbox = codes "everyvbox"
token_name Everyjob = codes "everyjob"
token_name Everycr = codes "everycr"
token_name Errhelp = codes "errhelp"

-- their numbers in that order
unfoldable pub token_number : TokenParameter → ℕ
token_number Output = 0
token_number Everypar = 1
token_number Everymath = 2
token_number Everydisplay = 3
token_number Everyhbox = 4
token_number Everyvbox = 5
token_number Everyjob = 6
token_number Everycr = 7
token_number Errhelp = 8
