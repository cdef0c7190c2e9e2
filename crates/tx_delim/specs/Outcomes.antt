-- What may come of one part after the other.
use Rattle.std.specs.Prelude.{List, ◌++◌, Result, Ok, Err}
use Rattle.tx_node.specs.Items.{Item}
use Rattle.tx_delim.specs.declared.error.DelimError.{DelimError}

-- up to the first error
abbrev pub passed : {A B : Type 0} → Result A DelimError → (A → Result B DelimError) → Result B DelimError
passed (Err e) more = Err e
passed (Ok value) more = more value

-- a list with more behind it
abbrev pub with_more : List Item → Result (List Item) DelimError → Result (List Item) DelimError
with_more list behind = passed behind (λ added. Ok (list ++ added))
